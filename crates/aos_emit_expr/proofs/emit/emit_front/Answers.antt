use Rattle.aos_emit_expr.proofs.emit.emit_front.Goals as goal

pub returns : goal.returns
returns c = c.emit_source.ensures
