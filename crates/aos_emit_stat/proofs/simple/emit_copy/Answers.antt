use Rattle.std.proofs.Common.{◌+◌, ◌∷◌, ◌++◌, length, ap, ◌∙◌}
use Rattle.std.proofs.lemmas.Result.{on_ok_weaker}
use Rattle.aos_code.specs.declared.instr.Instr.TheVariants.{Copy}
use Rattle.aos_typed.specs.Seen.{seen_place}
use Rattle.aos_sim.specs.Code.{begin, operands_code, place_code}
use Rattle.aos_emit_expr.specs.Scope.{program_of, own_of}
use Rattle.aos_emit_stat.proofs.simple.emit_copy.Goals as goal

pub returns : goal.returns
returns c =
    let p = program_of c.args.scope.now in
    let own = own_of c.args.scope.now in
    let base = c.args.code.now.items in
    let first = place_code p own (seen_place c.args.to.now) (length base + 1) in
    let second = place_code p own (seen_place c.args.from.now) (length base + 1 + length first) in
    on_ok_weaker c.emit_two.result
    (λ e. e ∙ ap (λ n. base ++ begin c.args.at ∷ operands_code first second (Copy n)) c.cells_of.ensures) c.emit_two.ensures
