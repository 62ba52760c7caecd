use Rattle.std.proofs.Common.{Some, ap, ◌∙◌}
use Rattle.aos_layout.specs.Frame.{FrameShape}
use Rattle.aos_typed.specs.Seen.{seen_body, seen_program, seen_procedure, seen_stats}
use Rattle.aos_sim.specs.Code.{body_code}
use Rattle.aos_sim.specs.Need.{body_need}
use Rattle.aos_emit_expr.specs.Scope.{program_of, own_of}
use Rattle.aos_emit.proofs.bodies.procedure_body.Goals as goal

pub procedure-scope-requires : goal.procedure-scope-requires
procedure-scope-requires c =
    let f = c.in_ok-shape.ensures in
    record { first = c.deref.ensures.value ∙ ap (λ (x : FrameShape). x.places) f; all = ap (λ (x : FrameShape). x.shape.cells) f }

pub returns-clause-code : goal.returns-clause-code
returns-clause-code c =
    let p = seen_program c.args.laid.now in
    let q = seen_procedure c.args.procedure.now in
    c.in_ok-body.ensures.code
    ∙ ap (λ s. body_code (program_of s) (own_of s) (seen_body q.body.is_exclusive c.deref-2.result.now)) c.procedure-scope.ensures
    ∙ ap (λ l. body_code p (Some q) (seen_body q.body.is_exclusive l)) c.deref-2.ensures.value

pub returns-clause-depth : goal.returns-clause-depth
returns-clause-depth c = c.in_ok-body.ensures.depth ∙ ap (λ l. body_need (seen_stats l)) c.deref-2.ensures.value
