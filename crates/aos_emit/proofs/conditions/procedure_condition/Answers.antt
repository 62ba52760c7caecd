use Rattle.std.proofs.Common.{ap, ◌∙◌}
use Rattle.aos_layout.specs.Frame.{FrameShape}
use Rattle.aos_typed.specs.Seen.{seen_expr}
use Rattle.aos_sim.specs.Code.{condition_code}
use Rattle.aos_emit_expr.specs.Scope.{program_of, own_of}
use Rattle.aos_emit.proofs.conditions.procedure_condition.Goals as goal

pub procedure-scope-requires : goal.procedure-scope-requires
procedure-scope-requires c =
    let f = c.in_ok-shape.ensures in
    record { first = c.deref.ensures.value ∙ ap (λ (x : FrameShape). x.places) f; all = ap (λ (x : FrameShape). x.shape.cells) f }

pub returns-clause-code : goal.returns-clause-code
returns-clause-code c =
    c.in_ok-body.ensures.code
    ∙ ap (λ s. condition_code (program_of s) (own_of s) (seen_expr c.args.condition.now)) c.procedure-scope.ensures
