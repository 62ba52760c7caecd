-- One more type of the module, and where one name leads from it.
use Rattle.std.proofs.Common.{[], ◌∷◌, ◌++◌, ap, ◌∙◌}
use Rattle.aos_check_types.proofs.Ahead.{step_more}
use Rattle.aos_check_types.proofs.aliases.steps.Goals as goal

pub loop-number-preserved : goal.loop-number-preserved
loop-number-preserved c =
    c.in_ok-push.ensures.items ∙ ap (λ t. c.loop-number.ahead.items ++ t ∷ []) c.step.ensures
    ∙ step_more c.args.first c.args.targets.now c.loop-number.number c.loop-number.ahead.items c.loop-number.invariant
