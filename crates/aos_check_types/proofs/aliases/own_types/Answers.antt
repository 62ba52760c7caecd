-- One more type of the module.
use Rattle.std.proofs.Common.{[], ◌∙◌}
use Rattle.aos_check_types.proofs.Ahead.{own_more}
use Rattle.aos_check_types.proofs.aliases.own_types.Goals as goal

pub loop-number-preserved : goal.loop-number-preserved
loop-number-preserved c =
    c.in_ok-push.ensures.items ∙ own_more c.args.first [] c.loop-number.number c.loop-number.own.items c.loop-number.invariant
