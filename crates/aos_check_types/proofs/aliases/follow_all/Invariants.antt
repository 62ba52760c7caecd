-- The rounds, each of which knows where twice as many names lead as the one before.
use Rattle.aos_check_types.proofs.Ahead.{IsFar}
use Rattle.aos_check_types.proofs.aliases.follow_all.Given as goal

abbrev pub invariant-loop-left : goal.invariant-loop-left
invariant-loop-left l = IsFar l.first l.targets l.reached.items l.ahead.items l.left

abbrev pub decreases-loop-left : goal.decreases-loop-left
decreases-loop-left l = l.left
