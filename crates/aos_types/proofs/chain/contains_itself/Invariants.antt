use Rattle.std.proofs.Common.{◌+◌, ◌-◌, length}
use Rattle.aos_types.proofs.Marks.{unmarked}
use Rattle.aos_types.proofs.Reached.{IsWalk}
use Rattle.aos_types.proofs.chain.contains_itself.Given as goal

abbrev pub invariant-loop-reached : goal.invariant-loop-reached
invariant-loop-reached l = IsWalk l.rows l.t l.next l.walk

abbrev pub decreases-loop-reached : goal.decreases-loop-reached
decreases-loop-reached l = unmarked l.walk.seen + (length l.walk.order - l.next)
