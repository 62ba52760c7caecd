use Rattle.std.proofs.Common.{suc, ◌+◌, ◌*◌, ◌-◌, ◌≡◌, length, vec_capacity}
use Rattle.aos_types.proofs.Path.{absent}
use Rattle.aos_types.proofs.Way.{IsOnWay}
use Rattle.aos_types.proofs.count.count_from.Given as goal

abbrev pub invariant-loop-top : goal.invariant-loop-top
invariant-loop-top l = IsOnWay l.rows l.fn.counts l.fn.t l.counts l.path.items × (vec_capacity l.path ≡ vec_capacity l.fn.path)

abbrev pub decreases-loop-top : goal.decreases-loop-top
decreases-loop-top l = absent l.counts * (length l.rows + 2) + (suc (length l.rows) - length l.path.items)
