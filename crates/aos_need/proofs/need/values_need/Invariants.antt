use Rattle.std.proofs.Common.{◌≡◌, ◌≤◌, drop, length, map}
use Rattle.aos_typed.specs.Seen.{seen_expr}
use Rattle.aos_sim.specs.Need.{values_need}
use Rattle.aos_need.proofs.need.values_need.Given as goal

-- that of the last values
abbrev pub invariant-loop-left : goal.invariant-loop-left
invariant-loop-left l = (l.left ≤ length l.values) × (l.need ≡ values_need (map seen_expr (drop l.left l.values)))

abbrev pub decreases-loop-left : goal.decreases-loop-left
decreases-loop-left l = l.left
