use Rattle.std.proofs.Common.{◌≡◌}
use Rattle.aos_typed.specs.Open.{first_from, first_same}
use Rattle.aos_known.proofs.kinds.first_same.Given as goal

-- the first among the types that are left is the first of all
abbrev pub invariant-loop-left : goal.invariant-loop-left
invariant-loop-left l = first_from l.left l.number l.types l.of ≡ first_same l.types l.of

abbrev pub decreases-loop-left : goal.decreases-loop-left
decreases-loop-left l = l.left
