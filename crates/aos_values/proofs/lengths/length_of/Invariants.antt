use Rattle.std.proofs.Common.{◌≡◌}
use Rattle.aos_values.specs.Arrays as judge
use Rattle.aos_values.proofs.lengths.length_of.Given as goal

-- what is asked of what was reached so far is what was asked of the whole
abbrev pub invariant-loop-length : goal.invariant-loop-length
invariant-loop-length l = judge.length_of l.env l.of l.left ≡ judge.length_of l.env l.initial.of l.dimension

abbrev pub decreases-loop-length : goal.decreases-loop-length
decreases-loop-length l = l.left
