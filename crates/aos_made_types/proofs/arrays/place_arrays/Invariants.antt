-- The loop from the last length to the second: the arrays of the lengths behind are placed.
use Rattle.std.proofs.Common.{◌≡◌, ◌≤◌, drop, length}
use Rattle.aos_made_types.specs.Arrays as judge
use Rattle.aos_made_types.proofs.arrays.place_arrays.Given as goal

abbrev pub invariant-loop-left : goal.invariant-loop-left
invariant-loop-left l = record {
  some : 1 ≤ l.left;
  within : l.left ≤ length l.lengths;
  placed : judge.met l.env l.of ≡ judge.inner_arrays l.at (drop l.left l.lengths) (judge.met l.initial.env l.initial.of);
}

abbrev pub decreases-loop-left : goal.decreases-loop-left
decreases-loop-left l = l.left
