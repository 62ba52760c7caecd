-- The loop over places, from the last to the first: the arrays behind this place are there.
use Rattle.std.proofs.Common.{◌≡◌, ◌≤◌, length, drop}
use Rattle.aos_made_types.specs.Met.{met}
use Rattle.aos_made_types.specs.Formals.{opened}
use Rattle.aos_made_types.proofs.formals.place_open.Given as goal

abbrev pub invariant-loop-left : goal.invariant-loop-left
invariant-loop-left l = record {
  within : l.left ≤ length l.places;
  arrays : met l.env l.met ≡ opened (drop l.left l.places) (met l.initial.env l.initial.met);
}

abbrev pub decreases-loop-left : goal.decreases-loop-left
decreases-loop-left l = l.left
