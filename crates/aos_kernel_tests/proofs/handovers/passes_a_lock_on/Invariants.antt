use Rattle.std.proofs.Common.{◌≡◌, length}
use Rattle.aos_kernel_tests.specs.Waits.{Keeps}
use Rattle.aos_kernel_tests.proofs.handovers.passes_a_lock_on.Given as goal

abbrev pub invariant-loop-call : goal.invariant-loop-call
invariant-loop-call g l = record {
  keeps : Keeps l.links l.locks l.waits;
  few : length l.waits ≡ 4;
}
