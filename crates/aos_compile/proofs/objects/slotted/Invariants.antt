-- The loop over procedures: each is a method with its slot.
use Rattle.std.proofs.Common.{◌≡◌, length, map}
use Rattle.aos_typed.specs.Seen.{seen_method, seen_procedure}
use Rattle.aos_compile.specs.Modules as judge
use Rattle.aos_compile.proofs.objects.slotted.Given as goal

abbrev pub invariant-loop-procedure : goal.invariant-loop-procedure
invariant-loop-procedure l = record {
  told : map seen_method l.all.items ≡ judge.slotted l.home l.object 0 (map seen_procedure l.yielded);
  count : l.number ≡ length l.yielded;
}
