-- The invariant and the measure of the loop of `take_back`.
use Rattle.std.proofs.Common.{◌+◌, ℕ, Bool, IsFalse, count_by, if◌then◌else◌}
use Rattle.aos_guard.specs.Marks.{marked, IsClosed, IsWithin}
use Rattle.aos_guard.proofs.marks.take_back.Given as goal

abbrev pub invariant-loop-changed : goal.invariant-loop-changed
invariant-loop-changed l = record {
  less : IsWithin (marked l.marks.items) (marked l.fn.marks.items);
  kept : (set : ℕ → Bool) → IsClosed l.edges set → IsWithin set (marked l.fn.marks.items) → IsWithin set (marked l.marks.items);
  stop : IsFalse l.changed → IsClosed l.edges (marked l.marks.items);
}

abbrev pub decreases-loop-changed : goal.decreases-loop-changed
decreases-loop-changed l = (if l.changed then 1 else 0) + count_by (λ b. b) l.marks.items
