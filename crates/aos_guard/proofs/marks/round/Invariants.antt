-- The invariant and the measure of the loop of `round`.
use Rattle.std.proofs.Common.{◌≡◌, ◌<◌, ◌≤◌, ℕ, Bool, get_or, IsTrue, IsFalse, count_by}
use Rattle.aos_guard.specs.declared.marks.Edge.{Edge}
use Rattle.aos_guard.specs.Marks.{marked, KeepsEdge, IsClosed, IsWithin}
use Rattle.aos_guard.proofs.marks.round.Given as goal

abbrev pub invariant-loop-edge : goal.invariant-loop-edge
invariant-loop-edge l = record {
  less : IsWithin (marked l.marks.items) (marked l.fn.marks.items);
  kept : (set : ℕ → Bool) → IsClosed l.edges set → IsWithin set (marked l.fn.marks.items) → IsWithin set (marked l.marks.items);
  stop : IsFalse l.changed → (k : ℕ) (d : Edge) → k < l.edge-index → KeepsEdge (marked l.marks.items) (get_or l.edges k d);
  most : count_by (λ b. b) l.marks.items ≤ count_by (λ b. b) l.fn.marks.items;
  fewer : IsTrue l.changed → count_by (λ b. b) l.marks.items < count_by (λ b. b) l.fn.marks.items;
  same : IsFalse l.changed → l.marks.items ≡ l.fn.marks.items;
}
