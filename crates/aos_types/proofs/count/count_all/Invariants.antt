use Rattle.std.proofs.Common.{◌≡◌, ◌<◌, ℕ, vec_capacity, slice_get}
use Rattle.std.specs.Prelude.{false}
use Rattle.aos_types.specs.Count.{AreMade, AreFree, is_missing}
use Rattle.aos_types.proofs.count.count_all.Given as goal

abbrev pub invariant-loop-number : goal.invariant-loop-number
invariant-loop-number l =
    AreMade l.rows l.counts × AreFree l.rows l.counts × ((k : ℕ) → k < l.number → is_missing (slice_get l.counts k) ≡ false) × (vec_capacity l.path ≡ vec_capacity l.fn.path)
