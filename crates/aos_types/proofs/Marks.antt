-- Marks: what a new one leaves of the others, and how many are left to make.
use Rattle.std.proofs.Common.{◌≡◌, ℕ, zero, suc, List, [], ◌∷◌, Some, refl, ap}
use Rattle.std.specs.Prelude.{Bool, true, false, slice_get, slice_set, replicate}
use mathlib.Core.Logic.{◌⊎◌, inl, inr}

-- how many marks aren't made
abbrev pub unmarked : List Bool → ℕ
unmarked [] = 0
unmarked (true ∷ s) = unmarked s
unmarked (false ∷ s) = suc (unmarked s)

pub marked_here : (s : List Bool) (k : ℕ) (b : Bool) → slice_get s k ≡ Some b → slice_get (slice_set s k true) k ≡ Some true
marked_here [] k b e = absurd (cc)
marked_here (x ∷ s) zero b e = refl
marked_here (x ∷ s) (suc k) b e = marked_here s k b e

pub marked_still : (s : List Bool) (k j : ℕ) → slice_get s j ≡ Some true → slice_get (slice_set s k true) j ≡ Some true
marked_still [] k j e = absurd (cc)
marked_still (x ∷ s) zero zero e = refl
marked_still (x ∷ s) zero (suc j) e = e
marked_still (x ∷ s) (suc k) zero e = e
marked_still (x ∷ s) (suc k) (suc j) e = marked_still s k j e

pub marked_before : (s : List Bool) (k j : ℕ) → slice_get (slice_set s k true) j ≡ Some true → (slice_get s j ≡ Some true) ⊎ (k ≡ j)
marked_before [] k j e = absurd (cc)
marked_before (x ∷ s) zero zero e = inr refl
marked_before (x ∷ s) zero (suc j) e = inl e
marked_before (x ∷ s) (suc k) zero e = inl e
marked_before (x ∷ s) (suc k) (suc j) e = one_more (marked_before s k j e)
  where
    one_more : (slice_get s j ≡ Some true) ⊎ (k ≡ j) → (slice_get s j ≡ Some true) ⊎ (suc k ≡ suc j)
    one_more (inl a) = inl a
    one_more (inr b) = inr (ap (λ n. suc n) b)

pub one_fewer : (s : List Bool) (k : ℕ) → slice_get s k ≡ Some false → suc (unmarked (slice_set s k true)) ≡ unmarked s
one_fewer [] k e = absurd (cc)
one_fewer (true ∷ s) zero e = absurd (cc)
one_fewer (false ∷ s) zero e = refl
one_fewer (true ∷ s) (suc k) e = one_fewer s k e
one_fewer (false ∷ s) (suc k) e = ap (λ n. suc n) (one_fewer s k e)

pub none_marked : (n j : ℕ) → slice_get (replicate n false) j ≡ Some true → ⊥
none_marked zero j e = cc
none_marked (suc n) zero e = cc
none_marked (suc n) (suc j) e = none_marked n j e
