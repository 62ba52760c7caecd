-- Sums over lists, and how often a number stands in one.
use Rattle.std.specs.Prelude.{◌≡◌, ℕ, zero, suc, ◌+◌, ◌^◌, ◌≤◌, ◌==◌, List, [], ◌∷◌, Bool, true, false}

-- f of each, added up
abbrev pub total : {A : Type 0} → (A → ℕ) → List A → ℕ
total f [] = 0
total f (x ∷ xs) = f x + total f xs

abbrev pub one_if : Bool → ℕ
one_if true = 1
one_if false = 0

-- how often x stands in the list
abbrev pub times : ℕ → List ℕ → ℕ
times x [] = 0
times x (y ∷ ys) = one_if (y == x) + times x ys

-- the numbers below n, the greatest first
abbrev pub below : ℕ → List ℕ
below zero = []
below (suc n) = n ∷ below n

-- the numbers of the list as the bits of one number
abbrev pub mask : List ℕ → ℕ
mask [] = 0
mask (x ∷ xs) = 2 ^ x + mask xs

-- each stands there once at most, and is below 16
abbrev pub AreDistinct : List ℕ → Type 0
AreDistinct ws = ((w : ℕ) → times w ws ≤ 1) × ((w : ℕ) → 16 ≤ w → times w ws ≡ 0)
