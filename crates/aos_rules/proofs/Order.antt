-- The order of texts is that of lists of numbers.
use Rattle.std.proofs.Common.{◌≡◌, ℕ, ℤ, pos, negsuc, List, [], ◌∷◌, Bool, true, false, nat_eq, nat_lt, if◌then◌else◌, Ordering, Less, Equal, Greater, refl, arith}
use Rattle.std.proofs.lemmas.Bool.{ltb-true, eqb-true}
use Rattle.std.specs.Cmp.Lexicographic.{slice_cmp}
use Rattle.std.specs.Ordering.{ordering_then, nat_cmp}
use Rattle.aos_base.specs.Text.{order}

-- the number that an order is given as
abbrev pub number_of : Ordering → ℤ
number_of Less = negsuc 0
number_of Equal = pos 0
number_of Greater = pos 1

pub order_is : (xs ys : List ℕ) → order xs ys ≡ number_of (slice_cmp nat_cmp xs ys)
order_is [] [] = refl
order_is [] (y ∷ ys) = refl
order_is (x ∷ xs) [] = refl
order_is (x ∷ xs) (y ∷ ys) = by (order_is xs ys) (nat_lt x y) refl (nat_eq x y) refl
  where
    rest : Ordering
    rest = slice_cmp nat_cmp xs ys

    by : order xs ys ≡ number_of rest → (b : Bool) → nat_lt x y ≡ b → (c : Bool) → nat_eq x y ≡ c →
        (if c then order xs ys else (if b then negsuc 0 else pos 1)) ≡ number_of (ordering_then (if b then Less else if c then Equal else Greater) rest)
    by same true i true j =
        let below = ltb-true x y i in
        let equal = eqb-true x y j in
        absurd (omega arith)
    by same true i false j = refl
    by same false i true j = same
    by same false i false j = refl
