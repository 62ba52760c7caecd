-- What a stable sort puts in order of numbers is in that order as the definitions have it.
use Rattle.std.proofs.Common.{◌≡◌, ℕ, zero, suc, ◌+◌, ◌<◌, ◌≤◌, Bool, true, false, not, ◌&&◌, if◌then◌else◌, cond, List, [], ◌∷◌, length, get_or, filter, map, refl, sym, ap, ◌∙◌, arith, inl, inr, suc-le-suc, zero-le}
use Rattle.std.specs.Prelude.{nat_le}
use Rattle.std.proofs.lemmas.Bool.{cond-true, cond-false, cases_Bool, and_parts, not-true, leb-true, leb-false}
use Rattle.std.specs.Cmp.{ranks}
use Rattle.std.specs.Ordering.{MatchOrdering, nat_cmp, is_lt}
use Rattle.std.specs.declared.cmp.Ordering.{Ordering}
use Rattle.std.specs.declared.cmp.Ordering.TheVariants.{Less, Equal, Greater}
use Rattle.std.specs.List.Sorted.{ties, IsSortedByKey, IsStableByKey}
use Rattle.aos_listing.specs.Listing.{put_by, in_order}

not_less : (x y : ℕ) → is_lt (nat_cmp x y) ≡ false → y ≤ x
not_less x y h = by (nat_cmp x y) (ranks x y) h
  where
    by : (r : Ordering) → MatchOrdering r (x < y) (x ≡ y) (y < x) → is_lt r ≡ false → y ≤ x
    by Less lt h = absurd (cc)
    by Equal eq h = omega (arith, eq)
    by Greater gt h = omega (arith, gt)

from_not_less : (x y : ℕ) → y ≤ x → is_lt (nat_cmp x y) ≡ false
from_not_less x y h = by (nat_cmp x y) (ranks x y)
  where
    by : (r : Ordering) → MatchOrdering r (x < y) (x ≡ y) (y < x) → is_lt r ≡ false
    by Less lt = absurd (omega (arith, lt, h))
    by Equal eq = refl
    by Greater gt = refl

filter-kept : {X : Type 0} (p : X → Bool) (y : X) (ys : List X) → p y ≡ true → filter p (y ∷ ys) ≡ y ∷ filter p ys
filter-kept p y ys h = cond-true _ _ _ h

filter-dropped : {X : Type 0} (p : X → Bool) (y : X) (ys : List X) → p y ≡ false → filter p (y ∷ ys) ≡ filter p ys
filter-dropped p y ys h = cond-false _ _ _ h

module _ (X : Type 0) (key : X → ℕ) where
  abbrev same : X → X → Bool
  same = ties (λ x y. is_lt (nat_cmp (key x) (key y)))

  same-true : (x y : X) → same x y ≡ true → key x ≡ key y
  same-true x y h =
      let parts = and_parts (not (is_lt (nat_cmp (key x) (key y)))) (not (is_lt (nat_cmp (key y) (key x)))) h in
      let down = not_less (key x) (key y) (not-true _ parts.0) in
      let up = not_less (key y) (key x) (not-true _ parts.1) in
      omega (arith, down, up)

  same_from : (x y : X) → key x ≡ key y → same x y ≡ true
  same_from x y h =
      let down : key y ≤ key x = omega (arith, h) in
      let up : key x ≤ key y = omega (arith, h) in
      λ i. not (from_not_less (key x) (key y) down i) && not (from_not_less (key y) (key x) up i)

  filter-put : (x r : X) (xs : List X) → filter (same x) (put_by key r xs) ≡ filter (same x) (r ∷ xs)
  filter-put x r [] = refl
  filter-put x r (s ∷ xs) = by (nat_le (key r) (key s)) refl (filter-put x r xs)
    where
      p : X → Bool
      p = same x

      by : (b : Bool) → nat_le (key r) (key s) ≡ b → filter p (put_by key r xs) ≡ filter p (r ∷ xs) → filter p (if b then r ∷ s ∷ xs else s ∷ put_by key r xs) ≡ filter p (r ∷ s ∷ xs)
      by true e rest = refl
      by false e rest =
          elim (cases_Bool (p s)) [
            | inr without ↦
                filter-dropped p s (put_by key r xs) without ∙ rest
                ∙ ap (λ l. cond (p r) (r ∷ l) l) (sym (filter-dropped p s xs without))
            | inl with ↦
                elim (cases_Bool (p r)) [
                  | inl both ↦ absurd (omega (arith, leb-false (key r) (key s) e, same-true x r both, same-true x s with))
                  | inr only ↦
                      filter-kept p s (put_by key r xs) with ∙ ap (λ l. s ∷ l) (rest ∙ filter-dropped p r xs only)
                      ∙ sym (filter-dropped p r (s ∷ xs) only ∙ filter-kept p s xs with)
                ]
          ]

  filter-in_order : (x : X) (xs : List X) → filter (same x) (in_order key xs) ≡ filter (same x) xs
  filter-in_order x [] = refl
  filter-in_order x (r ∷ xs) = filter-put x r (in_order key xs) ∙ ap (λ l. cond (same x r) (r ∷ l) l) (filter-in_order x xs)

  abbrev AreFrom : ℕ → List X → Type 0
  AreFrom n [] = Unit {0}
  AreFrom n (r ∷ xs) = (n ≤ key r) × AreFrom n xs

  abbrev Rise : List X → Type 0
  Rise [] = Unit {0}
  Rise (r ∷ xs) = AreFrom (key r) xs × Rise xs

  from_less : (m n : ℕ) (xs : List X) → m ≤ n → AreFrom n xs → AreFrom m xs
  from_less m n [] le h = tt
  from_less m n (r ∷ xs) le h = let first = h.0 in (omega (arith, le, first), from_less m n xs le h.1)

  rise_sorted : (xs : List X) → IsSortedByKey key nat_cmp xs → Rise xs
  rise_sorted [] h = tt
  rise_sorted (r ∷ []) h = (tt, tt)
  rise_sorted (r ∷ s ∷ xs) h =
      let le = not_less (key s) (key r) (h zero r zero-le (suc-le-suc (suc-le-suc zero-le))) in
      let later : (k : ℕ) (d : X) → zero ≤ k → k + 1 < length (s ∷ xs) → is_lt (nat_cmp (key (get_or (s ∷ xs) (k + 1) d)) (key (get_or (s ∷ xs) k d))) ≡ false =
      λ k d from lt. (let next : suc (k + 1) ≡ suc k + 1 = omega arith in
      ap (λ n. is_lt (nat_cmp (key (get_or (r ∷ s ∷ xs) n d)) (key (get_or (s ∷ xs) k d)))) next ∙ h (suc k) d zero-le (omega (arith, lt))) in
      let rest = rise_sorted (s ∷ xs) later in
      ((le, from_less (key r) (key s) xs le rest.0), rest)

  put_from : (n : ℕ) (r : X) (xs : List X) → n ≤ key r → AreFrom n xs → AreFrom n (put_by key r xs)
  put_from n r [] le h = (le, tt)
  put_from n r (s ∷ xs) le h = by (nat_le (key r) (key s)) (put_from n r xs le h.1)
    where
      by : (b : Bool) → AreFrom n (put_by key r xs) → AreFrom n (if b then r ∷ s ∷ xs else s ∷ put_by key r xs)
      by true rest = (le, h)
      by false rest = (h.0, rest)

  put_rises : (r : X) (xs : List X) → Rise xs → Rise (put_by key r xs)
  put_rises r [] h = (tt, tt)
  put_rises r (s ∷ xs) h = by (nat_le (key r) (key s)) refl (put_rises r xs h.1)
    where
      by : (b : Bool) → nat_le (key r) (key s) ≡ b → Rise (put_by key r xs) → Rise (if b then r ∷ s ∷ xs else s ∷ put_by key r xs)
      by true e rest = let le = leb-true (key r) (key s) e in ((le, from_less (key r) (key s) xs le h.0), h)
      by false e rest = let lt = leb-false (key r) (key s) e in let le : key s ≤ key r = omega (arith, lt) in (put_from (key s) r xs le h.0, rest)

  rise_in_order : (xs : List X) → Rise (in_order key xs)
  rise_in_order [] = tt
  rise_in_order (r ∷ xs) = put_rises r (in_order key xs) (rise_in_order xs)

  -- there is one that ties with x
  found_from : (n : ℕ) (x : X) (xs : List X) (w : X) (ws : List X) → AreFrom n xs → filter (same x) xs ≡ w ∷ ws → n ≤ key x
  found_from n x [] w ws h e = cc
  found_from n x (r ∷ xs) w ws h e =
      elim (cases_Bool (same x r)) [
        | inl with ↦ let first = h.0 in omega (arith, first, same-true x r with)
        | inr without ↦ found_from n x xs w ws h.1 (sym (filter-dropped (same x) r xs without) ∙ e)
      ]

  alike : (ys zs : List X) → Rise ys → Rise zs → ((x : X) → filter (same x) ys ≡ filter (same x) zs) → ys ≡ zs
  alike [] [] left right each = refl
  alike [] (z ∷ zs) left right each = let clash = each z ∙ filter-kept (same z) z zs (same_from z z refl) in cc
  alike (y ∷ ys) [] left right each = let clash = sym (each y) ∙ filter-kept (same y) y ys (same_from y y refl) in cc
  alike (y ∷ ys) (z ∷ zs) left right each =
      let at_y = filter-kept (same y) y ys (same_from y y refl) in
      let at_z = filter-kept (same z) z zs (same_from z z refl) in
      let here_y : key y ≤ key y = omega arith in
      let here_z : key z ≤ key z = omega arith in
      let up = found_from (key z) y (z ∷ zs) y _ (here_z, right.0) (sym (each y) ∙ at_y) in
      let down = found_from (key y) z (y ∷ ys) z _ (here_y, left.0) (each z ∙ at_z) in
      let level : key y ≡ key z = omega (arith, up, down) in
      let heads = sym at_y ∙ each y ∙ filter-kept (same y) z zs (same_from y z level) in
      let head : y ≡ z = cc in
      let tails : (x : X) → filter (same x) ys ≡ filter (same x) zs =
      λ x. elim (cases_Bool (same x y)) [
        | inl with ↦
            let both = sym (filter-kept (same x) y ys with) ∙ each x ∙ filter-kept (same x) z zs (ap (same x) (sym head) ∙ with) in cc
        | inr without ↦
            sym (filter-dropped (same x) y ys without) ∙ each x ∙ filter-dropped (same x) z zs (ap (same x) (sym head) ∙ without)
      ] in
      ap (λ w. w ∷ ys) head ∙ ap (λ l. z ∷ l) (alike ys zs left.1 right.1 tails)

  pub sorted_in_order : (xs sorted : List X) → IsSortedByKey key nat_cmp sorted → IsStableByKey key nat_cmp xs sorted → sorted ≡ in_order key xs
  sorted_in_order xs sorted rises stable =
      alike sorted (in_order key xs) (rise_sorted sorted rises) (rise_in_order xs) (λ x. stable x ∙ sym (filter-in_order x xs))

-- what is seen of what is in order is in order
module _ {X Y : Type 0} (see : X → Y) (key : Y → ℕ) where
  seen_put : (x : X) (xs : List X) → map see (put_by (λ z. key (see z)) x xs) ≡ put_by key (see x) (map see xs)
  seen_put x [] = refl
  seen_put x (y ∷ ys) = by (nat_le (key (see x)) (key (see y))) (seen_put x ys)
    where
      by : (b : Bool) → map see (put_by (λ z. key (see z)) x ys) ≡ put_by key (see x) (map see ys) →
          map see (if b then x ∷ y ∷ ys else y ∷ put_by (λ z. key (see z)) x ys) ≡ (if b then see x ∷ see y ∷ map see ys else see y ∷ put_by key (see x) (map see ys))
      by true rest = refl
      by false rest = ap (λ l. see y ∷ l) rest

  pub seen_in_order : (xs : List X) → map see (in_order (λ z. key (see z)) xs) ≡ in_order key (map see xs)
  seen_in_order [] = refl
  seen_in_order (x ∷ xs) = seen_put x (in_order (λ z. key (see z)) xs) ∙ ap (put_by key (see x)) (seen_in_order xs)
