-- Labels that a stable sort puts in order of their first values are in that order as the definitions have it.
use Rattle.std.proofs.Common.{◌≡◌, ℕ, zero, suc, ◌+◌, ◌<◌, ◌≤◌, ℤ, ◌<ℤ◌, ◌≤ℤ◌, int_le, Bool, true, false, not, ◌&&◌, if◌then◌else◌, cond, List, [], ◌∷◌, length, get_or, filter, refl, sym, ap, ◌∙◌, arith, inl, inr, suc-le-suc, zero-le}
use Rattle.std.proofs.lemmas.Bool.{cond-true, cond-false, cases_Bool, and_parts, not-true}
use Rattle.std.proofs.lemmas.Int.{ints}
use Rattle.std.specs.Cmp.{int_ranks}
use Rattle.std.specs.Ordering.{MatchOrdering, int_cmp, is_lt}
use Rattle.std.specs.declared.cmp.Ordering.{Ordering}
use Rattle.std.specs.declared.cmp.Ordering.TheVariants.{Less, Equal, Greater}
use Rattle.std.specs.List.Sorted.{ties, IsSortedByKey, IsStableByKey}
use Rattle.aos_typed.specs.declared.tree.LabelRow.{LabelRow}
use Rattle.aos_sim.specs.Search.{put_row, in_order}

abbrev pub low : LabelRow → ℤ
low r = r.labels.low

abbrev same : LabelRow → LabelRow → Bool
same = ties (λ x y. is_lt (int_cmp (low x) (low y)))

not_less : (x y : ℤ) → is_lt (int_cmp x y) ≡ false → y ≤ℤ x
not_less x y h = by (int_cmp x y) (int_ranks x y) h
  where
    by : (r : Ordering) → MatchOrdering r (x <ℤ y) (x ≡ y) (y <ℤ x) → is_lt r ≡ false → y ≤ℤ x
    by Less lt h = absurd (cc)
    by Equal eq h = omega (arith, ints, eq)
    by Greater gt h = omega (arith, ints, gt)

from_not_less : (x y : ℤ) → y ≤ℤ x → is_lt (int_cmp x y) ≡ false
from_not_less x y h = by (int_cmp x y) (int_ranks x y)
  where
    by : (r : Ordering) → MatchOrdering r (x <ℤ y) (x ≡ y) (y <ℤ x) → is_lt r ≡ false
    by Less lt = absurd (omega (arith, ints, lt, h))
    by Equal eq = refl
    by Greater gt = refl

same-true : (x y : LabelRow) → same x y ≡ true → low x ≡ low y
same-true x y h =
    let parts = and_parts (not (is_lt (int_cmp (low x) (low y)))) (not (is_lt (int_cmp (low y) (low x)))) h in
    let down = not_less (low x) (low y) (not-true _ parts.0) in
    let up = not_less (low y) (low x) (not-true _ parts.1) in
    omega (arith, ints, down, up)

same_from : (x y : LabelRow) → low x ≡ low y → same x y ≡ true
same_from x y h =
    let down : low y ≤ℤ low x = omega (arith, ints, h) in
    let up : low x ≤ℤ low y = omega (arith, ints, h) in
    λ i. not (from_not_less (low x) (low y) down i) && not (from_not_less (low y) (low x) up i)

filter-kept : (p : LabelRow → Bool) (y : LabelRow) (ys : List LabelRow) → p y ≡ true → filter p (y ∷ ys) ≡ y ∷ filter p ys
filter-kept p y ys h = cond-true _ _ _ h

filter-dropped : (p : LabelRow → Bool) (y : LabelRow) (ys : List LabelRow) → p y ≡ false → filter p (y ∷ ys) ≡ filter p ys
filter-dropped p y ys h = cond-false _ _ _ h

filter-put : (x r : LabelRow) (rows : List LabelRow) → filter (same x) (put_row r rows) ≡ filter (same x) (r ∷ rows)
filter-put x r [] = refl
filter-put x r (s ∷ rows) = by (int_le (low r) (low s)) refl (filter-put x r rows)
  where
    p : LabelRow → Bool
    p = same x

    by : (b : Bool) → int_le (low r) (low s) ≡ b → filter p (put_row r rows) ≡ filter p (r ∷ rows) → filter p (if b then r ∷ s ∷ rows else s ∷ put_row r rows) ≡ filter p (r ∷ s ∷ rows)
    by true e rest = refl
    by false e rest =
        elim (cases_Bool (p s)) [
          | inr without ↦
              filter-dropped p s (put_row r rows) without ∙ rest
              ∙ ap (λ l. cond (p r) (r ∷ l) l) (sym (filter-dropped p s rows without))
          | inl with ↦
              elim (cases_Bool (p r)) [
                | inl both ↦ absurd (omega (arith, ints, e, same-true x r both, same-true x s with))
                | inr only ↦
                    filter-kept p s (put_row r rows) with ∙ ap (λ l. s ∷ l) (rest ∙ filter-dropped p r rows only)
                    ∙ sym (filter-dropped p r (s ∷ rows) only ∙ filter-kept p s rows with)
              ]
        ]

filter-in_order : (x : LabelRow) (rows : List LabelRow) → filter (same x) (in_order rows) ≡ filter (same x) rows
filter-in_order x [] = refl
filter-in_order x (r ∷ rows) = filter-put x r (in_order rows) ∙ ap (λ l. cond (same x r) (r ∷ l) l) (filter-in_order x rows)

abbrev AreFrom : ℤ → List LabelRow → Type 0
AreFrom z [] = Unit {0}
AreFrom z (r ∷ rows) = (z ≤ℤ low r) × AreFrom z rows

abbrev Rise : List LabelRow → Type 0
Rise [] = Unit {0}
Rise (r ∷ rows) = AreFrom (low r) rows × Rise rows

from_less : (y z : ℤ) (rows : List LabelRow) → y ≤ℤ z → AreFrom z rows → AreFrom y rows
from_less y z [] le h = tt
from_less y z (r ∷ rows) le h = let first = h.0 in (omega (arith, ints, le, first), from_less y z rows le h.1)

rise_sorted : (rows : List LabelRow) → IsSortedByKey low int_cmp rows → Rise rows
rise_sorted [] h = tt
rise_sorted (r ∷ []) h = (tt, tt)
rise_sorted (r ∷ s ∷ rows) h =
    let le = not_less (low s) (low r) (h zero r zero-le (suc-le-suc (suc-le-suc zero-le))) in
    let later : (k : ℕ) (d : LabelRow) → zero ≤ k → k + 1 < length (s ∷ rows) → is_lt (int_cmp (low (get_or (s ∷ rows) (k + 1) d)) (low (get_or (s ∷ rows) k d))) ≡ false =
    λ k d from lt. (let next : suc (k + 1) ≡ suc k + 1 = omega arith in
    ap (λ n. is_lt (int_cmp (low (get_or (r ∷ s ∷ rows) n d)) (low (get_or (s ∷ rows) k d)))) next ∙ h (suc k) d zero-le (omega (arith, lt))) in
    let rest = rise_sorted (s ∷ rows) later in
    ((le, from_less (low r) (low s) rows le rest.0), rest)

put_from : (z : ℤ) (r : LabelRow) (rows : List LabelRow) → z ≤ℤ low r → AreFrom z rows → AreFrom z (put_row r rows)
put_from z r [] le h = (le, tt)
put_from z r (s ∷ rows) le h = by (int_le (low r) (low s)) (put_from z r rows le h.1)
  where
    by : (b : Bool) → AreFrom z (put_row r rows) → AreFrom z (if b then r ∷ s ∷ rows else s ∷ put_row r rows)
    by true rest = (le, h)
    by false rest = (h.0, rest)

put_rises : (r : LabelRow) (rows : List LabelRow) → Rise rows → Rise (put_row r rows)
put_rises r [] h = (tt, tt)
put_rises r (s ∷ rows) h = by (int_le (low r) (low s)) refl (put_rises r rows h.1)
  where
    by : (b : Bool) → int_le (low r) (low s) ≡ b → Rise (put_row r rows) → Rise (if b then r ∷ s ∷ rows else s ∷ put_row r rows)
    by true e rest = let le : low r ≤ℤ low s = omega (arith, ints, e) in ((le, from_less (low r) (low s) rows le h.0), h)
    by false e rest = let le : low s ≤ℤ low r = omega (arith, ints, e) in (put_from (low s) r rows le h.0, rest)

rise_in_order : (rows : List LabelRow) → Rise (in_order rows)
rise_in_order [] = tt
rise_in_order (r ∷ rows) = put_rises r (in_order rows) (rise_in_order rows)

-- there is one that ties with x
found_from : (z : ℤ) (x : LabelRow) (rows : List LabelRow) (w : LabelRow) (ws : List LabelRow) → AreFrom z rows → filter (same x) rows ≡ w ∷ ws → z ≤ℤ low x
found_from z x [] w ws h e = cc
found_from z x (r ∷ rows) w ws h e =
    elim (cases_Bool (same x r)) [
      | inl with ↦ let first = h.0 in omega (arith, ints, first, same-true x r with)
      | inr without ↦ found_from z x rows w ws h.1 (sym (filter-dropped (same x) r rows without) ∙ e)
    ]

alike : (ys zs : List LabelRow) → Rise ys → Rise zs → ((x : LabelRow) → filter (same x) ys ≡ filter (same x) zs) → ys ≡ zs
alike [] [] left right each = refl
alike [] (z ∷ zs) left right each = let clash = each z ∙ filter-kept (same z) z zs (same_from z z refl) in cc
alike (y ∷ ys) [] left right each = let clash = sym (each y) ∙ filter-kept (same y) y ys (same_from y y refl) in cc
alike (y ∷ ys) (z ∷ zs) left right each =
    let at_y = filter-kept (same y) y ys (same_from y y refl) in
    let at_z = filter-kept (same z) z zs (same_from z z refl) in
    let here_y : low y ≤ℤ low y = omega (arith, ints) in
    let here_z : low z ≤ℤ low z = omega (arith, ints) in
    let up = found_from (low z) y (z ∷ zs) y _ (here_z, right.0) (sym (each y) ∙ at_y) in
    let down = found_from (low y) z (y ∷ ys) z _ (here_y, left.0) (each z ∙ at_z) in
    let level : low y ≡ low z = omega (arith, ints, up, down) in
    let heads = sym at_y ∙ each y ∙ filter-kept (same y) z zs (same_from y z level) in
    let head : y ≡ z = cc in
    let tails : (x : LabelRow) → filter (same x) ys ≡ filter (same x) zs =
    λ x. elim (cases_Bool (same x y)) [
      | inl with ↦
          let both = sym (filter-kept (same x) y ys with) ∙ each x ∙ filter-kept (same x) z zs (ap (same x) (sym head) ∙ with) in cc
      | inr without ↦
          sym (filter-dropped (same x) y ys without) ∙ each x ∙ filter-dropped (same x) z zs (ap (same x) (sym head) ∙ without)
    ] in
    ap (λ w. w ∷ ys) head ∙ ap (λ l. z ∷ l) (alike ys zs left.1 right.1 tails)

pub sorted_in_order : (rows sorted : List LabelRow) → IsSortedByKey low int_cmp sorted → IsStableByKey low int_cmp rows sorted → sorted ≡ in_order rows
sorted_in_order rows sorted rises stable =
    alike sorted (in_order rows) (rise_sorted sorted rises) (rise_in_order rows) (λ x. stable x ∙ sym (filter-in_order x rows))
