-- A test of lists one after another; and what the counts that are kept say of the limit.
use Rattle.std.proofs.Common.{◌≡◌, ℕ, ◌+◌, ◌<◌, List, [], ◌∷◌, ◌++◌, length, take, drop, get_or, Option, refl, sym, ap, ◌∙◌, arith, suc}
use Rattle.std.specs.Prelude.{Bool, true, false, nat_lt, not, ◌&&◌, ◌||◌}
use Rattle.std.specs.List.{flat_map, list_any}
use Rattle.std.proofs.lemmas.List.{take_more, flat_map_more, take-append-drop}
use Rattle.std.proofs.lemmas.List.Folds.{list_any-append}
use Rattle.std.proofs.lemmas.Grind.{flat_map-append}
use Rattle.aos_base.specs.declared.limits.TheConstants.{MOST_SCALARS}
use Rattle.aos_types.specs.declared.row.TypeId.{TypeId}
use Rattle.aos_types.specs.declared.row.TypeRow.{TypeRow}
use Rattle.aos_types.specs.Table.{row_of}
use Rattle.aos_types.specs.Contents.{scalars}
use Rattle.aos_types.specs.Chain.{parts_of, NoneContainsItself}
use Rattle.aos_types.specs.Count.{capped, made, AreSettled}
use Rattle.aos_types.specs.Limit.{is_past, is_first_past, count_past}
use Rattle.aos_types.proofs.Ranks.{ranked}
use Rattle.aos_types.proofs.Settled.{right}

module _ (q : TypeId → Bool) where
  -- none of the first list passes, so one passes where one of the second does
  pub any_behind : (xs ys : List TypeId) → list_any q xs ≡ false → list_any q (xs ++ ys) ≡ list_any q ys
  any_behind xs ys e = list_any-append q xs ys ∙ ap (λ z. z || list_any q ys) e

  pub any_first : (xs ys : List TypeId) → list_any q xs ≡ true → list_any q (xs ++ ys) ≡ true
  any_first xs ys e = list_any-append q xs ys ∙ ap (λ z. z || list_any q ys) e

  -- one more list, where none passed before
  pub any_more : (f : TypeId → List TypeId) (xs : List TypeId) (i : ℕ) (d : TypeId) → i < length xs → list_any q (flat_map f (take i xs)) ≡ false → list_any q (flat_map f (take (i + 1) xs)) ≡ list_any q (f (get_or xs i d))
  any_more f xs i d l e =
      ap (list_any q) (ap (flat_map f) (take_more xs i d l) ∙ sym (flat_map_more f [] (take i xs) (get_or xs i d))) ∙ any_behind (flat_map f (take i xs)) (f (get_or xs i d)) e

  -- and one of it is one of all
  pub any_in : (f : TypeId → List TypeId) (xs : List TypeId) (i : ℕ) (d : TypeId) → i < length xs → list_any q (flat_map f (take i xs)) ≡ false → list_any q (f (get_or xs i d)) ≡ true → list_any q (flat_map f xs) ≡ true
  any_in f xs i d l e h =
      ap (λ z. list_any q (flat_map f z)) (sym (take-append-drop (i + 1) xs)) ∙ ap (list_any q) (flat_map-append f (take (i + 1) xs) (drop (i + 1) xs)) ∙ any_first (flat_map f (take (i + 1) xs)) (flat_map f (drop (i + 1) xs)) (any_more f xs i d l e ∙ h)

any_same : (p q : TypeId → Bool) → ((t : TypeId) → p t ≡ q t) → (ts : List TypeId) → list_any p ts ≡ list_any q ts
any_same p q h [] = refl
any_same p q h (t ∷ ts) = λ i. h t i || any_same p q h ts i

past_capped : (n m : ℕ) → capped n ≡ capped m → nat_lt MOST_SCALARS n ≡ nat_lt MOST_SCALARS m
past_capped n m e = grind (arith, e)

-- what the counts say is right
pub limit_right : (rows : List TypeRow) (counts : List (Option ℕ)) (t : TypeId) → length counts ≡ length rows → (NoneContainsItself rows → AreSettled rows counts (length rows)) → NoneContainsItself rows → (count_past counts t && not (list_any (count_past counts) (parts_of rows (row_of rows t)))) ≡ is_first_past rows t
limit_right rows counts t long settled free =
    let m = settled free in
    let same = λ (p : TypeId). past_capped (made counts p) (scalars rows p) (right rows counts long m.made m.whole (ranked rows free) (suc ((ranked rows free).rank p)) p (omega arith)) in
    λ i. same t i && not (any_same (count_past counts) (is_past rows) same (parts_of rows (row_of rows t)) i)
