-- What is found in lists one after another, and what is counted of them.
use Rattle.std.proofs.Common.{◌≡◌, ℕ, ◌+◌, ◌<◌, List, [], ◌++◌, length, take, drop, get_or, sum_by, Some, None, sym, ap, ◌∙◌, arith}
use Rattle.std.specs.Prelude.{Bool}
use Rattle.std.specs.List.{find, flat_map}
use Rattle.std.specs.Option.{option_or}
use Rattle.std.proofs.lemmas.List.{take_more, flat_map_more, take-append-drop}
use Rattle.std.proofs.lemmas.List.Folds.{find-append}
use Rattle.std.proofs.lemmas.List.Sums.{sum_by_more}
use Rattle.std.proofs.lemmas.Grind.{flat_map-append}
use Rattle.aos_types.specs.declared.row.TypeId.{TypeId}
use Rattle.aos_types.specs.Count.{capped}

module _ (q : TypeId → Bool) where
  -- nothing in the first list, so what is in the second
  pub found_behind : (xs ys : List TypeId) → find q xs ≡ None → find q (xs ++ ys) ≡ find q ys
  found_behind xs ys e = find-append q xs ys ∙ ap (λ z. option_or z (find q ys)) e

  found_first : (xs ys : List TypeId) (p : TypeId) → find q xs ≡ Some p → find q (xs ++ ys) ≡ Some p
  found_first xs ys p e = find-append q xs ys ∙ ap (λ z. option_or z (find q ys)) e

  -- what is found in one more list, where nothing was found before
  pub found_more : (f : TypeId → List TypeId) (xs : List TypeId) (i : ℕ) (d : TypeId) → i < length xs → find q (flat_map f (take i xs)) ≡ None → find q (flat_map f (take (i + 1) xs)) ≡ find q (f (get_or xs i d))
  found_more f xs i d l e =
      ap (find q) (ap (flat_map f) (take_more xs i d l) ∙ sym (flat_map_more f [] (take i xs) (get_or xs i d))) ∙ found_behind (flat_map f (take i xs)) (f (get_or xs i d)) e

  -- and it is what is found in all
  pub found_in : (f : TypeId → List TypeId) (xs : List TypeId) (i : ℕ) (d p : TypeId) → i < length xs → find q (flat_map f (take i xs)) ≡ None → find q (f (get_or xs i d)) ≡ Some p → find q (flat_map f xs) ≡ Some p
  found_in f xs i d p l e h =
      ap (λ z. find q (flat_map f z)) (sym (take-append-drop (i + 1) xs)) ∙ ap (find q) (flat_map-append f (take (i + 1) xs) (drop (i + 1) xs)) ∙ found_first (flat_map f (take (i + 1) xs)) (flat_map f (drop (i + 1) xs)) p (found_more f xs i d l e ∙ h)

capped_on : (a b : ℕ) → capped (capped a + b) ≡ capped (a + b)
capped_on a b = omega arith

-- one more summand
pub sum_more : (f : TypeId → ℕ) (b : ℕ) (xs : List TypeId) (i : ℕ) (d : TypeId) → i < length xs → capped (capped (b + sum_by f (take i xs)) + f (get_or xs i d)) ≡ capped (b + sum_by f (take (i + 1) xs))
sum_more f b xs i d l = let s = sum_by_more f xs i d l in capped_on (b + sum_by f (take i xs)) (f (get_or xs i d)) ∙ ap capped (omega (arith, s))
