-- Two lists together, one pair more.
use Rattle.std.proofs.Common.{◌≡◌, ◌<◌, ◌≤◌, ℕ, zero, suc, List, [], ◌∷◌, ◌++◌, ◌+◌, map, Some, None, length, get_or, drop, drop-cons, add-one, append-nil, append_assoc, slice_get, refl, ap, ◌∙◌, sym}
use Rattle.std.specs.List.{zip}
use Rattle.aos_symbols.proofs.Paths.{past}

same_of : {X : Type 0} (a b : X) → Some a ≡ Some b → a ≡ b
same_of a b e = cc

drop_from : {X : Type 0} (xs : List X) (i : ℕ) (x : X) → slice_get xs i ≡ Some x → drop i xs ≡ x ∷ drop (suc i) xs
drop_from [] i x e = absurd cc
drop_from (y ∷ ys) zero x e = ap (λ z. z ∷ ys) (same_of y x e)
drop_from (y ∷ ys) (suc i) x e = drop_from ys i x e

-- the item with a number, and those behind it
pub drop_some : {X : Type 0} (xs : List X) (i j : ℕ) (x : X) → slice_get xs i ≡ Some x → j ≡ suc i → drop i xs ≡ x ∷ drop j xs
drop_some xs i j x e next = drop_from xs i x e ∙ ap (λ n. x ∷ drop n xs) (sym next)

pub drop_item : {X : Type 0} (xs : List X) (i : ℕ) (x : X) → i < length xs → x ≡ get_or xs i x → drop i xs ≡ x ∷ drop (i + 1) xs
drop_item xs i x lt is = drop-cons xs i x lt ∙ ap (λ y. y ∷ drop (suc i) xs) (sym is) ∙ ap (λ j. x ∷ drop j xs) (sym (add-one i))

pub drop_none : {X : Type 0} (xs : List X) (i : ℕ) → slice_get xs i ≡ None → drop i xs ≡ []
drop_none [] zero e = refl
drop_none [] (suc i) e = refl
drop_none (x ∷ xs) zero e = absurd cc
drop_none (x ∷ xs) (suc i) e = drop_none xs i e

pub drop_nothing : {X : Type 0} (i : ℕ) → ◌≡◌ {A = List X} (drop i []) []
drop_nothing zero = refl
drop_nothing (suc i) = refl

pub zip_nothing : {X Y : Type 0} (xs : List X) → zip {X = Y} xs [] ≡ []
zip_nothing [] = refl
zip_nothing (x ∷ xs) = refl

-- What is made of pairs: of the first list from i on, of the second from k on, and then from j on.
module _ {A B C : Type 0} (f : A × B → C) (vs : List C) (ds : List A) (os : List B) (i k : ℕ) where
  pub pairs_step : (j : ℕ) (d : A) (o : B) (v : C) (new : List C) → i < length ds → drop k os ≡ o ∷ drop j os →
      v ≡ f (get_or ds i d, o) → new ≡ vs ++ v ∷ [] →
      new ++ map f (zip (drop (i + 1) ds) (drop j os)) ≡ vs ++ map f (zip (drop i ds) (drop k os))
  pairs_step j d o v new lt has is more =
      let rest = map f (zip (drop (i + 1) ds) (drop j os)) in
      ap (λ l. l ++ rest) (more ∙ ap (λ x. vs ++ x ∷ []) is)
      ∙ append_assoc vs (f (get_or ds i d, o) ∷ []) rest
      ∙ sym (ap (λ l. vs ++ map f (zip l (drop k os))) (drop-cons ds i d lt ∙ ap (λ n. get_or ds i d ∷ drop n ds) (sym (add-one i)))
      ∙ ap (λ l. vs ++ map f (zip (get_or ds i d ∷ drop (i + 1) ds) l)) has)

  pub pairs_end : length ds ≤ i → vs ++ map f (zip (drop i ds) (drop k os)) ≡ vs
  pairs_end le = ap (λ l. vs ++ map f (zip l (drop k os))) (past ds i le) ∙ append-nil vs

  nothing_more : drop k os ≡ [] → vs ++ map f (zip (drop i ds) (drop k os)) ≡ vs
  nothing_more is =
      ap (λ l. vs ++ map f (zip (drop i ds) l)) is
      ∙ ap (λ l. vs ++ map f l) (zip_nothing (drop i ds)) ∙ append-nil vs

  pub pairs_out : slice_get os k ≡ None → vs ++ map f (zip (drop i ds) (drop k os)) ≡ vs
  pairs_out is = nothing_more (drop_none os k is)

  pub pairs_past : length os ≤ k → vs ++ map f (zip (drop i ds) (drop k os)) ≡ vs
  pairs_past le = nothing_more (past os k le)
