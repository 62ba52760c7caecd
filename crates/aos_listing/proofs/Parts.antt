-- Lines one behind the other: one more of them, and the last one.
use Rattle.std.proofs.Common.{◌≡◌, ◌<◌, ◌≤◌, ℕ, zero, suc, ◌+◌, List, [], ◌∷◌, ◌++◌, length, get_or, take, drop, map, true, false, Some, None, refl, ap, sym, ◌∙◌, append_assoc, append-nil, add-one, arith, ◌⊎◌, inl, inr}
use Rattle.std.specs.Prelude.{not, slice_get, ◌==◌}
use Rattle.std.specs.List.{flat_map, zip}
use Rattle.std.proofs.lemmas.Bool.{cases_Bool, eqb-true}
use Rattle.std.proofs.lemmas.List.{drop_more, drop_all, map-append}
use Rattle.std.proofs.lemmas.Grind.{flat_map-append}
use Rattle.aos_types.specs.declared.row.TypeId.{TypeId}
use Rattle.aos_types.specs.Shape.{Shape, size}
use Rattle.aos_code.specs.declared.instr.Kind.{Kind}
use Rattle.aos_code.specs.Lines.{Line}
use Rattle.aos_dispatch.proofs.Lists.{next_of}
use Rattle.aos_listing.specs.Listing.{Part, line, part_lines, is_named}

-- behind what was there come some, and then more
pub added : {Z : Type 0} (before so_far now xs ys zs : List Z) → so_far ≡ before ++ xs → now ≡ so_far ++ ys → zs ≡ xs ++ ys → now ≡ before ++ zs
added before so_far now xs ys zs e f g = f ∙ ap (λ l. l ++ ys) e ∙ append_assoc before xs ys ∙ ap (λ l. before ++ l) (sym g)

-- one, and then some
pub led : {Z : Type 0} (before so_far now : List Z) (x y : Z) (xs ys : List Z) → so_far ≡ before ++ x ∷ [] → x ≡ y → now ≡ so_far ++ xs → xs ≡ ys → now ≡ before ++ y ∷ ys
led before so_far now x y xs ys e is f are = added before so_far now (x ∷ []) xs (y ∷ ys) e f (λ i. sym is i ∷ sym are i)

-- one more of what each gives one
pub one_more : {A B Z : Type 0} (see : A → B) (one : B → Z) (before so_far now : List Z) (xs : List A) (i : ℕ) (x : A) → i < length xs → x ≡ get_or xs i x →
    so_far ≡ before ++ map one (map see (take i xs)) → now ≡ so_far ++ one (see x) ∷ [] → now ≡ before ++ map one (map see (take (i + 1) xs))
one_more see one before so_far now xs i x lt at e f =
    let ys = map see (take i xs) in
    added before so_far now (map one ys) (one (see x) ∷ []) (map one (map see (take (i + 1) xs))) e f (ap (map one) (next_of see xs i x lt at) ∙ map-append one ys (see x ∷ []))

-- one more of what each gives some
pub some_more : {A B Z : Type 0} (see : A → B) (some : B → List Z) (so_far now : List Z) (xs : List A) (i : ℕ) (x : A) → i < length xs → x ≡ get_or xs i x →
    so_far ≡ flat_map some (map see (take i xs)) → now ≡ so_far ++ some (see x) → now ≡ flat_map some (map see (take (i + 1) xs))
some_more see some so_far now xs i x lt at e f =
    let ys = map see (take i xs) in
    f ∙ ap (λ l. l ++ some (see x)) e
    ∙ sym (ap (flat_map some) (next_of see xs i x lt at) ∙ flat_map-append some ys (see x ∷ []) ∙ ap (λ l. flat_map some ys ++ l) (append-nil (some (see x))))

-- a line behind those before it, and what is left
next_line : (word at next n : ℕ) (name : List ℕ) (p : Part) (ps : List Part) (ls new : List Line) → new ≡ ls ++ line word name at n ∷ [] → name ≡ p.0 → n ≡ size p.1 → next ≡ at + n →
    new ++ part_lines word next ps ≡ ls ++ part_lines word at (p ∷ ps)
next_line word at next n name p ps ls new put named counted more =
    let behind : next ≡ at + size p.1 = more ∙ ap (λ k. at + k) counted in
    let rest = part_lines word (at + size p.1) ps in
    (λ i. put i ++ part_lines word (behind i) ps)
    ∙ append_assoc ls (line word name at n ∷ []) rest
    ∙ (λ i. ls ++ line word (named i) at (counted i) ∷ rest)

-- Variables.
module _ {A B : Type 0} (see : A → B) (part : B → Part) (word : ℕ) (xs : List A) (i : ℕ) where
  pub parts_more : (x : A) → i < length xs → x ≡ get_or xs i x → (at next n : ℕ) (name : List ℕ) (ls new whole : List Line) →
      new ≡ ls ++ line word name at n ∷ [] → name ≡ (part (see x)).0 → n ≡ size (part (see x)).1 → next ≡ at + n →
      ls ++ part_lines word at (map part (map see (drop i xs))) ≡ whole → new ++ part_lines word next (map part (map see (drop (i + 1) xs))) ≡ whole
  parts_more x lt is at next n name ls new whole put named counted more so_far =
      let split = drop_more xs i x lt ∙ ap (λ y. y ∷ drop (i + 1) xs) (sym is) in
      next_line word at next n name (part (see x)) (map part (map see (drop (i + 1) xs))) ls new put named counted more
      ∙ ap (λ l. ls ++ part_lines word at (map part (map see l))) (sym split) ∙ so_far

  pub parts_end : (at : ℕ) (ls whole : List Line) → length xs ≤ i → ls ++ part_lines word at (map part (map see (drop i xs))) ≡ whole → ls ≡ whole
  parts_end at ls whole le so_far =
      sym (append-nil ls) ∙ ap (λ l. ls ++ part_lines word at (map part (map see l))) (sym (drop_all i xs le)) ∙ so_far

-- Fields.

same_of : {X : Type 0} (a b : X) → Some a ≡ Some b → a ≡ b
same_of a b e = cc

got_from : {X : Type 0} (xs : List X) (i : ℕ) (x : X) → Some x ≡ slice_get xs i → drop i xs ≡ x ∷ drop (suc i) xs
got_from [] i x e = absurd (cc)
got_from (y ∷ ys) zero x e = ap (λ z. z ∷ ys) (sym (same_of x y e))
got_from (y ∷ ys) (suc i) x e = got_from ys i x e

got : {X : Type 0} (xs : List X) (i : ℕ) (x : X) → Some x ≡ slice_get xs i → drop i xs ≡ x ∷ drop (i + 1) xs
got xs i x e = got_from xs i x e ∙ ap (λ k. x ∷ drop k xs) (sym (add-one i))

nothing_got : {X : Type 0} (xs : List X) (i : ℕ) → None ≡ slice_get xs i → drop i xs ≡ []
nothing_got [] zero e = refl
nothing_got [] (suc i) e = refl
nothing_got (x ∷ xs) zero e = absurd (cc)
nothing_got (x ∷ xs) (suc i) e = nothing_got xs i e

unpaired : {X Y : Type 0} (xs : List X) → zip {X = Y} xs [] ≡ []
unpaired [] = refl
unpaired (x ∷ xs) = refl

module _ (shape : TypeId → Shape Kind) (word : ℕ) (names : List (List ℕ)) (ts : List TypeId) (i : ℕ) where
  pub fields_more : (d : TypeId) (name : List ℕ) (at next n : ℕ) (ls new whole : List Line) → i < length ts → Some name ≡ slice_get names i →
      n ≡ size (shape (get_or ts i d)) → next ≡ at + n → new ≡ ls ++ line word name at n ∷ [] →
      ls ++ part_lines word at (zip (drop i names) (map shape (drop i ts))) ≡ whole → new ++ part_lines word next (zip (drop (i + 1) names) (map shape (drop (i + 1) ts))) ≡ whole
  fields_more d name at next n ls new whole lt found counted more put so_far =
      let t = get_or ts i d in
      let rest = zip (drop (i + 1) names) (map shape (drop (i + 1) ts)) in
      let named : drop i names ≡ name ∷ drop (i + 1) names = got names i name found in
      let typed : drop i ts ≡ t ∷ drop (i + 1) ts = drop_more ts i d lt in
      next_line word at next n name (name, shape t) rest ls new put refl counted more
      ∙ (λ j. ls ++ part_lines word at (zip (sym named j) (map shape (sym typed j)))) ∙ so_far

  pub fields_end : (at : ℕ) (ls : List Line) → length ts ≤ i → ls ++ part_lines word at (zip (drop i names) (map shape (drop i ts))) ≡ ls
  fields_end at ls le =
      ap (λ l. ls ++ part_lines word at (zip (drop i names) (map shape l))) (drop_all i ts le)
      ∙ ap (λ l. ls ++ part_lines word at l) (unpaired (drop i names)) ∙ append-nil ls

  pub fields_out : (at : ℕ) (ls : List Line) → None ≡ slice_get names i → ls ++ part_lines word at (zip (drop i names) (map shape (drop i ts))) ≡ ls
  fields_out at ls none =
      ap (λ l. ls ++ part_lines word at (zip l (map shape (drop i ts)))) (nothing_got names i none) ∙ append-nil ls

-- a name is one where it has a character
pub named : (name : List ℕ) → not (length name == 0) ≡ is_named name
named [] = refl
named (c ∷ cs) = by (cases_Bool (length (c ∷ cs) == 0))
  where
    by : ((length (c ∷ cs) == 0) ≡ true) ⊎ ((length (c ∷ cs) == 0) ≡ false) → not (length (c ∷ cs) == 0) ≡ true
    by (inl is) = absurd (let none = eqb-true (length (c ∷ cs)) 0 is in omega (arith, none))
    by (inr other) = ap not other
