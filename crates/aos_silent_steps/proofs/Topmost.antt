-- Lists that are kept with the topmost last.
use Rattle.std.proofs.Common.{◌≡◌, ℕ, ◌+◌, ◌-◌, ◌<◌, ◌≤◌, List, [], ◌∷◌, ◌++◌, length, take, drop, get_or, set, reverse, refl, sym, ap, ◌∙◌, arith, inl, inr, length-drop}
use Rattle.std.specs.Prelude.{Some, None, slice_get}
use Rattle.std.proofs.lemmas.List.{reverse-append, reverse-reverse, append_assoc, length-take, set_at, take-take, take_more, length-reverse, take-append-drop, drop_at, drop_all, drop_more, take-append-le, take_all}
use Rattle.std.proofs.lemmas.Option.{slice_get_cases, slice_get_within, get_or_from_slice_get}
use Rattle.std.proofs.lemmas.Bool.Decides.{leb_tells}

pub reverse-take : {A : Type 0} (xs : List A) (n : ℕ) → reverse (take (length xs - n) xs) ≡ drop n (reverse xs)
reverse-take xs n =
    let m = length xs - n in
    let split : reverse xs ≡ reverse (drop m xs) ++ reverse (take m xs) = ap reverse (sym (take-append-drop m xs)) ∙ reverse-append (take m xs) (drop m xs) in
    elim (leb_tells n (length xs)) [
      | inl e ↦
          let le : n ≤ length xs = e.1 in
          let len : length (reverse (drop m xs)) ≡ n = omega (arith, length-reverse (drop m xs), length-drop m xs) in
          sym (ap (drop n) split ∙ drop_at (reverse (drop m xs)) (reverse (take m xs)) n len)
      | inr e ↦
          let lt : length xs < n = e.1 in
          let z : m ≡ 0 = omega arith in
          let past : length (reverse xs) ≤ n = omega (arith, length-reverse xs) in
          ap (λ k. reverse (take k xs)) z ∙ sym (drop_all n (reverse xs) past)
    ]

pub reverse-push : {A : Type 0} (xs : List A) (x : A) → reverse (xs ++ x ∷ []) ≡ x ∷ reverse xs
reverse-push xs x = reverse-append xs (x ∷ [])

-- so many of the topmost are taken
pub taken : {A : Type 0} (old new : List A) (k n : ℕ) → n ≡ length old - k → new ≡ take n old → reverse new ≡ drop k (reverse old)
taken old new k n is e = ap reverse e ∙ ap (λ m. reverse (take m old)) is ∙ reverse-take old k

-- and one comes in their place
pub replaced : {A : Type 0} (old mid new : List A) (k n : ℕ) (x : A) → n ≡ length old - k → mid ≡ take n old → new ≡ mid ++ x ∷ [] → reverse new ≡ x ∷ drop k (reverse old)
replaced old mid new k n x is e f = ap reverse f ∙ reverse-push mid x ∙ ap (λ ys. x ∷ ys) (taken old mid k n is e)

pub top_none : {A : Type 0} (xs : List A) → None ≡ slice_get xs (length xs - 1) → xs ≡ []
top_none [] e = refl
top_none (x ∷ xs) e = go (x ∷ xs) e (omega arith)
  where
    go : {A : Type 0} (ys : List A) → None ≡ slice_get ys (length ys - 1) → 0 < length ys → ys ≡ []
    go ys f lt = elim (slice_get_cases ys (length ys - 1)).1 [ inl r ↦ (let z = f ∙ r.2 in absurd (cc z)) | inr r ↦ absurd (omega arith) ]

drop_last : {A : Type 0} (ys : List A) (y : A) → slice_get ys (length ys - 1) ≡ Some y → drop (length ys - 1) ys ≡ y ∷ []
drop_last ys y f =
    let lt : length ys - 1 < length ys = slice_get_within ys (length ys - 1) y f in
    let z : length ys ≤ length ys - 1 + 1 = omega arith in
    drop_more ys (length ys - 1) y lt ∙ (λ i. get_or_from_slice_get ys (length ys - 1) y y f i ∷ drop_all (length ys - 1 + 1) ys z i)

-- the topmost, and the others
pub top_some : {A : Type 0} (ys : List A) (y : A) → Some y ≡ slice_get ys (length ys - 1) → reverse ys ≡ y ∷ reverse (take (length ys - 1) ys)
top_some ys y e =
    ap reverse (sym (take-append-drop (length ys - 1) ys)) ∙ reverse-append (take (length ys - 1) ys) (drop (length ys - 1) ys)
    ∙ ap (λ d. reverse d ++ reverse (take (length ys - 1) ys)) (drop_last ys y (sym e))

pub reverse-drop : {A : Type 0} (xs : List A) (n : ℕ) → reverse (drop n xs) ≡ take (length xs - n) (reverse xs)
reverse-drop xs n =
    let back : drop n xs ≡ reverse (take (length xs - n) (reverse xs)) =
    sym (ap (λ m. reverse (take (m - n) (reverse xs))) (sym (length-reverse xs)) ∙ reverse-take (reverse xs) n ∙ ap (drop n) (reverse-reverse xs)) in
    ap reverse back ∙ reverse-reverse (take (length xs - n) (reverse xs))

-- The topmost goes, and of the two below so many more the upper one, where the lower one changes.
pub row_put : {A : Type 0} (xs : List A) (n at : ℕ) (x : A) → 1 ≤ n → n + 2 ≤ length xs → at ≡ length xs - (n + 2) →
    reverse (set (take (at + 1) (take (length xs - 1) xs) ++ drop (at + 1 + 1) (take (length xs - 1) xs)) at x) ≡ take (n - 1) (drop 1 (reverse xs)) ++ x ∷ drop (n + 2) (reverse xs)
row_put xs n at x some deep is =
    let ys = take (length xs - 1) xs in
    let rest = drop (at + 1 + 1) ys in
    let len : length ys ≡ length xs - 1 = omega (arith, length-take (length xs - 1) xs) in
    let lt : at < length ys = omega arith in
    let le : at ≤ length xs - 1 = omega arith in
    let d = get_or ys at x in
    let front : length (take at ys) ≡ at = omega (arith, length-take at ys) in
    let left : length ys - (at + 1 + 1) ≡ n - 1 = omega arith in
    let changed : set (take (at + 1) ys ++ rest) at x ≡ take at ys ++ x ∷ rest =
    ap (λ zs. set (zs ++ rest) at x) (take_more ys at x lt) ∙ ap (λ zs. set zs at x) (append_assoc (take at ys) (d ∷ []) rest) ∙ set_at (take at ys) d rest x at front in
    let below : reverse (take at ys) ≡ drop (n + 2) (reverse xs) = ap reverse (take-take at (length xs - 1) xs le) ∙ ap (λ m. reverse (take m xs)) is ∙ reverse-take xs (n + 2) in
    let above : reverse rest ≡ take (n - 1) (drop 1 (reverse xs)) = reverse-drop ys (at + 1 + 1) ∙ ap (λ m. take m (reverse ys)) left ∙ ap (take (n - 1)) (reverse-take xs 1) in
    ap reverse changed ∙ reverse-append (take at ys) (x ∷ rest) ∙ ap (λ zs. zs ++ reverse (take at ys)) (reverse-append (x ∷ []) rest) ∙ append_assoc (reverse rest) (x ∷ []) (reverse (take at ys))
    ∙ (λ i. above i ++ x ∷ below i)

-- so many of the topmost, in their order
pub last_taken : {A : Type 0} (xs : List A) (n : ℕ) → drop (length xs - n) xs ≡ reverse (take n (reverse xs))
last_taken xs n =
    let m = length xs - n in
    let back = reverse (drop m xs) in
    let split : reverse xs ≡ back ++ reverse (take m xs) = ap reverse (sym (take-append-drop m xs)) ∙ reverse-append (take m xs) (drop m xs) in
    elim (leb_tells n (length xs)) [
      | inl e ↦
          let len : n ≤ length back = omega (arith, e.1, length-reverse (drop m xs), length-drop m xs) in
          let all : length back ≤ n = omega (arith, e.1, length-reverse (drop m xs), length-drop m xs) in
          sym (ap reverse (ap (take n) split ∙ take-append-le n back (reverse (take m xs)) len ∙ take_all n back all) ∙ reverse-reverse (drop m xs))
      | inr e ↦
          let z : m ≡ 0 = omega (arith, e.1) in
          let past : length (reverse xs) ≤ n = omega (arith, e.1, length-reverse xs) in
          ap (λ k. drop k xs) z ∙ sym (ap reverse (take_all n (reverse xs) past) ∙ reverse-reverse xs)
    ]
