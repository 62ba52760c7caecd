-- Lists that are made one element after the other.
use Rattle.std.proofs.Common.{◌≡◌, ◌<◌, ◌≤◌, ℕ, ◌+◌, List, [], ◌∷◌, ◌++◌, length, get_or, map, take, Some, sym, ap, ◌∙◌, arith}
use Rattle.std.specs.Prelude.{slice_get}
use Rattle.std.specs.List.{range_with_len}
use Rattle.std.specs.Option.{unwrap_or}
use Rattle.std.proofs.lemmas.List.{map-append, map_more, length-map, length-take-le}
use Rattle.std.proofs.lemmas.List.FromFn.{map-range_with_len_more, length-map-range_with_len, get_or-map-range_with_len}
use Rattle.std.proofs.lemmas.Option.{slice_get_within, slice_get-get_or}

-- a list of which each element gives the other's, with one more of each
pub more : {A B : Type 0} (f : A → B) (xs : List A) (ys : List B) (x : A) (y : B) → map f xs ≡ ys → f x ≡ y → map f (xs ++ x ∷ []) ≡ ys ++ y ∷ []
more f xs ys x y e h = map-append f xs (x ∷ []) ∙ ap (λ l. l ++ f x ∷ []) e ∙ ap (λ z. ys ++ z ∷ []) h

-- the same, where the other's are those of a third
pub more_of : {A B C : Type 0} (f : A → B) (g : C → B) (xs : List A) (zs : List C) (x : A) (z : C) → map f xs ≡ map g zs → f x ≡ g z → map f (xs ++ x ∷ []) ≡ map g (zs ++ z ∷ [])
more_of f g xs zs x z e h = more f xs (map g zs) x (g z) e h ∙ sym (map-append g zs (z ∷ []))

-- one more of what a list is seen as
pub next_of : {X Y : Type 0} (f : X → Y) (xs : List X) (k : ℕ) (x : X) → k < length xs → x ≡ get_or xs k x → map f (take (k + 1) xs) ≡ map f (take k xs) ++ f x ∷ []
next_of f xs k x lt at = map_more f xs k x lt ∙ ap (λ q. map f (take k xs) ++ f q ∷ []) (sym at)

pub count_of : {X Y : Type 0} (f : X → Y) (xs : List X) (k : ℕ) → k < length xs → length (map f (take k xs)) ≡ k
count_of f xs k lt = let le : k ≤ length xs = omega arith in length-map (take k xs) f ∙ length-take-le k xs le

-- a list of what there is for each number from 0 on, with one more, and what stands in it
pub next_number : {A : Type 0} (f : ℕ → A) (k : ℕ) (xs ys : List A) (x : A) → ys ≡ xs ++ x ∷ [] → x ≡ f k → xs ≡ map f (range_with_len 0 k) → ys ≡ map f (range_with_len 0 (k + 1))
next_number f k xs ys x is one before =
    is
    ∙ (λ i. before i ++ one i ∷ [])
    ∙ sym (map-range_with_len_more f 0 k k (omega arith))

pub at_number : {A : Type 0} (f : ℕ → A) (n t : ℕ) (xs : List A) (x : A) → xs ≡ map f (range_with_len 0 n) → slice_get xs t ≡ Some x → x ≡ f t
at_number f n t xs x are at =
    let lt : t < length (map f (range_with_len 0 n)) = omega (arith, slice_get_within xs t x at, ap length are) in
    let one : Some x ≡ Some (f t) =
    sym at
    ∙ ap (λ l. slice_get l t) are
    ∙ slice_get-get_or (map f (range_with_len 0 n)) t (f t) lt
    ∙ ap (λ l. Some l) (get_or-map-range_with_len f 0 n t t (f t) (omega (arith, lt, length-map-range_with_len f 0 n)) (omega arith)) in
    ap (λ o. unwrap_or o x) one
