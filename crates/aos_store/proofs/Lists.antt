-- Lists of which an element is changed, counted from either end.
use Rattle.std.proofs.Common.{◌≡◌, ℕ, zero, suc, ◌+◌, ◌-◌, ◌<◌, ◌≤◌, List, [], ◌∷◌, ◌++◌, length, map, take, drop, reverse, get_or, replicate, min, inl, inr, refl, sym, ap, ◌∙◌, arith}
use Rattle.std.specs.Prelude.{Some, None, slice_get, slice_set, Bool, true, false, nat_eq, nat_lt, is_some, if◌then◌else◌, sum_by}
use Rattle.std.proofs.Math.Dec.{eqb-suc-zero, eqb-zero-suc, eqb-suc-suc}
use Rattle.std.proofs.lemmas.List.{reverse-append, map-append, get_or-replicate, length-replicate, get_or_past, get_or_append_left, get_or-append_right, get_or-set_same, get_or-set_other}
use Rattle.std.proofs.lemmas.Option.{slice_get-get_or, slice_get_past}
use Rattle.std.proofs.lemmas.Bool.Decides.{leb_tells, eqb_tells}
use Rattle.std.proofs.lemmas.List.Sums.{sum_by-append, sum_by-cons}
use Rattle.aos_base.specs.Rooted.{from_last, change_from_last, change_at, spliced}

-- one element is set
pub set_one : {A : Type 0} (xs : List A) (i : ℕ) (v : A) → i < length xs → slice_set xs i v ≡ spliced i (v ∷ []) xs
set_one [] i v lt = absurd (omega arith)
set_one (x ∷ xs) zero v lt = refl
set_one (x ∷ xs) (suc i) v lt =
    let n : suc i + 1 ≡ suc (i + 1) = omega arith in
    ap (λ ys. x ∷ ys) (set_one xs i v (omega arith)) ∙ ap (λ m. (x ∷ take i xs) ++ (v ∷ drop m (x ∷ xs))) (sym n)

-- the element set shows as the changed one
pub changed_at : {A B : Type 0} (h : A → B) (g : B → B) (xs : List A) (i : ℕ) (x y : A) → slice_get xs i ≡ Some x → h y ≡ g (h x) → map h (slice_set xs i y) ≡ change_at i g (map h xs)
changed_at h g [] i x y here e = absurd (cc here)
changed_at h g (z ∷ zs) zero x y here e = let same : z ≡ x = cc here in ap (λ w. w ∷ map h zs) (e ∙ ap (λ w. g (h w)) (sym same))
changed_at h g (z ∷ zs) (suc i) x y here e = ap (λ ws. h z ∷ ws) (changed_at h g zs i x y here e)

-- the element set shows as the one before
pub same_at : {A B : Type 0} (h : A → B) (xs : List A) (i : ℕ) (x y : A) → slice_get xs i ≡ Some x → h y ≡ h x → map h (slice_set xs i y) ≡ map h xs
same_at h [] i x y here e = absurd (cc here)
same_at h (z ∷ zs) zero x y here e = let same : z ≡ x = cc here in ap (λ w. w ∷ map h zs) (e ∙ ap h (sym same))
same_at h (z ∷ zs) (suc i) x y here e = ap (λ ws. h z ∷ ws) (same_at h zs i x y here e)

pub map_reverse : {A B : Type 0} (h : A → B) (xs : List A) → map h (reverse xs) ≡ reverse (map h xs)
map_reverse h [] = refl
map_reverse h (x ∷ xs) =
    ap (map h) (reverse-append (x ∷ []) xs) ∙ map-append h (reverse xs) (x ∷ []) ∙ ap (λ ys. ys ++ h x ∷ []) (map_reverse h xs) ∙ sym (reverse-append (h x ∷ []) (map h xs))

pub sum_reverse : {A : Type 0} (f : A → ℕ) (xs : List A) → sum_by f (reverse xs) ≡ sum_by f xs
sum_reverse f [] = refl
sum_reverse f (x ∷ xs) =
    ap (sum_by f) (reverse-append (x ∷ []) xs) ∙ sum_by-append f (reverse xs) (x ∷ []) ∙ (omega (arith, sum_reverse f xs, sum_by-cons f x xs, sum_by-cons f x []))

length_more : {A : Type 0} (xs : List A) (y : A) → length (xs ++ y ∷ []) ≡ suc (length xs)
length_more [] y = refl
length_more (x ∷ xs) y = ap suc (length_more xs y)

last_first : {A : Type 0} (xs : List A) (y : A) → from_last 0 (xs ++ y ∷ []) ≡ Some y
last_first [] y = refl
last_first (x ∷ xs) y = ap (λ b. if b then Some x else from_last 0 (xs ++ y ∷ [])) (ap (nat_eq 0) (length_more xs y) ∙ eqb-zero-suc (length xs)) ∙ last_first xs y

last_next : {A : Type 0} (xs : List A) (y : A) (d : ℕ) → from_last (suc d) (xs ++ y ∷ []) ≡ from_last d xs
last_next [] y d = ap (λ b. if b then Some y else None) (eqb-suc-zero d)
last_next (x ∷ xs) y d =
    ap (λ b. if b then Some x else from_last (suc d) (xs ++ y ∷ [])) (ap (nat_eq (suc d)) (length_more xs y) ∙ eqb-suc-suc d (length xs))
    ∙ ap (λ r. if nat_eq d (length xs) then Some x else r) (last_next xs y d)

-- counted from the other end
pub from_last_reverse : {A : Type 0} (xs : List A) (d : ℕ) → from_last d (reverse xs) ≡ slice_get xs d
from_last_reverse [] d = refl
from_last_reverse (x ∷ xs) zero = ap (from_last 0) (reverse-append (x ∷ []) xs) ∙ last_first (reverse xs) x
from_last_reverse (x ∷ xs) (suc d) = ap (from_last (suc d)) (reverse-append (x ∷ []) xs) ∙ last_next (reverse xs) x d ∙ from_last_reverse xs d

change_first : {A : Type 0} (f : A → A) (xs : List A) (y : A) → change_from_last 0 f (xs ++ y ∷ []) ≡ xs ++ f y ∷ []
change_first f [] y = refl
change_first f (x ∷ xs) y =
    ap (λ b. if b then f x ∷ (xs ++ y ∷ []) else x ∷ change_from_last 0 f (xs ++ y ∷ [])) (ap (nat_eq 0) (length_more xs y) ∙ eqb-zero-suc (length xs))
    ∙ ap (λ zs. x ∷ zs) (change_first f xs y)

change_next : {A : Type 0} (d : ℕ) (f : A → A) (xs : List A) (y : A) → change_from_last (suc d) f (xs ++ y ∷ []) ≡ change_from_last d f xs ++ y ∷ []
change_next d f [] y = ap (λ b. if b then f y ∷ [] else y ∷ []) (eqb-suc-zero d)
change_next d f (x ∷ xs) y =
    ap (λ b. if b then f x ∷ (xs ++ y ∷ []) else x ∷ change_from_last (suc d) f (xs ++ y ∷ [])) (ap (nat_eq (suc d)) (length_more xs y) ∙ eqb-suc-suc d (length xs))
    ∙ by (nat_eq d (length xs)) (change_next d f xs y)
  where
    by : (b : Bool) → change_from_last (suc d) f (xs ++ y ∷ []) ≡ change_from_last d f xs ++ y ∷ [] →
        (if b then f x ∷ (xs ++ y ∷ []) else x ∷ change_from_last (suc d) f (xs ++ y ∷ [])) ≡ (if b then f x ∷ xs else x ∷ change_from_last d f xs) ++ y ∷ []
    by true ih = refl
    by false ih = ap (λ zs. x ∷ zs) ih

pub change_reverse : {A : Type 0} (d : ℕ) (f : A → A) (xs : List A) → change_from_last d f (reverse xs) ≡ reverse (change_at d f xs)
change_reverse d f [] = refl
change_reverse zero f (x ∷ xs) = ap (change_from_last 0 f) (reverse-append (x ∷ []) xs) ∙ change_first f (reverse xs) x ∙ sym (reverse-append (f x ∷ []) xs)
change_reverse (suc d) f (x ∷ xs) =
    ap (change_from_last (suc d) f) (reverse-append (x ∷ []) xs) ∙ change_next d f (reverse xs) x ∙ ap (λ zs. zs ++ x ∷ []) (change_reverse d f xs) ∙ sym (reverse-append (x ∷ []) (change_at d f xs))

-- a sum that was cut behind a bound is past the bound where the whole sum is
pub capped : (most n m : ℕ) → m ≡ min n (suc most) → nat_lt most m ≡ nat_lt most n
capped most n m e =
    elim (leb_tells (suc most) m) [
      | inl p ↦ elim (leb_tells (suc most) n) [ inl q ↦ p.0 ∙ sym q.0 | inr q ↦ absurd (omega (arith, p.1, q.1, e)) ]
      | inr p ↦ elim (leb_tells (suc most) n) [ inl q ↦ absurd (omega (arith, p.1, q.1, e)) | inr q ↦ p.0 ∙ sym q.0 ]
    ]

-- there is an element of this number
pub there_is : {A : Type 0} (xs : List A) (i : ℕ) → nat_lt i (length xs) ≡ is_some (slice_get xs i)
there_is [] i = elim (leb_tells (suc i) 0) [ inl p ↦ absurd (omega (arith, p.1)) | inr p ↦ p.0 ]
there_is (x ∷ xs) i =
    elim (leb_tells (suc i) (length (x ∷ xs))) [
      | inl p ↦ p.0 ∙ ap is_some (sym (slice_get-get_or (x ∷ xs) i x p.1))
      | inr p ↦ p.0 ∙ ap is_some (sym (slice_get_past (x ∷ xs) i (omega (arith, p.1))))
    ]

-- each of so many equal elements, and what stands for those past the end
pub zeros : {A : Type 0} (n i : ℕ) (d : A) → get_or (replicate n d) i d ≡ d
zeros n i d =
    elim (leb_tells (suc i) n) [
      | inl p ↦ get_or-replicate n i d d p.1
      | inr p ↦ get_or_past (replicate n d) i d (omega (arith, p.1, length-replicate n d))
    ]

pub get_zeros : {A : Type 0} (xs : List A) (n i : ℕ) (d : A) → get_or (xs ++ replicate n d) i d ≡ get_or xs i d
get_zeros xs n i d =
    elim (leb_tells (suc i) (length xs)) [
      | inl p ↦ get_or_append_left xs (replicate n d) d i p.1
      | inr p ↦
          let le : length xs ≤ i = omega (arith, p.1) in
          get_or-append_right xs (replicate n d) (length xs) i d refl le ∙ zeros n (i - length xs) d ∙ sym (get_or_past xs i d le)
    ]

-- one of them is set
pub get_set : {A : Type 0} (xs : List A) (c i : ℕ) (v d : A) → c < length xs → get_or (slice_set xs c v) i d ≡ (if nat_eq i c then v else get_or xs i d)
get_set xs c i v d lt =
    elim (eqb_tells i c) [
      | inl p ↦ ap (λ k. get_or (slice_set xs c v) k d) p.1 ∙ get_or-set_same xs c v d lt ∙ ap (λ b. if b then v else get_or xs i d) (sym p.0)
      | inr p ↦ get_or-set_other xs c i v d p.1 ∙ ap (λ b. if b then v else get_or xs i d) (sym p.0)
    ]
