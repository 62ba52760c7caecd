-- Lists with another element at one place.
use Rattle.std.proofs.Common.{◌≡◌, ℕ, zero, suc, ◌+◌, ◌<◌, List, [], ◌∷◌, ◌++◌, length, Option, Some, None, option_map, slice_get, slice_set, refl, sym, ap, ◌∙◌, subst, arith}
use Rattle.std.proofs.lemmas.Option.{none-some, same_Some}

pub set_here : {X : Type 0} (xs : List X) (k : ℕ) (x y : X) → slice_get xs k ≡ Some x → slice_get (slice_set xs k y) k ≡ Some y
set_here [] k x y e = absurd (none-some x e)
set_here (a ∷ xs) zero x y e = refl
set_here (a ∷ xs) (suc k) x y e = set_here xs k x y e

pub set_other : {X : Type 0} (xs : List X) (k j : ℕ) (y : X) → (j ≡ k → ⊥) → slice_get (slice_set xs k y) j ≡ slice_get xs j
set_other [] k j y n = refl
set_other (a ∷ xs) zero zero y n = absurd (n refl)
set_other (a ∷ xs) zero (suc j) y n = refl
set_other (a ∷ xs) (suc k) zero y n = refl
set_other (a ∷ xs) (suc k) (suc j) y n = set_other xs k j y (λ e. n (ap (λ i. suc i) e))

-- what is the same of both is the same at each place
pub set_kept : {X Y : Type 0} (g : X → Y) (xs : List X) (k : ℕ) (x y : X) → slice_get xs k ≡ Some x → g y ≡ g x →
    (j : ℕ) → option_map g (slice_get (slice_set xs k y) j) ≡ option_map g (slice_get xs j)
set_kept g [] k x y e same j = refl
set_kept g (a ∷ xs) zero x y e same zero = ap (λ z. Some z) (same ∙ ap g (sym (same_Some a x e)))
set_kept g (a ∷ xs) zero x y e same (suc j) = refl
set_kept g (a ∷ xs) (suc k) x y e same zero = refl
set_kept g (a ∷ xs) (suc k) x y e same (suc j) = set_kept g xs k x y e same j

-- what stands at a place of such a list stood there, or was put there
pub set_gives : {X : Type 0} (P : X → Type 0) (xs : List X) (k j : ℕ) (x y : X) → slice_get (slice_set xs k y) j ≡ Some x → P y → (slice_get xs j ≡ Some x → P x) → P x
set_gives P [] k j x y e new old = old e
set_gives P (a ∷ xs) zero zero x y e new old = subst P (same_Some y x e) new
set_gives P (a ∷ xs) zero (suc j) x y e new old = old e
set_gives P (a ∷ xs) (suc k) zero x y e new old = old e
set_gives P (a ∷ xs) (suc k) (suc j) x y e new old = set_gives P xs k j x y e new old

pub push_gives : {X : Type 0} (P : X → Type 0) (xs : List X) (j : ℕ) (x y : X) → slice_get (xs ++ y ∷ []) j ≡ Some x → P y → (slice_get xs j ≡ Some x → P x) → P x
push_gives P [] zero x y e new old = subst P (same_Some y x e) new
push_gives P [] (suc j) x y e new old = absurd (none-some x e)
push_gives P (a ∷ xs) zero x y e new old = old e
push_gives P (a ∷ xs) (suc j) x y e new old = push_gives P xs j x y e new old

pub get_below : {X : Type 0} (xs ys : List X) (k : ℕ) → k < length xs → slice_get (xs ++ ys) k ≡ slice_get xs k
get_below [] ys k l = absurd (omega arith)
get_below (x ∷ xs) ys zero l = refl
get_below (x ∷ xs) ys (suc k) l = get_below xs ys k (omega arith)

pub get_behind : {X : Type 0} (xs ys : List X) (k : ℕ) → slice_get (xs ++ ys) (length xs + k) ≡ slice_get ys k
get_behind [] ys k = ap (slice_get ys) (let e : 0 + k ≡ k = omega arith in e)
get_behind (x ∷ xs) ys k =
    let e : suc (length xs) + k ≡ suc (length xs + k) = omega arith in
    ap (slice_get (x ∷ (xs ++ ys))) e ∙ get_behind xs ys k

pub mapped_at : {X Y : Type 0} (g : X → Y) (o : Option X) (y : Y) → option_map g o ≡ Some y → (x : X) × (o ≡ Some x) × (g x ≡ y)
mapped_at g None y e = absurd (none-some y e)
mapped_at g (Some x) y e = (x, refl, same_Some (g x) y e)
