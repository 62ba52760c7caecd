-- A fact of each element, by recursion on the list.
use Rattle.std.proofs.Common.{◌≡◌, ℕ, zero, suc, List, [], ◌∷◌, ◌++◌, replicate, Some, slice_get, subst}
use Rattle.std.specs.List.{All, flat_map}
use Rattle.std.proofs.lemmas.List.Elements.{All-nil, All-cons}
use Rattle.std.proofs.lemmas.Option.{none-some, same_Some}

abbrev pub Each : {X : Type 0} → (X → Type 0) → List X → Type 0
Each P [] = Unit {0}
Each P (x ∷ xs) = P x × Each P xs

pub all_of : {X : Type 0} (P : X → Type 0) (xs : List X) → Each P xs → All P xs
all_of P [] each = All-nil P
all_of P (x ∷ xs) each = All-cons P x xs each.0 (all_of P xs each.1)

pub joined : {X : Type 0} (P : X → Type 0) (xs ys : List X) → Each P xs → Each P ys → Each P (xs ++ ys)
joined P [] ys a b = b
joined P (x ∷ xs) ys a b = (a.0, joined P xs ys a.1 b)

pub repeated : {X : Type 0} (P : X → Type 0) (n : ℕ) (x : X) → P x → Each P (replicate n x)
repeated P zero x p = tt
repeated P (suc n) x p = (p, repeated P n x p)

pub in_all : {X Y : Type 0} (P : Y → Type 0) (f : X → List Y) (xs : List X) → ((x : X) → Each P (f x)) → Each P (flat_map f xs)
in_all P f [] each = tt
in_all P f (x ∷ xs) each = joined P (f x) (flat_map f xs) (each x) (in_all P f xs each)

pub front : {X : Type 0} (P : X → Type 0) (xs ys : List X) → Each P (xs ++ ys) → Each P xs
front P [] ys each = tt
front P (x ∷ xs) ys each = (each.0, front P xs ys each.1)

pub back : {X : Type 0} (P : X → Type 0) (xs ys : List X) → Each P (xs ++ ys) → Each P ys
back P [] ys each = each
back P (x ∷ xs) ys each = back P xs ys each.1

pub implied : {X : Type 0} (P Q : X → Type 0) → ((x : X) → P x → Q x) → (xs : List X) → Each P xs → Each Q xs
implied P Q f [] each = tt
implied P Q f (x ∷ xs) each = (f x each.0, implied P Q f xs each.1)

pub each_at : {X : Type 0} (P : X → Type 0) (xs : List X) (i : ℕ) (x : X) → Each P xs → slice_get xs i ≡ Some x → P x
each_at P [] i x each e = absurd (none-some x e)
each_at P (y ∷ ys) zero x each e = subst P (same_Some y x e) each.0
each_at P (y ∷ ys) (suc i) x each e = each_at P ys i x each.1 e
