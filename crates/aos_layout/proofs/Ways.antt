-- A way from a type to a part of a part, one number after the other.
use Rattle.std.proofs.Common.{◌≡◌, ℕ, suc, ◌+◌, ◌<◌, ◌≤◌, List, [], ◌∷◌, length, get_or, drop, Option, Some, None, refl, ap, ◌∙◌, subst, arith, drop-cons, add-one, length-drop}
use Rattle.std.specs.Prelude.{Bool, true, false, if◌then◌else◌, is_some, option_and_then}
use Rattle.aos_base.specs.declared.limits.TheConstants.{MOST_SCALARS}
use Rattle.aos_types.specs.declared.row.TypeId.{TypeId}
use Rattle.aos_types.specs.declared.row.TypeRow.{TypeRow}
use Rattle.aos_types.specs.Table.{row_of, is_object}
use Rattle.aos_types.specs.Shape.{Shape, One, size, part, before, inside, offset, number_of}
use Rattle.aos_types.specs.Contents.{contents}
use Rattle.aos_types.proofs.Offsets.{inside_within}
use Rattle.aos_layout.specs.TypeParts.{variable}
use Rattle.aos_layout.proofs.Joins.{before_within}

is_there : {A : Type 0} (o : Option A) → is_some o ≡ true → (m : A) × (o ≡ Some m)
is_there None e = absurd (cc)
is_there (Some m) e = (m, refl)

-- the first step of a way
first_there : (n : ℕ) (p : List ℕ) (s : Shape TypeId) → is_some (inside (n ∷ p) s) ≡ true → is_some (part n s) ≡ true
first_there n p s e = at_part (part n s) e
  where
    at_part : (o : Option (Shape TypeId)) → is_some (option_and_then (inside p) o) ≡ true → is_some o ≡ true
    at_part None e = absurd (cc)
    at_part (Some m) e = refl

-- an object's own fields aren't reached from a variable of its type, and else a variable has its type's contents
module _ (rows : List TypeRow) (u : TypeId) where
  same_or_end : (p : List ℕ) → is_some (inside p (variable rows u)) ≡ true → (offset p (variable rows u) ≡ offset p (contents rows u)) × (is_some (inside p (contents rows u)) ≡ true) × (0 < length p → variable rows u ≡ contents rows u)
  same_or_end [] e = (refl, refl, λ l. absurd (omega arith))
  same_or_end (j ∷ p) e = at_test (is_object (row_of rows u)) e
    where
      at_test : (b : Bool) → is_some (inside (j ∷ p) (if b then One u else contents rows u)) ≡ true → (offset (j ∷ p) (if b then One u else contents rows u) ≡ offset (j ∷ p) (contents rows u)) × (is_some (inside (j ∷ p) (contents rows u)) ≡ true) × (0 < length (j ∷ p) → (if b then One u else contents rows u) ≡ contents rows u)
      at_test true e = absurd (cc)
      at_test false e = (refl, e, λ l. refl)

-- so many steps of a way from a shape lead to a type, past so many cells
pub record IsOnWay (rows : List TypeRow) (whole : Shape TypeId) (path : List ℕ) (i : ℕ) (at : TypeId) (cells : ℕ) : Type 0 where
  pub valid : is_some (inside (drop i path) (contents rows at)) ≡ true
  pub added : cells + offset (drop i path) (contents rows at) ≡ offset path whole
  pub sizes : i < length path → size (contents rows at) ≤ MOST_SCALARS

module _ (rows : List TypeRow) (t : TypeId) (path : List ℕ) where
  pub way_bounded : is_some (inside path (contents rows t)) ≡ true → size (contents rows t) ≤ MOST_SCALARS → offset path (contents rows t) ≤ MOST_SCALARS
  way_bounded e s =
      let m = is_there (inside path (contents rows t)) e in
      let w = inside_within path (contents rows t) m.0 m.1 in
      omega (arith, w, s)

module _ (rows : List TypeRow) (whole : Shape TypeId) (path : List ℕ) (i : ℕ) (at : TypeId) (cells : ℕ) (d : ℕ) (w : IsOnWay rows whole path i at cells) where
  module _ (l : i < length path) where
    abbrev next : ℕ
    next = get_or path i d

    cut : drop i path ≡ next ∷ drop (suc i) path
    cut = drop-cons path i d l

    valid_on : is_some (inside (next ∷ drop (suc i) path) (contents rows at)) ≡ true
    valid_on = subst (λ p. is_some (inside p (contents rows at)) ≡ true) cut w.valid

    pub step_there : is_some (part next (contents rows at)) ≡ true
    step_there = first_there next (drop (suc i) path) (contents rows at) valid_on

    pub step_bounded : cells + before next (contents rows at) ≤ offset path whole
    step_bounded =
        let a = w.added in
        let c = ap (λ p. offset p (contents rows at)) cut in
        omega (arith, a, c)

    pub way_on : (u : TypeId) (b : ℕ) → part next (contents rows at) ≡ Some (variable rows u) → b ≡ before next (contents rows at) → IsOnWay rows whole path (i + 1) u (cells + b)
    way_on u b e f =
        let p = drop (suc i) path in
        let v : is_some (inside p (variable rows u)) ≡ true = subst (λ o. is_some (option_and_then (inside p) o) ≡ true) e valid_on in
        let r = same_or_end rows u p v in
        let g : offset (drop i path) (contents rows at) ≡ before next (contents rows at) + offset p (variable rows u) = ap (λ q. offset q (contents rows at)) cut ∙ ap (λ o. before next (contents rows at) + number_of (offset p) o) e in
        let a = w.added in
        let k = r.0 in
        let m = before_within next (contents rows at) (variable rows u) e in
        let s = w.sizes l in
        rw add-one (
        record {
          valid = r.1;
          added = omega (arith, a, f, g, k);
          sizes = λ n. (let z = ap size (r.2 (let h = length-drop (suc i) path in omega (arith, h, n))) in omega (arith, z, m, s));
        }
        )
