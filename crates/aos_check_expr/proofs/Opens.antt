-- The open dimensions of types, in a table in which each open array stands behind its elements.
use Rattle.std.proofs.Common.{◌≡◌, ℕ, zero, suc, ◌-◌, ◌≤◌, ◌<◌, ◌⊎◌, List, [], ◌∷◌, length, false, Option, Some, None, slice_get, refl, sym, ap, ◌∙◌, subst, arith}
use Rattle.std.proofs.lemmas.Option.{none-some, same_Some, slice_get_within}
use Rattle.aos_types.specs.declared.row.TypeId.{TypeId}
use Rattle.aos_types.specs.declared.row.TypeRow.{TypeRow}
use Rattle.aos_types.specs.declared.row.TypeRow.TheVariants as row
use Rattle.aos_types.specs.Table.{row_of, is_open}
use Rattle.aos_types.specs.Sameness.{element_of}
use Rattle.aos_typed.specs.Open.{open_by, behind, open_dimensions, open_element}
use Rattle.aos_arguments.specs.Arguments.{behind_dimensions}

-- what is no open array has no elements of one
pub closed_row : (r : Option TypeRow) → is_open r ≡ false → element_of r ≡ None
closed_row (Some (row.Open u)) is = absurd (cc)
closed_row None is = refl
closed_row r is = refl

pub open_is : (r : Option TypeRow) (u : TypeId) → element_of r ≡ Some u → r ≡ Some (row.Open u)
open_is (Some (row.Open v)) u is = ap (λ w. Some (row.Open w)) (same_Some v u is)
open_is None u is = absurd (none-some u is)
open_is r u is = absurd (none-some u is)

-- the type of a variable isn't that of NIL or of string constants
abbrev pub IsVariableNumber : ℕ → Type 0
IsVariableNumber n = (n < 7) ⊎ ((n ≡ 8) ⊎ (10 ≤ n))

-- an open array stands behind its elements
abbrev pub IsOpenAt : ℕ → TypeRow → Type 0
IsOpenAt k (row.Open u) = (u.0 < k) × (10 ≤ k) × IsVariableNumber u.0
IsOpenAt k r = Unit {0}

abbrev pub OpensStand : List TypeRow → Type 0
OpensStand types = (k : ℕ) (r : TypeRow) → slice_get types k ≡ Some r → IsOpenAt k r

-- each number below a list's length has an item
pub some_there : {X : Type 0} (xs : List X) (k : ℕ) → k < length xs → (x : X) × (slice_get xs k ≡ Some x)
some_there [] k below = absurd (omega (arith, below))
some_there (x ∷ xs) zero below = (x, refl)
some_there (x ∷ xs) (suc k) below = some_there xs k (omega (arith, below))

module _ (types : List TypeRow) where
  -- what has no open dimension
  none_open : (n : ℕ) (t : TypeId) → element_of (row_of types t) ≡ None → open_by n types t ≡ 0
  none_open zero t is = refl
  none_open (suc n) t is = rw is refl

  none_behind : (n : ℕ) (t : TypeId) → element_of (row_of types t) ≡ None → behind n types t ≡ t
  none_behind zero t is = refl
  none_behind (suc n) t is = rw is refl

  pub closed_dimensions : (t : TypeId) → element_of (row_of types t) ≡ None → open_dimensions types t ≡ 0
  closed_dimensions t is = none_open (length types) t is

  pub closed_element : (t : TypeId) → element_of (row_of types t) ≡ None → open_element types t ≡ t
  closed_element t is = none_behind (length types) t is

  one_open : (n : ℕ) (t u : TypeId) → row_of types t ≡ Some (row.Open u) → open_by (suc n) types t ≡ suc (open_by n types u)
  one_open n t u is = rw is refl

  one_behind : (n : ℕ) (t u : TypeId) → row_of types t ≡ Some (row.Open u) → behind (suc n) types t ≡ behind n types u
  one_behind n t u is = rw is refl

  one_dimension : (n : ℕ) (t u : TypeId) → row_of types t ≡ Some (row.Open u) → behind_dimensions types (suc n) t ≡ behind_dimensions types n u
  one_dimension n t u is = rw is refl

  -- behind so many dimensions stands this type: the first ones are those that are open
  abbrev pub IsBehind : ℕ → TypeId → TypeId → Type 0
  IsBehind n t v = (open_dimensions types t ≤ n) × (behind_dimensions types (n - open_dimensions types t) (open_element types t) ≡ Some v)

  closed_behind : (n : ℕ) (t v : TypeId) → element_of (row_of types t) ≡ None → behind_dimensions types n t ≡ Some v → IsBehind n t v
  closed_behind n t v none is =
      let zero = closed_dimensions t none in
      let all : n - open_dimensions types t ≡ n = omega (arith, zero) in
      (omega (arith, zero), ap (λ d. behind_dimensions types d (open_element types t)) all ∙ ap (λ u. behind_dimensions types n u) (closed_element t none) ∙ is)

  abbrev pub OpensFall : Type 0
  OpensFall = (t u : TypeId) → row_of types t ≡ Some (row.Open u) → u.0 < t.0

  module _ (falls : OpensFall) where
    -- nothing is open that has no type before it
    first_closed : (t : TypeId) → t.0 ≤ 0 → element_of (row_of types t) ≡ None
    first_closed t low = by (element_of (row_of types t)) refl
      where
        by : (o : Option TypeId) → element_of (row_of types t) ≡ o → o ≡ None
        by None is = refl
        by (Some u) is = absurd (let less = falls t u (open_is (row_of types t) u is) in omega (arith, less, low))

    -- enough dimensions looked at are enough
    stable : (n m : ℕ) (t : TypeId) → t.0 ≤ n → t.0 ≤ m → open_by n types t ≡ open_by m types t
    stable zero m t a b = let none = first_closed t a in none_open zero t none ∙ sym (none_open m t none)
    stable (suc n) zero t a b = let none = first_closed t b in none_open (suc n) t none ∙ sym (none_open zero t none)
    stable (suc n) (suc m) t a b = by (element_of (row_of types t)) refl (stable n m)
      where
        by : (o : Option TypeId) → element_of (row_of types t) ≡ o → ((u : TypeId) → u.0 ≤ n → u.0 ≤ m → open_by n types u ≡ open_by m types u) →
            open_by (suc n) types t ≡ open_by (suc m) types t
        by None is more = none_open (suc n) t is ∙ sym (none_open (suc m) t is)
        by (Some u) is more =
            let row = open_is (row_of types t) u is in
            let less = falls t u row in
            one_open n t u row ∙ ap suc (more u (omega (arith, less, a)) (omega (arith, less, b))) ∙ sym (one_open m t u row)

    stable_behind : (n m : ℕ) (t : TypeId) → t.0 ≤ n → t.0 ≤ m → behind n types t ≡ behind m types t
    stable_behind zero m t a b = let none = first_closed t a in none_behind zero t none ∙ sym (none_behind m t none)
    stable_behind (suc n) zero t a b = let none = first_closed t b in none_behind (suc n) t none ∙ sym (none_behind zero t none)
    stable_behind (suc n) (suc m) t a b = by (element_of (row_of types t)) refl (stable_behind n m)
      where
        by : (o : Option TypeId) → element_of (row_of types t) ≡ o → ((u : TypeId) → u.0 ≤ n → u.0 ≤ m → behind n types u ≡ behind m types u) →
            behind (suc n) types t ≡ behind (suc m) types t
        by None is more = none_behind (suc n) t is ∙ sym (none_behind (suc m) t is)
        by (Some u) is more =
            let row = open_is (row_of types t) u is in
            let less = falls t u row in
            one_behind n t u row ∙ more u (omega (arith, less, a)) (omega (arith, less, b)) ∙ sym (one_behind m t u row)

    enough : (t u : TypeId) → row_of types t ≡ Some (row.Open u) → (n : ℕ) × (length types ≡ suc n) × (u.0 ≤ n)
    enough t u is = by (length types) refl
      where
        by : (l : ℕ) → length types ≡ l → (n : ℕ) × (length types ≡ suc n) × (u.0 ≤ n)
        by zero e = absurd (let below = slice_get_within types t.0 (row.Open u) is in omega (arith, below))
        by (suc n) e = let below = slice_get_within types t.0 (row.Open u) is in let less = falls t u is in (n, e, omega (arith, below, less))

    -- one dimension, and those behind it
    pub next_dimensions : (t u : TypeId) → row_of types t ≡ Some (row.Open u) → open_dimensions types t ≡ suc (open_dimensions types u)
    next_dimensions t u is =
        let k = enough t u is in
        ap (λ n. open_by n types t) k.1 ∙ one_open k.0 t u is ∙ ap suc (stable k.0 (length types) u k.2 (omega (arith, k.2)))

    pub next_element : (t u : TypeId) → row_of types t ≡ Some (row.Open u) → open_element types t ≡ open_element types u
    next_element t u is =
        let k = enough t u is in
        ap (λ n. behind n types t) k.1 ∙ one_behind k.0 t u is ∙ stable_behind k.0 (length types) u k.2 (omega (arith, k.2))

    -- what holds of each type that isn't open and that is the element of an open one, holds of what is behind the open dimensions
    pub behind_all : (P : TypeId → Type 0) → ((t u : TypeId) → row_of types t ≡ Some (row.Open u) → element_of (row_of types u) ≡ None → P u) →
        (n : ℕ) (t u : TypeId) → t.0 ≤ n → row_of types t ≡ Some (row.Open u) → P (open_element types t)
    behind_all P each zero t u a is = absurd (let less = falls t u is in omega (arith, less, a))
    behind_all P each (suc n) t u a is = subst P (sym (next_element t u is)) (by (element_of (row_of types u)) refl (behind_all P each n u))
      where
        by : (o : Option TypeId) → element_of (row_of types u) ≡ o → ((v : TypeId) → u.0 ≤ n → row_of types u ≡ Some (row.Open v) → P (open_element types u)) →
            P (open_element types u)
        by None e more = subst P (sym (closed_element u e)) (each t u is e)
        by (Some v) e more = let less = falls t u is in more v (omega (arith, less, a)) (open_is (row_of types u) v e)

    -- so it is where that type has no open dimension
    pub all_behind : (n : ℕ) (t v : TypeId) → element_of (row_of types v) ≡ None → behind_dimensions types n t ≡ Some v → IsBehind n t v
    all_behind zero t v none is = closed_behind zero t v (ap (λ u. element_of (row_of types u)) (same_Some t v is) ∙ none) is
    all_behind (suc n) t v none is = by (element_of (row_of types t)) refl (all_behind n)
      where
        by : (o : Option TypeId) → element_of (row_of types t) ≡ o →
            ((u v : TypeId) → element_of (row_of types v) ≡ None → behind_dimensions types n u ≡ Some v → IsBehind n u v) → IsBehind (suc n) t v
        by None e more = closed_behind (suc n) t v e is
        by (Some u) e more =
            let row = open_is (row_of types t) u e in
            let rest = more u v none (sym (one_dimension n t u row) ∙ is) in
            let next = next_dimensions t u row in
            let left : suc n - open_dimensions types t ≡ n - open_dimensions types u = omega (arith, next) in (
              omega (arith, rest.0, next),
              ap (λ d. behind_dimensions types d (open_element types t)) left
                  ∙ ap (λ w. behind_dimensions types (n - open_dimensions types u) w) (next_element t u row) ∙ rest.1,
            )

-- Where a table goes on, its types have the same open dimensions.
module _ (types more : List TypeRow) (falls : OpensFall types) (falls_on : OpensFall more)
    (stay : (k : ℕ) → k < length types → slice_get more k ≡ slice_get types k) where
  pub dimensions_stay : (n : ℕ) (t : TypeId) → t.0 ≤ n → t.0 < length types → open_dimensions more t ≡ open_dimensions types t
  dimensions_stay zero t a below =
      let none = first_closed types falls t a in closed_dimensions more t (ap element_of (stay t.0 below) ∙ none) ∙ sym (closed_dimensions types t none)
  dimensions_stay (suc n) t a below = by (element_of (row_of types t)) refl (dimensions_stay n)
    where
      by : (o : Option TypeId) → element_of (row_of types t) ≡ o → ((u : TypeId) → u.0 ≤ n → u.0 < length types → open_dimensions more u ≡ open_dimensions types u) →
          open_dimensions more t ≡ open_dimensions types t
      by None is rest = closed_dimensions more t (ap element_of (stay t.0 below) ∙ is) ∙ sym (closed_dimensions types t is)
      by (Some u) is rest =
          let row = open_is (row_of types t) u is in
          let less = falls t u row in
          next_dimensions more falls_on t u (stay t.0 below ∙ row) ∙ ap suc (rest u (omega (arith, less, a)) (omega (arith, less, below)))
          ∙ sym (next_dimensions types falls t u row)

  pub element_stays : (n : ℕ) (t : TypeId) → t.0 ≤ n → t.0 < length types → open_element more t ≡ open_element types t
  element_stays zero t a below =
      let none = first_closed types falls t a in closed_element more t (ap element_of (stay t.0 below) ∙ none) ∙ sym (closed_element types t none)
  element_stays (suc n) t a below = by (element_of (row_of types t)) refl (element_stays n)
    where
      by : (o : Option TypeId) → element_of (row_of types t) ≡ o → ((u : TypeId) → u.0 ≤ n → u.0 < length types → open_element more u ≡ open_element types u) →
          open_element more t ≡ open_element types t
      by None is rest = closed_element more t (ap element_of (stay t.0 below) ∙ is) ∙ sym (closed_element types t is)
      by (Some u) is rest =
          let row = open_is (row_of types t) u is in
          let less = falls t u row in
          next_element more falls_on t u (stay t.0 below ∙ row) ∙ rest u (omega (arith, less, a)) (omega (arith, less, below))
          ∙ sym (next_element types falls t u row)

pub stand_fall : (types : List TypeRow) → OpensStand types → OpensFall types
stand_fall types stand t u is = (stand t.0 (row.Open u) is).0
