-- The first type that is the same as another.
use Rattle.std.proofs.Common.{◌≡◌, ◌<◌, ◌≤◌, ℕ, zero, suc, ◌+◌, ◌-◌, List, length, add-one, Bool, true, false, if◌then◌else◌, Option, Some, None, ap, refl, sym, ◌∙◌, arith}
use Rattle.std.specs.Prelude.{◌==◌, ◌||◌}
use Rattle.std.proofs.Math.Bool.{or-false}
use Rattle.std.proofs.lemmas.Bool.{eqb-true}
use Rattle.aos_types.specs.declared.row.TypeId.{TypeId}
use Rattle.aos_types.specs.declared.row.TypeRow.{TypeRow}
use Rattle.aos_types.specs.declared.row.TypeRow.TheVariants as row
use Rattle.aos_types.specs.Table.{row_of, on_both}
use Rattle.aos_types.specs.Sameness.{are_predeclared, are_one, element_of, same_by, same}
use Rattle.aos_typed.specs.Open.{first_from, first_same}
use Rattle.aos_layout.specs.Marks.{is_alone}

-- The first of n types that begin with number k.
module _ (rows : List TypeRow) (t : TypeId) (n k : ℕ) where
  abbrev here : TypeId
  here = record { 0 = k }

  pub first_met : (all : TypeId) → 0 < n → same rows here t ≡ true → first_from n k rows t ≡ all → here ≡ all
  first_met all some is before =
      let next : n ≡ suc (n - 1) = omega arith in
      sym (ap (λ m. first_from m k rows t) next ∙ ap (λ b. if b then here else first_from (n - 1) (suc k) rows t) is) ∙ before

  pub first_later : (all : TypeId) → 0 < n → same rows here t ≡ false → first_from n k rows t ≡ all → first_from (n - 1) (k + 1) rows t ≡ all
  first_later all some isnt before =
      let next : n ≡ suc (n - 1) = omega arith in
      ap (λ j. first_from (n - 1) j rows t) (add-one k)
      ∙ sym (ap (λ m. first_from m k rows t) next ∙ ap (λ b. if b then here else first_from (n - 1) (suc k) rows t) isnt) ∙ before

  pub first_none : (all : TypeId) → n ≤ 0 → first_from n k rows t ≡ all → t ≡ all
  first_none all over before =
      let none : n ≡ 0 = omega (arith, over) in ap (λ m. first_from m k rows t) (sym none) ∙ before

-- A type that is the same as no other.
module _ (rows : List TypeRow) (t : TypeId) (e : is_alone (row_of rows t) ≡ true) where
  no_element : (o : Option TypeRow) → is_alone o ≡ true → element_of o ≡ None
  no_element None h = refl
  no_element (Some (row.Basic b)) h = absurd (cc)
  no_element (Some (row.Array n of)) h = refl
  no_element (Some (row.Open of)) h = absurd (cc)
  no_element (Some (row.Record base fields)) h = refl
  no_element (Some (row.Pointer to)) h = refl
  no_element (Some (row.Object base fields)) h = refl
  no_element (Some (row.Procedure formals r)) h = refl
  no_element (Some row.Any) h = absurd (cc)

  none_predeclared : (a o : Option TypeRow) → is_alone o ≡ true → are_predeclared a o ≡ false
  none_predeclared None o h = refl
  none_predeclared (Some (row.Basic b)) None h = refl
  none_predeclared (Some (row.Basic b)) (Some (row.Basic c)) h = absurd (cc)
  none_predeclared (Some (row.Basic b)) (Some (row.Array n of)) h = refl
  none_predeclared (Some (row.Basic b)) (Some (row.Open of)) h = refl
  none_predeclared (Some (row.Basic b)) (Some (row.Record base fields)) h = refl
  none_predeclared (Some (row.Basic b)) (Some (row.Pointer to)) h = refl
  none_predeclared (Some (row.Basic b)) (Some (row.Object base fields)) h = refl
  none_predeclared (Some (row.Basic b)) (Some (row.Procedure formals r)) h = refl
  none_predeclared (Some (row.Basic b)) (Some row.Any) h = refl
  none_predeclared (Some (row.Array n of)) o h = refl
  none_predeclared (Some (row.Open of)) o h = refl
  none_predeclared (Some (row.Record base fields)) o h = refl
  none_predeclared (Some (row.Pointer to)) o h = refl
  none_predeclared (Some (row.Object base fields)) o h = refl
  none_predeclared (Some (row.Procedure formals r)) o h = refl
  none_predeclared (Some row.Any) None h = refl
  none_predeclared (Some row.Any) (Some (row.Basic c)) h = refl
  none_predeclared (Some row.Any) (Some (row.Array n of)) h = refl
  none_predeclared (Some row.Any) (Some (row.Open of)) h = refl
  none_predeclared (Some row.Any) (Some (row.Record base fields)) h = refl
  none_predeclared (Some row.Any) (Some (row.Pointer to)) h = refl
  none_predeclared (Some row.Any) (Some (row.Object base fields)) h = refl
  none_predeclared (Some row.Any) (Some (row.Procedure formals r)) h = refl
  none_predeclared (Some row.Any) (Some row.Any) h = absurd (cc)

  alone_one : (a : TypeId) → are_one rows a t ≡ (a.0 == t.0)
  alone_one a = ap (λ b. (a.0 == t.0) || b) (none_predeclared (row_of rows a) (row_of rows t) e) ∙ or-false (a.0 == t.0)

  on_none : (f : TypeId → TypeId → Bool) (o : Option TypeId) → on_both f o None ≡ false
  on_none f None = refl
  on_none f (Some a) = refl

  alone_by : (n : ℕ) (a : TypeId) → same_by n rows a t ≡ (a.0 == t.0)
  alone_by zero a = alone_one a
  alone_by (suc n) a =
      let f = same_by n rows in
      let o = element_of (row_of rows a) in
      (λ i. alone_one a i || on_both f o (no_element (row_of rows t) e i)) ∙ ap (λ b. (a.0 == t.0) || b) (on_none f o) ∙ or-false (a.0 == t.0)

  alone_test : (k : ℕ) (rest : TypeId) (b : Bool) → (k == t.0) ≡ b → rest ≡ t → (if b then record { 0 = k } else rest) ≡ t
  alone_test k rest false is e = e
  alone_test k rest true is e = let q = eqb-true k t.0 is in ap (λ j. record { 0 = j }) q

  alone_from : (n k : ℕ) → first_from n k rows t ≡ t
  alone_from zero k = refl
  alone_from (suc n) k =
      ap (λ b. if b then record { 0 = k } else first_from n (suc k) rows t) (alone_by (length rows) (record { 0 = k }))
      ∙ alone_test k (first_from n (suc k) rows t) (k == t.0) refl (alone_from n (suc k))

  pub first_alone : t ≡ first_same rows t
  first_alone = sym (alone_from (length rows) 0)
