-- Types of variables and parameters, by their numbers in the table. What is known of a type stays where its row does.
use Rattle.std.proofs.Common.{◌≡◌, ℕ, zero, suc, ◌<◌, ◌≤◌, inl, inr, List, [], ◌∷◌, ◌++◌, length, map, Bool, true, false, Option, Some, None, slice_get, refl, sym, ap, ◌∙◌, subst, lt-ltb, eq-eqb, arith}
use Rattle.std.proofs.lemmas.Option.{none-some, slice_get_within}
use Rattle.aos_base.specs.declared.limits.TheConstants.{MOST_SCALARS}
use Rattle.aos_types.specs.declared.row.TypeId.{TypeId}
use Rattle.aos_types.specs.declared.row.TypeRow.{TypeRow}
use Rattle.aos_types.specs.declared.row.TypeRow.TheVariants as row
use Rattle.aos_types.specs.Table.{row_of, has_fields, is_open, base_of}
use Rattle.aos_types.specs.Shape.{Shape, size}
use Rattle.aos_types.specs.Contents.{with_parts, unfolded, scalars}
use Rattle.aos_types.specs.Chain.{parts_of, IsOneOf, IsChain}
use Rattle.aos_types.specs.Count.{named_in}
use Rattle.aos_typed.specs.Numbers.{id_of}
use Rattle.aos_typed.specs.Program.{Variable, Program}
use Rattle.aos_typed.specs.WellTyped.{IsType, IsVariableType}
use Rattle.aos_symbols.specs.Env.{any, nil, basic_rows}
use Rattle.aos_symbols.proofs.Each.{Each}
use Rattle.aos_symbols.proofs.Told.{IsTold, basic, of_any, defined, IsKnown, AreToldParts}
use Rattle.aos_known.specs.Known.{type_as, type_of}
use Rattle.aos_known.proofs.Types.{same_type, integer_cases, basic_cases, id_above}
use Rattle.aos_check_expr.proofs.Opens.{IsVariableNumber, IsOpenAt, some_there}
use Rattle.aos_check_decl.proofs.Typing.{AreReady, IsThere}

-- the number of a type in the typed program is that in the table
pub number_is : (t : TypeId) → IsVariableNumber t.0 → id_of (type_as t) ≡ t
number_is t (inl below) =
    basic_cases (λ t. id_of (type_as t) ≡ t) (integer_cases (λ t. id_of (type_as t) ≡ t) refl refl refl refl) refl refl refl t (lt-ltb t.0 7 below)
number_is t (inr (inl is)) = subst (λ t. id_of (type_as t) ≡ t) (same_type any t (eq-eqb 8 t.0 (sym is))) refl
number_is t (inr (inr from)) = id_above t from

pub told_number : (rows : List TypeRow) (t : TypeId) → IsTold rows t → IsVariableNumber t.0
told_number rows t (basic below) = inl below
told_number rows t (of_any is) = inr (inl is)
told_number rows t (defined r from is closed) = inr (inr from)

-- what is told isn't NIL's type
pub told_no_nil : (rows : List TypeRow) (t : TypeId) → IsTold rows t → t ≡ nil → ⊥
told_no_nil rows t told is = by (told_number rows t told)
  where
    n : t.0 ≡ 7
    n = ap (λ (u : TypeId). u.0) is

    by : IsVariableNumber t.0 → ⊥
    by (inl below) = let m = n in omega (arith, m, below)
    by (inr (inl eight)) = let m = n in omega (arith, m, eight)
    by (inr (inr from)) = let m = n in omega (arith, m, from)

-- Rows that stay.

abbrev pub RowsStay : List TypeRow → List TypeRow → Type 0
RowsStay ts us = (k : ℕ) → k < length ts → slice_get us k ≡ slice_get ts k

module _ (ts us : List TypeRow) (stay : RowsStay ts us) where
  pub there_stays : (k : ℕ) → k < length ts → k < length us
  there_stays k h = let one = some_there ts k h in slice_get_within us k one.0 (stay k h ∙ one.1)

  pub longer : length ts ≤ length us
  longer = by (length ts) refl
    where
      by : (n : ℕ) → length ts ≡ n → n ≤ length us
      by zero is = omega arith
      by (suc n) is = let below = there_stays n (omega (arith, is)) in omega (arith, below)

  pub closed_stays : (k : ℕ) → k < length ts → is_open (slice_get ts k) ≡ false → is_open (slice_get us k) ≡ false
  closed_stays k h closed = ap is_open (stay k h) ∙ closed

  -- what only a row that is there has
  pub fact_stays : (has : Option TypeRow → Bool) → has None ≡ false → (k : ℕ) → has (slice_get ts k) ≡ true → has (slice_get us k) ≡ true
  fact_stays has none k h = by (slice_get ts k) refl h
    where
      by : (o : Option TypeRow) → slice_get ts k ≡ o → has o ≡ true → has (slice_get us k) ≡ true
      by None is h = absurd (cc)
      by (Some r) is h = ap has (stay k (slice_get_within ts k r is) ∙ is) ∙ h

-- the base of a type is there
pub bases_there : (types : List TypeRow) → AreReady types → (t b : TypeId) → base_of (row_of types t) ≡ Some b → b.0 < length types
bases_there types table t b is = by (row_of types b) refl (table.sound.bases t b is)
  where
    by : (o : Option TypeRow) → row_of types b ≡ o → has_fields o ≡ true → b.0 < length types
    by None there has = absurd (cc)
    by (Some r) there has = slice_get_within types b.0 r there

-- The predeclared types.

-- rows without parts
abbrev pub IsFlat : Option TypeRow → Type 0
IsFlat (Some (row.Basic b)) = Unit {0}
IsFlat (Some row.Any) = Unit {0}
IsFlat None = Unit {0}
IsFlat _ = ⊥

pub basic_flat : (k : ℕ) → IsFlat (slice_get basic_rows k)
basic_flat zero = tt
basic_flat (suc zero) = tt
basic_flat (suc (suc zero)) = tt
basic_flat (suc (suc (suc zero))) = tt
basic_flat (suc (suc (suc (suc zero)))) = tt
basic_flat (suc (suc (suc (suc (suc zero))))) = tt
basic_flat (suc (suc (suc (suc (suc (suc zero)))))) = tt
basic_flat (suc (suc (suc (suc (suc (suc (suc zero))))))) = tt
basic_flat (suc (suc (suc (suc (suc (suc (suc (suc zero)))))))) = tt
basic_flat (suc (suc (suc (suc (suc (suc (suc (suc (suc zero))))))))) = tt
basic_flat (suc (suc (suc (suc (suc (suc (suc (suc (suc (suc k)))))))))) = tt

flat_closed : (o : Option TypeRow) → IsFlat o → is_open o ≡ false
flat_closed None h = refl
flat_closed (Some (row.Basic b)) h = refl
flat_closed (Some row.Any) h = refl
flat_closed (Some (row.Array n t)) h = absurd h
flat_closed (Some (row.Open t)) h = absurd h
flat_closed (Some (row.Record b fs)) h = absurd h
flat_closed (Some (row.Pointer t)) h = absurd h
flat_closed (Some (row.Object b fs)) h = absurd h
flat_closed (Some (row.Procedure fs r)) h = absurd h

flat_parts : (rows : List TypeRow) (o : Option TypeRow) → IsFlat o → (p : TypeId) → IsOneOf p (parts_of rows o) → ⊥
flat_parts rows None h p e = e
flat_parts rows (Some (row.Basic b)) h p e = e
flat_parts rows (Some row.Any) h p e = e
flat_parts rows (Some (row.Array n t)) h p e = h
flat_parts rows (Some (row.Open t)) h p e = h
flat_parts rows (Some (row.Record b fs)) h p e = h
flat_parts rows (Some (row.Pointer t)) h p e = h
flat_parts rows (Some (row.Object b fs)) h p e = h
flat_parts rows (Some (row.Procedure fs r)) h p e = h

flat_names : (r : TypeRow) → IsFlat (Some r) → (p : TypeId) → IsOneOf p (named_in r) → ⊥
flat_names (row.Basic b) h p e = e
flat_names row.Any h p e = e
flat_names (row.Array n t) h p e = h
flat_names (row.Open t) h p e = h
flat_names (row.Record b fs) h p e = h
flat_names (row.Pointer t) h p e = h
flat_names (row.Object b fs) h p e = h
flat_names (row.Procedure fs r) h p e = h

flat_told : (rows : List TypeRow) (r : TypeRow) → IsFlat (Some r) → AreToldParts rows r
flat_told rows (row.Basic b) h = tt
flat_told rows row.Any h = tt
flat_told rows (row.Array n t) h = absurd h
flat_told rows (row.Open t) h = absurd h
flat_told rows (row.Record b fs) h = absurd h
flat_told rows (row.Pointer t) h = absurd h
flat_told rows (row.Object b fs) h = absurd h
flat_told rows (row.Procedure fs r) h = absurd h

flat_base : (o : Option TypeRow) → IsFlat o → base_of o ≡ None
flat_base None h = refl
flat_base (Some (row.Basic b)) h = refl
flat_base (Some row.Any) h = refl
flat_base (Some (row.Array n t)) h = absurd h
flat_base (Some (row.Open t)) h = absurd h
flat_base (Some (row.Record b fs)) h = absurd h
flat_base (Some (row.Pointer t)) h = absurd h
flat_base (Some (row.Object b fs)) h = absurd h
flat_base (Some (row.Procedure fs r)) h = absurd h

flat_open : (k : ℕ) (r : TypeRow) → IsFlat (Some r) → IsOpenAt k r
flat_open k (row.Basic b) h = tt
flat_open k row.Any h = tt
flat_open k (row.Array n t) h = absurd h
flat_open k (row.Open t) h = absurd h
flat_open k (row.Record b fs) h = absurd h
flat_open k (row.Pointer t) h = absurd h
flat_open k (row.Object b fs) h = absurd h
flat_open k (row.Procedure fs r) h = absurd h

flat_size : (contents : TypeId → Shape TypeId) (rows : List TypeRow) (t : TypeId) (o : Option TypeRow) → IsFlat o →
    size (with_parts contents rows t o) ≤ 1
flat_size contents rows t None h = omega arith
flat_size contents rows t (Some (row.Basic b)) h = omega arith
flat_size contents rows t (Some row.Any) h = omega arith
flat_size contents rows t (Some (row.Array n u)) h = absurd h
flat_size contents rows t (Some (row.Open u)) h = absurd h
flat_size contents rows t (Some (row.Record b fs)) h = absurd h
flat_size contents rows t (Some (row.Pointer u)) h = absurd h
flat_size contents rows t (Some (row.Object b fs)) h = absurd h
flat_size contents rows t (Some (row.Procedure fs r)) h = absurd h

-- none contains itself, each has one scalar, and none names another
pub basic_ready : AreReady basic_rows
basic_ready = record {
  basic = λ k h. refl;
  closed = λ k r is p e. absurd (flat_names r (subst IsFlat is (basic_flat k)) p e);
  sound = record {
    none_contains_itself = λ t e. by t e.between e.chain;
    bases = λ t b is. absurd (no_base t b is);
    record_bases = λ t b is. absurd (no_base t b is);
    sizes = λ t. few t;
  };
  parts = λ k r is. flat_told basic_rows r (subst IsFlat is (basic_flat k));
  opens = λ k r is. flat_open k r (subst IsFlat is (basic_flat k));
  written = λ k r high is. absurd (past k r high is);
}
  where
    past : (k : ℕ) (r : TypeRow) → 10 ≤ k → slice_get basic_rows k ≡ Some r → ⊥
    past k r high is = let below = slice_get_within basic_rows k r is in omega (arith, high, below)

    no_base : (t b : TypeId) → base_of (row_of basic_rows t) ≡ Some b → ⊥
    no_base t b is = none-some b (sym (flat_base (row_of basic_rows t) (basic_flat t.0)) ∙ is)

    by : (t : TypeId) (between : List TypeId) → IsChain basic_rows t (between ++ t ∷ []) → ⊥
    by t [] e = flat_parts basic_rows (row_of basic_rows t) (basic_flat t.0) t e.0
    by t (p ∷ ps) e = flat_parts basic_rows (row_of basic_rows t) (basic_flat t.0) p e.0

    few : (t : TypeId) → scalars basic_rows t ≤ MOST_SCALARS
    few t = let one = flat_size (unfolded 10 basic_rows) basic_rows t (row_of basic_rows t) (basic_flat t.0) in omega (arith, one)

-- Variables.

module _ (p : Program) (begins : RowsStay basic_rows p.types) where
  pub there : (of : Option TypeId) → IsThere p.types of → IsType p (type_of of)
  there None h = absurd h
  there (Some t) h = subst (λ (u : TypeId). u.0 < length p.types) (sym (number_is t h.1)) h.0

  numbered : (t : TypeId) → IsVariableNumber t.0 → t.0 < length p.types → is_open (row_of p.types t) ≡ false → IsVariableType p (type_as t)
  numbered t number within closed = record {
    there = subst (λ (u : TypeId). u.0 < length p.types) (sym (number_is t number)) within;
    closed = subst (λ (u : TypeId). is_open (row_of p.types u) ≡ false) (sym (number_is t number)) closed;
  }

  predeclared : (t : TypeId) → IsVariableNumber t.0 → t.0 < length basic_rows → IsVariableType p (type_as t)
  predeclared t number here =
      numbered t number (there_stays basic_rows p.types begins t.0 here)
      (closed_stays basic_rows p.types begins t.0 here (flat_closed (slice_get basic_rows t.0) (basic_flat t.0)))

  told : (t : TypeId) → IsTold p.types t → IsVariableType p (type_as t)
  told t (basic below) = predeclared t (inl below) (omega (arith, below))
  told t (of_any is) = predeclared t (inr (inl is)) (omega (arith, is))
  told t (defined r from is closed) = numbered t (inr (inr from)) (slice_get_within p.types t.0 r is) (ap is_open is ∙ closed)

  pub known_type : (of : Option TypeId) → IsKnown p.types of → IsVariableType p (type_of of)
  known_type None known = absurd known
  known_type (Some t) known = told t known

  of_types : (ofs : List (Option TypeId)) → Each (IsKnown p.types) ofs → Each (IsVariableType p) (map type_of ofs)
  of_types [] each = tt
  of_types (of ∷ ofs) each = (known_type of each.0, of_types ofs each.1)

  of_variables : (vs : List Variable) → Each (IsVariableType p) (map (λ v. v.of) vs) → Each (λ v. IsVariableType p v.of) vs
  of_variables [] each = tt
  of_variables (v ∷ vs) each = (each.0, of_variables vs each.1)

  -- variables of these types
  pub known_variables : (vs : List Variable) (ofs : List (Option TypeId)) → map (λ v. v.of) vs ≡ map type_of ofs → Each (IsKnown p.types) ofs →
      Each (λ v. IsVariableType p v.of) vs
  known_variables vs ofs is each = of_variables vs (subst (Each (IsVariableType p)) (sym is) (of_types ofs each))
