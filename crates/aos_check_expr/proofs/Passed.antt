-- Arguments that break no rule are those of the procedure's parameters, and a function's call is sound.
use Rattle.std.proofs.Common.{◌≡◌, ℕ, zero, suc, ◌-◌, ◌==◌, List, [], ◌∷◌, ◌++◌, length, Bool, true, false, not, ◌&&◌, ◌||◌, ◌⊎◌, inl, inr, nat_le, nat_lt, Option, Some, None, is_some, option_and_then, if◌then◌else◌, refl, sym, ap, ◌∙◌, subst, append_assoc, append-nil, eqb-true, arith, ◌≤◌, ◌<◌, eq-eqb, le-ltb}
use Rattle.std.specs.Option.{is_none, unwrap_or}
use Rattle.std.proofs.lemmas.Bool.{and_parts, ltb-true}
use Rattle.std.proofs.lemmas.Option.{none-some, same_Some}
use Rattle.aos_base.specs.declared.limits.TheConstants.{MOST_SCALARS}
use Rattle.aos_base.specs.declared.text.Pos.{Pos}
use Rattle.aos_tree.specs.declared.expr.Expr.{Expr, out-Expr}
use Rattle.aos_types.specs.declared.row.TypeId.{TypeId}
use Rattle.aos_types.specs.declared.row.TypeRow.{TypeRow}
use Rattle.aos_types.specs.declared.row.TypeRow.TheVariants as row
use Rattle.aos_types.specs.Table.{row_of, is_open, is_record, is_pointer, is_procedure}
use Rattle.aos_types.specs.Extension.{comes_to, extends, extends_pointer}
use Rattle.aos_types.specs.Fit.{fits as fits_of}
use Rattle.aos_types.proofs.Steps.{comes_here}
use Rattle.aos_types.specs.Sameness.{element_of}
use Rattle.aos_typed.specs.declared.tree.TextConstant.{TextConstant}
use Rattle.aos_typed.specs.declared.tree.TType.{TType}
use Rattle.aos_typed.specs.declared.tree.TType.TheVariants as type
use Rattle.aos_typed.specs.Numbers.{id_of}
use Rattle.aos_typed.specs.Open.{open_dimensions, open_element}
use Rattle.aos_typed.specs.Program.{Place, Rows, Known as KnownRows, Longer, Arguments, Expr as TypedExpr, Read, Parameter, Passed, Deref, Typed, Guarded, Callee, Function as Invoked, Procedure}
use Rattle.aos_typed.specs.WellTyped.{HaveLengths, IsArrayOf, IsByValue, IsOpening, is_whole, FitsObject, IsGiven, NamesType, dimension, is_value as is_value_type}
use Rattle.aos_types.specs.declared.signature.Parameter.{Parameter as Formal}
use Rattle.aos_types.specs.declared.signature.Gives.{Gives}
use Rattle.aos_types.specs.declared.signature.Gives.TheVariants as gives
use Rattle.aos_types.specs.declared.signature.Signature.{Signature}
use Rattle.aos_symbols.specs.declared.env.Env.{Env}
use Rattle.aos_symbols.specs.Judged.{Judged, judged, bind}
use Rattle.aos_symbols.specs.Breaches.{breach, breach_unless}
use Rattle.aos_symbols.specs.Env as env
use Rattle.aos_symbols.specs.Env.{char, nil, text}
use Rattle.aos_symbols.proofs.Each.{Each}
use Rattle.aos_symbols.proofs.Found.{some_found}
use Rattle.aos_symbols.proofs.Told.{basic as basic_told, of_any, defined}
use Rattle.aos_symbols.proofs.Holds.{Holds, holds_bind, broken, test_is, none_left, none_right}
use Rattle.aos_known.specs.declared.known.Class.{Class}
use Rattle.aos_known.specs.declared.known.Class.TheVariants.{Unknown, Constant, Variable, ReadOnly, Computed, Procedure as ClassOf}
use Rattle.aos_known.specs.Known.{Answer, is_basic, is_integer, is_long_text, is, passes, fits_type, object_number, type_as, type_of, as_procedure, refused_value}
use Rattle.aos_known.proofs.Inside.{Inside, IsPlaceOf, AreRows, AreVariables, AreArguments, IsCalled, IsOf, IsNamed}
use Rattle.aos_known.proofs.Types.{same_type, id_above, as_named, as_basic, fits_includes, wider, includes_itself, integer_basic}
use Rattle.aos_operators.proofs.Good.{IsGood, IsKnownClass}
use Rattle.aos_operators.proofs.Stored.{IsStored}
use Rattle.aos_operators.proofs.Sound.{not_both, IsScalar, IsClosedPlace, IsOpenPlace, IsWholeRead, IsOther, IsSound, scalar_of}
use Rattle.aos_known.specs.Kinds.{has_parts, is_opened, is_record_type, is_reference, is_procedural, is_value}
use Rattle.aos_known.specs.Places.{place_in}
use Rattle.aos_values.specs.Assignable.{is_compatible, is_assignable, typed_for}
use Rattle.aos_arguments.specs.Arguments.{names_type, with_type, Given, Scalar, Whole, Opening, Handing, given_as, listed}
use Rattle.aos_values.specs.Arrays as arrays
use Rattle.aos_arguments.specs.Arguments as judge
use Rattle.aos_arguments.specs.Filled.{value_length, longest, filled_index, filled_place}
use Rattle.aos_bound.specs.declared.methods.Heading.{Heading}
use Rattle.aos_check_expr.specs.Expressions.{signature_of}
use Rattle.aos_check_expr.specs.Expressions as calls
use Rattle.aos_check_expr.proofs.Opens.{closed_row, all_behind, closed_dimensions, closed_element, next_dimensions, next_element}
use Rattle.aos_check_expr.proofs.Whole.{IsWritten}
use Rattle.aos_check_expr.proofs.Objects.{basic_value, value_typed, either_is, IsPartsRow, row_high, high_row, reference_kind, reference_typed, of_any_type, object_of, parts_no_reference, routine_no_parts}
use Rattle.aos_check_expr.proofs.Called.{IsCalling}
use Rattle.aos_check_expr.proofs.Filled.{AreCovered, filled_is, heading_covered}
use Rattle.aos_check_expr.proofs.Pointed.{comes_record, comes_whole}
use Rattle.aos_check_expr.proofs.Compatible.{by_table, object_fits, whole_fits}
use Rattle.aos_check_expr.proofs.Callable.{no_element, parameter_id, procedure_row, procedural_row, procedural_typed, procedural_value, callable_own, assignable_compatible, procedural_fits}
use Rattle.aos_check_expr.proofs.Entities.{IsWhole, IsParameterType, elements_told, elements_id, AreParameters, IsResultOf, IsSigned, told_element, opened_row, row_opened, Part, Valued, refused_value_part}
use Rattle.aos_check_expr.proofs.Worded.{string_rows_are, string_kept, lengths_read, variables_held, has_in, array_row, no_text, no_object, no_routine, characters_row, char_row}

some_not : (n : ℕ) → Some n ≡ None → ⊥
some_not n e = none-some n (sym e)

-- no rule is broken where neither of two is
or_none : (o q : Option ℕ) → judge.or_else o q ≡ None → (o ≡ None) × (q ≡ None)
or_none None q e = (refl, e)
or_none (Some n) q e = absurd (some_not n e)

refused_none : (b : Bool) (rule : ℕ) (at : Pos) → breach_unless (not b) rule at ≡ [] → b ≡ false
refused_none true rule at e = cc
refused_none false rule at e = refl

unless_none : (rule : ℕ) (b : Bool) → judge.broken_unless rule b ≡ None → b ≡ true
unless_none rule true e = refl
unless_none rule false e = absurd (some_not rule e)

no_breach : (o : Option ℕ) (at : Pos) → judge.breach_of o at ≡ [] → o ≡ None
no_breach None at e = refl
no_breach (Some rule) at e = absurd (cc)

array_no_open : {n : ℕ} {u v : TypeId} → Some (row.Array n u) ≡ Some (row.Open v) → ⊥
array_no_open e = cc

open_same : {u v : TypeId} → Some (row.Open u) ≡ Some (row.Open v) → u ≡ v
open_same e = cc

-- a value that fits a basic type is of one, and one that fits another type is of that type
pub basic_fit : (u t : TypeId) → is_basic t ≡ true → fits_type u t ≡ true → is_basic u ≡ true
basic_fit u t low fit = by (is_integer u) refl fit
  where
    by : (b : Bool) → is_integer u ≡ b → (if b && is_integer t then nat_le u.0 t.0 else is u t) ≡ true → is_basic u ≡ true
    by true i fit = integer_basic u i
    by false i fit = subst (λ v. is_basic v ≡ true) (sym (same_type u t fit)) low

-- what may be written is no string constant
no_string : (e : Env) (d : Bool) (c : Class) → judge.variable_rule d c ≡ None → arrays.string_in e c ≡ None
no_string e false c none = absurd (some_not 32 none)
no_string e true Unknown none = refl
no_string e true Variable none = refl
no_string e true ReadOnly none = absurd (some_not 33 none)
no_string e true (Constant v) none = absurd (some_not 32 none)
no_string e true Computed none = absurd (some_not 32 none)
no_string e true (ClassOf m n) none = absurd (some_not 32 none)

module _ (p : Inside) (e : Env) (whole : IsWhole p e) where
  -- of a parameter, by its type
  module _ (a : Parameter) (t : TypeId) (of : a.of ≡ type_as t) (kind : IsParameterType e t) where
    row_is : row_of p.program.types (id_of a.of) ≡ row_of e.types t
    row_is = ap (λ u. row_of p.program.types (id_of u)) of ∙ ap (row_of p.program.types) (parameter_id p e whole t kind) ∙ ap (λ rows. row_of rows t) whole.rows

    pub is_opening : is_opened e t ≡ true → (n : ℕ) (T : TType) → n ≡ open_dimensions e.types t → id_of T ≡ open_element e.types t → IsOpening p.program a n T
    is_opening opening n T many elements =
        let id : id_of a.of ≡ t = ap id_of of ∙ parameter_id p e whole t kind in (
          ap is_open (row_is) ∙ ap is_open (opened_row e t opening).2,
          many ∙ ap (λ rows. open_dimensions rows t) (sym whole.rows) ∙ ap (open_dimensions p.program.types) (sym id),
          ap (open_element p.program.types) id ∙ ap (λ rows. open_element rows t) whole.rows ∙ sym elements,
        )

    pub shut : is_opened e t ≡ false → is_open (row_of p.program.types (id_of a.of)) ≡ false
    shut isnt = ap is_open row_is ∙ by kind
      where
        by : IsParameterType e t → is_open (row_of e.types t) ≡ false
        by (inl told) = no_element (row_of e.types t) (told_element e whole.opens t told)
        by (inr opening) = absurd (not_both (sym opening ∙ isnt))

    no_low : is_opened e t ≡ false → t ≡ text → ⊥
    no_low isnt is = by kind
      where
        by : IsParameterType e t → ⊥
        by (inl (basic_told below)) = let n : t.0 ≡ 9 = ap (λ (u : TypeId). u.0) is in omega (arith, below, n)
        by (inl (of_any any)) = let n : t.0 ≡ 9 = ap (λ (u : TypeId). u.0) is in omega (arith, any, n)
        by (inl (defined r from there closed)) = let n : t.0 ≡ 9 = ap (λ (u : TypeId). u.0) is in omega (arith, from, n)
        by (inr opening) = not_both (sym opening ∙ isnt)

  -- Arrays that are handed over.

  -- a fixed array with the lengths of its first dimensions
  fixed_lengths : (n : ℕ) (u of : TypeId) → element_of (row_of e.types u) ≡ None → judge.behind_dimensions e.types n u ≡ Some of →
      let ns = arrays.lengths_from e.types n (row_of e.types u) in (n ≡ length ns) × IsArrayOf e.types ns u of
  fixed_lengths zero u of none is = (refl, same_Some u of is)
  fixed_lengths (suc n) u of none is = by (row_of e.types u) refl none is (fixed_lengths n)
    where
      by : (r : Option TypeRow) → row_of e.types u ≡ r → element_of r ≡ None → option_and_then (λ v. judge.behind_dimensions e.types n v) (judge.element_in r) ≡ Some of →
          ((v w : TypeId) → element_of (row_of e.types v) ≡ None → judge.behind_dimensions e.types n v ≡ Some w →
          let ns = arrays.lengths_from e.types n (row_of e.types v) in (n ≡ length ns) × IsArrayOf e.types ns v w) →
          let ns = arrays.lengths_from e.types (suc n) r in (suc n ≡ length ns) × IsArrayOf e.types ns u of
      by (Some (row.Array m v)) at none is rest =
          let told = (whole.parts u.0 (row.Array m v) at).1 in
          let more = rest v of (told_element e whole.opens v told) is in
          (ap suc more.0, (v, at, more.1))
      by (Some (row.Open v)) at none is rest = absurd (none-some v (sym none))
      by r at none is rest = absurd (none-some of is)

  -- the same in the program
  in_program : (ns : List ℕ) (u of : TypeId) → IsArrayOf e.types ns u of → id_of (type_as u) ≡ u → id_of (type_as of) ≡ of → IsArrayOf p.program.types ns (id_of (type_as u)) (id_of (type_as of))
  in_program ns u of is same other =
      subst (λ v. IsArrayOf p.program.types ns v (id_of (type_as of))) (sym same) (subst (λ v. IsArrayOf p.program.types ns u v) (sym other)
      (subst (λ rows. IsArrayOf rows ns u of) (sym whole.rows) is))

  -- what agrees with a parameter has its elements behind its dimensions
  agreeing : (t u : TypeId) → judge.agrees e t u ≡ true →
      (arrays.is_array e (Some u) ≡ true) × (judge.behind_dimensions e.types (open_dimensions e.types t) u ≡ Some (open_element e.types t))
  agreeing t u does = by (judge.behind_dimensions e.types (open_dimensions e.types t) u) refl does
    where
      by : (o : Option TypeId) → judge.behind_dimensions e.types (open_dimensions e.types t) u ≡ o → judge.agrees e t u ≡ true →
          (arrays.is_array e (Some u) ≡ true) × (judge.behind_dimensions e.types (open_dimensions e.types t) u ≡ Some (open_element e.types t))
      by None at = rw at (λ does. absurd (not_both (sym (and_parts (arrays.is_array e (Some u)) false does).1)))
      by (Some of) at = rw at (λ does.
          let two = and_parts (arrays.is_array e (Some u)) (is (open_element e.types t) of) does in
          (two.0, ap (λ v. Some v) (sym (same_type (open_element e.types t) of two.1))))

  module _ (t : TypeId) (opening : is_opened e t ≡ true) where
    D : ℕ
    D = open_dimensions e.types t

    E : TType
    E = type_as (open_element e.types t)

    -- of a whole variable of a type that agrees
    rows_passed : (u : TypeId) (place : Place) → is_basic u ≡ false → judge.agrees e t u ≡ true → IsClosedPlace p u place ⊎ IsOpenPlace p u place →
        AreRows p (arrays.array_rows e (open_dimensions e.types t) (Some u) place) (open_dimensions e.types t) (type_as (open_element e.types t))
    rows_passed u place low does held = by held
      where
        two : (arrays.is_array e (Some u) ≡ true) × (judge.behind_dimensions e.types (open_dimensions e.types t) u ≡ Some (open_element e.types t))
        two = agreeing t u does

        at : Bool → Rows
        at b = if b then arrays.open_rows e (open_dimensions e.types t) u place else KnownRows place (arrays.lengths_from e.types (open_dimensions e.types t) (row_of e.types u))

        Are : Rows → Type 0
        Are r = AreRows p r (open_dimensions e.types t) (type_as (open_element e.types t))

        here : is_open (row_of p.program.types u) ≡ is_opened e u
        here = ap (λ rows. is_open (row_of rows u)) whole.rows ∙ sym (ap (λ b. not b && is_open (row_of e.types u)) low)

        fixed : IsClosedPlace p u place → Are (KnownRows place (arrays.lengths_from e.types (open_dimensions e.types t) (row_of e.types u)))
        fixed c =
            let none = closed_row (row_of e.types u) (ap (λ rows. is_open (row_of rows u)) (sym whole.rows) ∙ c.2) in
            let ns = fixed_lengths (open_dimensions e.types t) u (open_element e.types t) none two.1 in
            (ns.0, inl (type_as u, c.0, in_program (arrays.lengths_from e.types (open_dimensions e.types t) (row_of e.types u)) u (open_element e.types t) ns.1 c.1 (elements_id e whole.opens t opening)))

        -- the lengths of the parameter's dimensions that aren't open in it are known
        longer : is_opened e u ≡ true → (r : Rows) → AreRows p r (open_dimensions e.types u) (type_as (open_element e.types u)) →
            Are (Longer r (arrays.lengths_from e.types (open_dimensions e.types t - open_dimensions e.types u) (row_of e.types (open_element e.types u))))
        longer is r rows =
            let left = open_dimensions e.types t - open_dimensions e.types u in
            let inner = open_element e.types u in
            let closed : (v : TypeId) → is_opened e v ≡ true → element_of (row_of e.types (open_element e.types v)) ≡ None = λ v o. told_element e whole.opens (open_element e.types v) (elements_told e whole.opens v o) in
            let split = all_behind e.types whole.opens.falls (open_dimensions e.types t) u (open_element e.types t) (closed t opening) two.1 in
            let ns = fixed_lengths left inner (open_element e.types t) (closed u is) split.1 in (
              open_dimensions e.types u,
              type_as inner,
              omega (arith, split.0, ns.0),
              rows,
              in_program (arrays.lengths_from e.types left (row_of e.types inner)) inner (open_element e.types t) ns.1 (elements_id e whole.opens u is) (elements_id e whole.opens t opening),
            )

        by : IsClosedPlace p u place ⊎ IsOpenPlace p u place → Are (at (is_opened e u))
        by (inl c) = subst (λ b. Are (at b)) (sym (sym here ∙ c.2)) (fixed c)
        by (inr o) =
            let is = sym here ∙ o.2 in
            subst (λ b. Are (at b)) (sym is)
            (subst (λ place. Are (arrays.open_rows e (open_dimensions e.types t) u place)) (sym o.1)
            (longer is o.0 (subst (λ types. AreRows p o.0 (open_dimensions types u) (type_as (open_element types u))) whole.rows o.3)))

    -- a string constant, for characters
    string_passed : (s : TextConstant) → env.has_string e s ≡ true → arrays.is_characters e (judge.variable_of t) ≡ true →
        AreRows p (arrays.string_rows e s) (open_dimensions e.types t) (type_as (open_element e.types t))
    string_passed s has is =
        let r = characters_row p e whole t Variable is in
        let u = opened_row e t opening in
        let at : row_of e.types t ≡ Some (row.Open char) = u.2 ∙ ap (λ v. Some (row.Open v)) (element_same r.0.2 u.2 ∙ r.1) in
        let falls = whole.opens.falls in
        let many : 1 ≡ open_dimensions e.types t = sym (next_dimensions e.types falls t char at ∙ ap suc (closed_dimensions e.types char (char_row p e whole))) in
        let of : char ≡ open_element e.types t = sym (next_element e.types falls t char at ∙ closed_element e.types char (char_row p e whole)) in
        subst (λ n. AreRows p (arrays.string_rows e s) n (type_as (open_element e.types t))) many
        (subst (λ v. AreRows p (arrays.string_rows e s) 1 (type_as v)) of (string_rows_are p e whole s has))
      where
        element_same : {v w : TypeId} → (((n : ℕ) × (row_of e.types t ≡ Some (row.Array n w))) ⊎ (row_of e.types t ≡ Some (row.Open w))) → row_of e.types t ≡ Some (row.Open v) → v ≡ w
        element_same (inl n) is = absurd (array_no_open (sym n.1 ∙ is))
        element_same (inr o) is = open_same (sym is ∙ o)

    rows_given : (v : Answer) → Part p e v → judge.open_rule e t v.known ≡ None → AreRows p (arrays.rows_in e (open_dimensions e.types t) v) (open_dimensions e.types t) (type_as (open_element e.types t))
    rows_given v x none = by (arrays.string_in e v.known.class) refl none
      where
        sound : IsSound p v
        sound = x.sound whole

        typed : (u : TypeId) → judge.agrees e t u ≡ true → IsScalar p u v.typed ⊎ (IsWholeRead p u v.typed ⊎ IsOther p u v.typed) →
            AreRows p (arrays.array_rows e (open_dimensions e.types t) (Some u) (place_in v.typed)) (open_dimensions e.types t) (type_as (open_element e.types t))
        typed u does (inl s) = absurd (not_both (sym s.0 ∙ (array_row p e whole u (agreeing t u does).0).1))
        typed u does (inr (inl w)) =
            subst (λ y. AreRows p (arrays.array_rows e (open_dimensions e.types t) (Some u) (place_in y)) (open_dimensions e.types t) (type_as (open_element e.types t))) (sym w.2)
            (rows_passed u w.1 w.0 does w.3)
        typed u does (inr (inr (inl q))) = absurd (no_text p e whole u q (array_row p e whole u (agreeing t u does).0))
        typed u does (inr (inr (inr (inl o)))) = absurd (no_object p e whole u v.typed (array_row p e whole u (agreeing t u does).0) o)
        typed u does (inr (inr (inr (inr r)))) = absurd (no_routine p e whole u v.typed (array_row p e whole u (agreeing t u does).0) r)

        array : judge.array_rule e t v.known.of ≡ None →
            AreRows p (arrays.array_rows e (open_dimensions e.types t) v.known.of (place_in v.typed)) (open_dimensions e.types t) (type_as (open_element e.types t))
        array none =
            subst (λ of. AreRows p (arrays.array_rows e (open_dimensions e.types t) of (place_in v.typed)) (open_dimensions e.types t) (type_as (open_element e.types t))) (sym sound.known)
            (typed sound.of (unless_none 35 (judge.agrees e t sound.of) (subst (λ of. judge.array_rule e t of ≡ None) sound.known none)) sound.typed)

        by : (o : Option TextConstant) → arrays.string_in e v.known.class ≡ o → judge.open_rule e t v.known ≡ None →
            AreRows p (arrays.rows_in e (open_dimensions e.types t) v) (open_dimensions e.types t) (type_as (open_element e.types t))
        by (Some s) at = rw at (λ none. string_passed s (has_in p e whole v.known.class s at)
            (unless_none 35 (arrays.is_characters e (judge.variable_of t))
            (or_none (judge.broken_unless 35 (arrays.is_characters e (judge.variable_of t))) (judge.broken_unless 99 (nat_lt (length (env.characters e s)) MOST_SCALARS)) none).0))
        by None at = rw at array

    -- and its lengths
    lengths_given : (v : Answer) → Part p e v → judge.open_rule e t v.known ≡ None → HaveLengths (arrays.rows_in e (open_dimensions e.types t) v)
    lengths_given v x none = by (arrays.string_in e v.known.class) refl none
      where
        sound : IsSound p v
        sound = x.sound whole

        by : (o : Option TextConstant) → arrays.string_in e v.known.class ≡ o → judge.open_rule e t v.known ≡ None → HaveLengths (arrays.rows_in e (open_dimensions e.types t) v)
        by (Some s) at = rw at (λ none. string_kept p e whole s
            (unless_none 99 (nat_lt (length (env.characters e s)) MOST_SCALARS)
            (or_none (judge.broken_unless 35 (arrays.is_characters e (judge.variable_of t))) (judge.broken_unless 99 (nat_lt (length (env.characters e s)) MOST_SCALARS)) none).1))
        by None at = rw at (λ none.
            subst (λ of. HaveLengths (arrays.array_rows e (open_dimensions e.types t) of (place_in v.typed))) (sym sound.known)
            (lengths_read p e whole (open_dimensions e.types t) sound.of v.typed sound.typed))

    -- what is no string constant may be written
    variables_given : (d : Bool) (v : Answer) → Part p e v → judge.open_rule e t v.known ≡ None → judge.variable_rule d v.known.class ≡ None →
        AreVariables p (arrays.rows_in e (open_dimensions e.types t) v)
    variables_given d v x none written = by (no_string e d v.known.class written) none
      where
        sound : IsSound p v
        sound = x.sound whole

        typed : (u : TypeId) → judge.agrees e t u ≡ true → IsScalar p u v.typed ⊎ (IsWholeRead p u v.typed ⊎ IsOther p u v.typed) →
            AreVariables p (arrays.array_rows e (open_dimensions e.types t) (Some u) (place_in v.typed))
        typed u does (inl s) = absurd (not_both (sym s.0 ∙ (array_row p e whole u (agreeing t u does).0).1))
        typed u does (inr (inl w)) =
            subst (λ y. AreVariables p (arrays.array_rows e (open_dimensions e.types t) (Some u) (place_in y))) (sym w.2) (variables_held p e whole (open_dimensions e.types t) u w.1 w.3)
        typed u does (inr (inr (inl q))) = absurd (no_text p e whole u q (array_row p e whole u (agreeing t u does).0))
        typed u does (inr (inr (inr (inl o)))) = absurd (no_object p e whole u v.typed (array_row p e whole u (agreeing t u does).0) o)
        typed u does (inr (inr (inr (inr r)))) = absurd (no_routine p e whole u v.typed (array_row p e whole u (agreeing t u does).0) r)

        array : judge.array_rule e t v.known.of ≡ None → AreVariables p (arrays.array_rows e (open_dimensions e.types t) v.known.of (place_in v.typed))
        array none =
            subst (λ of. AreVariables p (arrays.array_rows e (open_dimensions e.types t) of (place_in v.typed))) (sym sound.known)
            (typed sound.of (unless_none 35 (judge.agrees e t sound.of) (subst (λ of. judge.array_rule e t of ≡ None) sound.known none)) sound.typed)

        by : arrays.string_in e v.known.class ≡ None → judge.open_rule e t v.known ≡ None → AreVariables p (arrays.rows_in e (open_dimensions e.types t) v)
        by at = rw at array

  -- Arguments, one for each parameter.

  abbrev IsGivenFor : Parameter → Given → Type 0
  IsGivenFor a g = (more : Arguments) (rest : List Parameter) → AreArguments p more rest → AreArguments p (given_as g more) (a ∷ rest)

  open_here : (u : TypeId) → is_basic u ≡ false → is_open (row_of p.program.types u) ≡ true → is_opened e u ≡ true
  open_here u low is = ap (λ b. not b && is_open (row_of e.types u)) low ∙ ap (λ rows. is_open (row_of rows u)) (sym whole.rows) ∙ is

  -- What has parts is a whole variable.

  parts_there : (o : Option TypeRow) → is_whole o ≡ true → (r : TypeRow) × (o ≡ Some r) × IsPartsRow r × IsWritten r
  parts_there (Some (row.Array n u)) is = (row.Array n u, refl, tt, tt)
  parts_there (Some (row.Record base fs)) is = (row.Record base fs, refl, tt, tt)
  parts_there o is = absurd (not_both (sym is))

  parts_high : (u : TypeId) → is_whole (row_of e.types u) ≡ true → 10 ≤ u.0
  parts_high u parts = let r = parts_there (row_of e.types u) parts in row_high p e whole u r.0 r.1 r.3

  parts_closed : (u : TypeId) → is_whole (row_of e.types u) ≡ true → is_opened e u ≡ true → ⊥
  parts_closed u parts is = let o = opened_row e u is in not_both (sym parts ∙ ap is_whole o.2)

  placed_whole : (u : TypeId) (x : TypedExpr) → is_whole (row_of e.types u) ≡ true → IsScalar p u x ⊎ (IsWholeRead p u x ⊎ IsOther p u x) → IsPlaceOf p (place_in x) (type_as u)
  placed_whole u x parts (inl s) = let high = parts_high u parts in absurd (not_both (sym s.0 ∙ le-ltb u.0 7 (omega (arith, high))))
  placed_whole u x parts (inr (inl w)) = subst (λ y. IsPlaceOf p (place_in y) (type_as u)) (sym w.2) (held w.3)
    where
      held : IsClosedPlace p u w.1 ⊎ IsOpenPlace p u w.1 → IsPlaceOf p w.1 (type_as u)
      held (inl c) = c.0
      held (inr o) = absurd (parts_closed u parts (open_here u w.0 o.2))
  placed_whole u x parts (inr (inr (inl q))) =
      let high = parts_high u parts in let n : u.0 ≡ 9 = ap (λ (v : TypeId). v.0) q in absurd (omega (arith, high, n))
  placed_whole u x parts (inr (inr (inr (inl o)))) =
      let r = parts_there (row_of e.types u) parts in absurd (not_both (sym o.1 ∙ (parts_no_reference p e whole u r.0 r.1 r.2).1))
  placed_whole u x parts (inr (inr (inr (inr q)))) =
      let r = parts_there (row_of e.types u) parts in absurd (routine_no_parts p e whole u x q r.0 r.1 r.2)

  -- bases lead to the parameter's type in the program, too
  comes_there : (a : Parameter) (t u : TypeId) → a.of ≡ type_as t → IsParameterType e t → 10 ≤ u.0 → comes_to e.types u t ≡ true →
      comes_to p.program.types (id_of (type_as u)) (id_of a.of) ≡ true
  comes_there a t u of kind high comes =
      ap (λ rows. comes_to rows (id_of (type_as u)) (id_of a.of)) whole.rows
      ∙ ap (λ v. comes_to e.types v (id_of a.of)) (id_above u high)
      ∙ ap (comes_to e.types u) (ap id_of of ∙ parameter_id p e whole t kind)
      ∙ comes

  names_named : (place : Place) (u : TType) → names_type place ≡ true → is_record (row_of p.program.types (id_of u)) ≡ true → NamesType p.program p.own place u
  names_named (Passed k) u is of_record = of_record
  names_named (Deref x v) u is of_record = of_record
  names_named (Typed q k) u is of_record = of_record
  names_named (Guarded q k) u is of_record = of_record
  names_named place u is of_record = absurd (not_both (sym is))

  record_parts : (o : Option TypeRow) → is_record o ≡ true → is_whole o ≡ true
  record_parts (Some (row.Record base fs)) is = refl
  record_parts o is = absurd (not_both (sym is))

  -- by reference: a variable of the same type, or a record of one that extends it, whose place names its type
  abbrev GivenAs : Parameter → Place → Type 0
  GivenAs a place = (u : TType) × IsPlaceOf p place u × IsGiven p.program p.own a place u

  record_passed : (a : Parameter) (t : TypeId) → a.of ≡ type_as t → a.by_reference ≡ true → IsParameterType e t → is_opened e t ≡ false → (u : TypeId) (place : Place) →
      is_record_type e u ≡ true → is_record (row_of e.types u) ≡ true → comes_to e.types u t ≡ true → IsPlaceOf p place (type_as u) → GivenAs a (with_type e (Some u) place)
  record_passed a t of reference kind isnt u place of_record own comes typed = rw of_record (by (names_type place) refl)
    where
      high : 10 ≤ u.0
      high = parts_high u (record_parts (row_of e.types u) own)

      there : is_record (row_of p.program.types (id_of (type_as u))) ≡ true
      there = ap is_record (high_row p e whole u high) ∙ own

      named : type_as u ≡ type.Named (object_number u)
      named = as_named u (omega (arith, high))

      by : (b : Bool) → names_type place ≡ b → GivenAs a (if not b then Typed place (object_number u) else place)
      by true is = (type_as u, typed, inr (inl (shut a t of kind isnt, reference, names_named place (type_as u) is there, comes_there a t u of kind high comes)))
      by false is = (
        type_as u,
        (subst (IsPlaceOf p place) named typed, subst (λ T. is_record (row_of p.program.types (id_of T)) ≡ true) named there, named),
        inr (inl (shut a t of kind isnt, reference, there, comes_there a t u of kind high comes)),
      )

  variable_passed : (a : Parameter) (t : TypeId) → a.of ≡ type_as t → a.by_reference ≡ true → IsParameterType e t → is_opened e t ≡ false → (d : Bool) (v : Answer) → Part p e v →
      judge.variable_rule d v.known.class ≡ None → judge.is_referable e t v.known.of ≡ true → IsGivenFor a (Whole (with_type e v.known.of (place_in v.typed)))
  variable_passed a t of reference kind isnt d v x writes refers more rest others =
      (a, rest, refl, inl (subst (λ o. GivenAs a (with_type e o (place_in v.typed))) (sym sound.known) (by (is_record_type e sound.of) refl)), others)
    where
      sound : IsSound p v
      sound = x.sound whole

      kept_class : (d : Bool) (c : Class) → IsKnownClass IsGood c → judge.variable_rule d c ≡ None → IsStored c
      kept_class true Variable g e = tt
      kept_class true Unknown g e = absurd g
      kept_class true (Constant l) g e = absurd (some_not 32 e)
      kept_class true ReadOnly g e = absurd (some_not 33 e)
      kept_class true Computed g e = absurd (some_not 32 e)
      kept_class true (ClassOf m n) g e = absurd (some_not 32 e)
      kept_class false c g e = absurd (some_not 32 e)

      read : (place : Place) × (v.typed ≡ Read (type_of v.known.of) place)
      read = x.read (kept_class d v.known.class x.class writes)

      same_or : (is t sound.of ≡ true) ⊎ ((is_record_type e t && extends e.types sound.of t) ≡ true)
      same_or = either_is (is t sound.of) _ (sym (ap (judge.is_referable e t) sound.known) ∙ refers)

      -- a record that extends another one
      longer : (is_record_type e t && extends e.types sound.of t) ≡ true → (is_record (row_of e.types sound.of) ≡ true) × (comes_to e.types sound.of t ≡ true)
      longer is =
          let two = and_parts (is_record_type e t) (extends e.types sound.of t) is in
          let own = (and_parts (not (is_basic t)) _ two.0).1 in
          let comes = sym (ap (λ b. if b then extends_pointer e.types sound.of t else comes_to e.types sound.of t) (no_pointer (row_of e.types t) own)) ∙ two.1 in
          (comes_record p e whole (length e.types) sound.of t comes own, comes)
        where
          no_pointer : (o : Option TypeRow) → is_record o ≡ true → is_pointer o ≡ false
          no_pointer (Some (row.Record base fs)) is = refl
          no_pointer o is = absurd (not_both (sym is))

      -- what is read is a place of its own type
      read_of : (T : TType) → IsOf p v.typed T → IsPlaceOf p (place_in v.typed) (type_as sound.of)
      read_of T typed =
          let is : v.typed ≡ Read (type_as sound.of) read.0 = read.1 ∙ ap (λ o. Read (type_of o) read.0) sound.known in
          subst (λ y. IsPlaceOf p (place_in y) (type_as sound.of)) (sym is) (subst (λ y. IsOf p y T) is typed).0

      own_place : t ≡ sound.of → IsScalar p sound.of v.typed ⊎ (IsWholeRead p sound.of v.typed ⊎ IsOther p sound.of v.typed) → IsPlaceOf p (place_in v.typed) (type_as sound.of)
      own_place one (inl s) = read_of (type_as sound.of) s.1
      own_place one (inr (inl w)) = subst (λ y. IsPlaceOf p (place_in y) (type_as sound.of)) (sym w.2) (held w.3)
        where
          held : IsClosedPlace p sound.of w.1 ⊎ IsOpenPlace p sound.of w.1 → IsPlaceOf p w.1 (type_as sound.of)
          held (inl c) = c.0
          held (inr o) = absurd (not_both (sym (open_here sound.of w.0 o.2) ∙ subst (λ u. is_opened e u ≡ false) one isnt))
      own_place one (inr (inr (inl q))) = absurd (no_low a t of kind isnt (one ∙ q))
      own_place one (inr (inr (inr (inl o)))) = read_of type.Any (of_any_type p e whole sound.of v.typed o)
      own_place one (inr (inr (inr (inr (low, inl c))))) =
          let r = procedure_row (row_of e.types sound.of) (ap (λ rows. is_procedure (row_of rows sound.of)) (sym whole.rows) ∙ c.0) in
          read_of (type_as sound.of) (callable_own p e whole v sound r.0 r.1 r.2)
      own_place one (inr (inr (inr (inr (low, inr n))))) = absurd (subst (IsNamed p) read.1 n.1)

      by : (b : Bool) → is_record_type e sound.of ≡ b → GivenAs a (with_type e (Some sound.of) (place_in v.typed))
      by true of_record =
          let own = (and_parts (not (is_basic sound.of)) _ of_record).1 in
          record_passed a t of reference kind isnt sound.of (place_in v.typed) of_record own (comes same_or)
          (placed_whole sound.of v.typed (record_parts (row_of e.types sound.of) own) sound.typed)
        where
          comes : (is t sound.of ≡ true) ⊎ ((is_record_type e t && extends e.types sound.of t) ≡ true) → comes_to e.types sound.of t ≡ true
          comes (inl one) = comes_here (length e.types) e.types sound.of t (ap (λ u. u.0 == t.0) (sym (same_type t sound.of one)) ∙ eq-eqb t.0 t.0 refl)
          comes (inr more) = (longer more).1
      by false other = rw other (at same_or)
        where
          high_low : (o : Option TypeRow) → row_of e.types sound.of ≡ o → is_record o ≡ true → is_basic sound.of ≡ false
          high_low o there own = let high = parts_high sound.of (record_parts (row_of e.types sound.of) (ap is_record there ∙ own)) in le-ltb sound.of.0 7 (omega (arith, high))

          no_record : is_record (row_of e.types sound.of) ≡ true → ⊥
          no_record own = not_both (sym own ∙ sym (ap (λ b. not b && is_record (row_of e.types sound.of)) (high_low (row_of e.types sound.of) refl own)) ∙ other)

          plain : (u : TypeId) → t ≡ u → is_record_type e u ≡ false → is_record (row_of p.program.types (id_of (type_as u))) ≡ false
          plain u one other = at (is_record (row_of p.program.types (id_of (type_as u)))) refl
            where
              here : row_of p.program.types (id_of (type_as u)) ≡ row_of e.types u
              here = ap (λ v. row_of p.program.types (id_of (type_as v))) (sym one) ∙ ap (λ T. row_of p.program.types (id_of T)) (sym of) ∙ row_is a t of kind ∙ ap (row_of e.types) one

              at : (b : Bool) → is_record (row_of p.program.types (id_of (type_as u))) ≡ b → b ≡ false
              at false is = refl
              at true is =
                  let own : is_record (row_of e.types u) ≡ true = sym (ap is_record here) ∙ is in
                  let high = parts_high u (record_parts (row_of e.types u) own) in
                  absurd (not_both (sym own ∙ sym (ap (λ b. not b && is_record (row_of e.types u)) (le-ltb u.0 7 (omega (arith, high)))) ∙ other))

          at : (is t sound.of ≡ true) ⊎ ((is_record_type e t && extends e.types sound.of t) ≡ true) → GivenAs a (place_in v.typed)
          at (inl same) =
              let one = same_type t sound.of same in (
                type_as sound.of,
                own_place one sound.typed,
                inl ((shut a t of kind isnt, reference, of ∙ ap type_as one), plain sound.of one other),
              )
          at (inr more) = absurd (no_record (longer more).0)

  -- Values that fit.

  or_right : (a b : Bool) → b ≡ true → (a || b) ≡ true
  or_right true b is = refl
  or_right false b is = is

  or_left : (a b : Bool) → b ≡ false → (a || b) ≡ true → a ≡ true
  or_left true b none is = refl
  or_left false b none is = absurd (not_both (sym is ∙ none))

  -- a scalar that is no procedure
  plain_fits : (t : TypeId) → (t ≡ nil → ⊥) → is_value e t ≡ true → is_procedural e t ≡ false → (v : Answer) → IsSound p v → is_compatible e v.known.of (Some t) ≡ true →
      (is_value_type p.program.types (type_as t) ≡ true) × IsOf p v.typed (type_as t)
  plain_fits t not_nil value other v sound fits = by (is_basic t) refl value
    where
      fit : is_compatible e (Some sound.of) (Some t) ≡ true
      fit = sym (ap (λ o. is_compatible e o (Some t)) sound.known) ∙ fits

      low : is_basic t ≡ true → (is_value_type p.program.types (type_as t) ≡ true) × IsOf p v.typed (type_as t)
      low basic =
          let fitting : fits_type sound.of t ≡ true = sym (ap (λ b. if b then fits_type sound.of t else not (is_long_text sound.of) && fits_of e.types sound.of t) (or_right (is_basic sound.of) (is_basic t) basic)) ∙ fit in
          let own = basic_fit sound.of t basic fitting in (
            basic_value p.program.types (type_as t) (as_basic t basic),
            wider p v.typed (type_as sound.of) (type_as t) (scalar_of p sound.of v.typed sound.typed own) (fits_includes sound.of t own fitting),
          )

      object : is_basic t ≡ false → is_reference e t ≡ true → (is_value_type p.program.types (type_as t) ≡ true) × IsOf p v.typed (type_as t)
      object high ref =
          let taken = object_fits p e whole sound.of t ref high not_nil fit in
          let own = object_of p e whole v sound (by_table p e whole sound.of t high fit).0 taken.0 in
          (value_typed p.program.types (type_as t) (reference_typed p e whole t (reference_kind p e whole t ref)), own.2 (type_as t) taken.1)

      by : (b : Bool) → is_basic t ≡ b → (b || (is_reference e t || is_procedural e t)) ≡ true → (is_value_type p.program.types (type_as t) ≡ true) × IsOf p v.typed (type_as t)
      by true basic is = low basic
      by false high is = object high (or_left (is_reference e t) (is_procedural e t) other is)

  -- a scalar, as what it is for its variable
  pub scalar_fits : (t : TypeId) → (t ≡ nil → ⊥) → is_value e t ≡ true → (v : Answer) → Part p e v → is_assignable e v.known (Some t) ≡ true →
      (is_value_type p.program.types (type_as t) ≡ true) × IsOf p (typed_for e (Some t) v) (type_as t)
  scalar_fits t not_nil value v x fits = by (is_procedural e t) refl
    where
      by : (b : Bool) → is_procedural e t ≡ b → (is_value_type p.program.types (type_as t) ≡ true) × IsOf p (if b then as_procedure v else v.typed) (type_as t)
      by true procedural = procedural_fits p e whole t procedural v x fits
      by false other = plain_fits t not_nil value other v (x.sound whole) (assignable_compatible p e whole t other v.known fits)

  -- a type that has parts is no procedure type
  parts_no_procedure : (t : TypeId) → has_parts e t ≡ true → is_procedural e t ≡ false
  parts_no_procedure t parts = by (row_of e.types t) refl (and_parts (not (is_basic t)) _ parts).1
    where
      and_none : (b : Bool) → (b && false) ≡ false
      and_none true = refl
      and_none false = refl

      by : (o : Option TypeRow) → row_of e.types t ≡ o → is_whole o ≡ true → is_procedural e t ≡ false
      by (Some (row.Array n u)) there is = ap (λ o. not (is_basic t) && is_procedure o) there ∙ and_none (not (is_basic t))
      by (Some (row.Record base fs)) there is = ap (λ o. not (is_basic t) && is_procedure o) there ∙ and_none (not (is_basic t))
      by o there is = absurd (not_both (sym is))

  -- a record or an array, which begins with one of the type
  pub whole_place : (t : TypeId) → has_parts e t ≡ true → (v : Answer) (s : IsSound p v) → is_assignable e v.known (Some t) ≡ true →
      (10 ≤ s.of.0) × IsPlaceOf p (place_in v.typed) (type_as s.of) × (comes_to e.types s.of t ≡ true)
  whole_place t parts v sound assigned =
      let fits = assignable_compatible p e whole t (parts_no_procedure t parts) v.known assigned in
      let fit : is_compatible e (Some sound.of) (Some t) ≡ true = sym (ap (λ o. is_compatible e o (Some t)) sound.known) ∙ fits in
      let there = (and_parts (not (is_basic t)) _ parts).1 in
      let comes = whole_fits p e whole sound.of t parts fit in
      let own = comes_whole p e whole (length e.types) sound.of t comes there in
      (parts_high sound.of own, placed_whole sound.of v.typed own sound.typed, comes)

  abbrev Fitting : Answer → TypeId → Type 0
  Fitting v t = (is_assignable e v.known (Some t) ≡ true) × ((is_value e t || has_parts e t) ≡ true)

  both_in : (b : Bool) (o : Option TextConstant) (s : TextConstant) → (if b then o else None) ≡ Some s → (b ≡ true) × (o ≡ Some s)
  both_in true o s e = (refl, e)
  both_in false o s e = absurd (none-some s e)

  -- by value: a value that fits; a record or an array is cut to the parameter's type, and a string constant has 0X behind it
  value_passed : (a : Parameter) (t : TypeId) → a.of ≡ type_as t → a.by_reference ≡ false → IsParameterType e t → is_opened e t ≡ false →
      value_length e (record { by_reference = false; of = Some t }) ≤ longest e → (v : Answer) → Part p e v →
      judge.value_rule e t v.known ≡ None → IsGivenFor a (judge.given_unopened e false t v)
  value_passed a t of value kind isnt within v x none = given (arrays.text_for e (judge.variable_of t) v.known.class) refl none
    where
      sound : IsSound p v
      sound = x.sound whole

      fits : judge.or_else (judge.broken_unless 35 (is_assignable e v.known (Some t))) (judge.broken_unless 99 (is_value e t || has_parts e t)) ≡ None → Fitting v t
      fits none =
          let two = or_none (judge.broken_unless 35 (is_assignable e v.known (Some t))) (judge.broken_unless 99 (is_value e t || has_parts e t)) none in
          (unless_none 35 (is_assignable e v.known (Some t)) two.0, unless_none 99 (is_value e t || has_parts e t) two.1)

      as_value : IsByValue p.program a a.of
      as_value = (shut a t of kind isnt, value, refl)

      not_nil : t ≡ nil → ⊥
      not_nil is = at kind
        where
          n : t.0 ≡ 7
          n = ap (λ (u : TypeId). u.0) is

          at : IsParameterType e t → ⊥
          at (inl (basic_told below)) = let m = n in omega (arith, below, m)
          at (inl (of_any any)) = let m = n in omega (arith, any, m)
          at (inl (defined r from there closed)) = let m = n in omega (arith, from, m)
          at (inr opening) = not_both (sym opening ∙ isnt)

      scalar : Fitting v t → has_parts e t ≡ false → IsGivenFor a (Scalar (typed_for e (Some t) v))
      scalar rules other more rest is =
          let fine = scalar_fits t not_nil (or_left (is_value e t) (has_parts e t) other rules.1) v x rules.0 in
          (a, rest, refl, as_value, subst (λ T. is_value_type p.program.types T ≡ true) (sym of) fine.0, subst (IsOf p (typed_for e (Some t) v)) (sym of) fine.1, is)

      copied : Fitting v t → has_parts e t ≡ true → IsGivenFor a (Whole (place_in v.typed))
      copied rules parts more rest is =
          let there = (and_parts (not (is_basic t)) _ parts).1 in
          let fine = whole_place t parts v sound rules.0 in (
            a,
            rest,
            refl,
            inl (type_as sound.of, fine.1, inr (inr (as_value, ap is_whole (row_is a t of kind) ∙ there, comes_there a t sound.of of kind fine.0 fine.2))),
            is,
          )

      by : Fitting v t → (b : Bool) → has_parts e t ≡ b → IsGivenFor a (if b then Whole (place_in v.typed) else Scalar (typed_for e (Some t) v))
      by rules true parts = copied rules parts
      by rules false other = scalar rules other

      -- an array of characters that isn't open
      fixed : arrays.is_characters e (judge.variable_of t) ≡ true → (n : ℕ) × (row_of e.types t ≡ Some (row.Array n char))
      fixed is =
          let has = characters_row p e whole t Variable is in
          elim has.0.2 [
            | inl n ↦ (n.0, n.1 ∙ ap (λ u. Some (row.Array n.0 u)) has.1)
            | inr o ↦ absurd (not_both (sym (row_opened e t has.0.0 has.0.1 o) ∙ isnt))
          ]

      filled : (s : TextConstant) → arrays.text_for e (judge.variable_of t) v.known.class ≡ Some s → judge.or_else (judge.broken_unless 35 (arrays.has_room e (Some t) s)) (judge.broken_unless 99 (is_some (filled_index e s))) ≡ None →
          IsGivenFor a (Whole (filled_place e s))
      filled s at none more rest is =
          let meant = both_in (arrays.is_characters e (judge.variable_of t)) (arrays.string_in e v.known.class) s at in
          let array = fixed meant.0 in
          let n = array.0 in
          let length_is : unwrap_or (arrays.length_of e (Some t) 0) 0 ≡ n = ap (λ r. unwrap_or (dimension e.types 0 r) 0) array.1 in
          let two = or_none (judge.broken_unless 35 (arrays.has_room e (Some t) s)) (judge.broken_unless 99 (is_some (filled_index e s))) none in
          let room = unless_none 35 (arrays.has_room e (Some t) s) two.0 in
          let index = some_found (filled_index e s) (unless_none 99 (is_some (filled_index e s)) two.1) in
          let few : nat_lt (length (env.characters e s)) (unwrap_or (arrays.length_of e (Some t) 0) 0) ≡ true =
          sym (ap (λ b. b || nat_lt (length (env.characters e s)) (unwrap_or (arrays.length_of e (Some t) 0) 0)) isnt) ∙ room in
          let less : length (env.characters e s) < n = ltb-true (length (env.characters e s)) n (ap (nat_lt (length (env.characters e s))) (sym length_is) ∙ few) in
          let value_is = ap (λ b. if b then unwrap_or (arrays.length_of e (Some t) 0) 0 else 0) meant.0 in
          let most : n ≤ longest e = subst (λ m. m ≤ longest e) (value_is ∙ length_is) within in
          let below : length (env.characters e s) < longest e = omega (arith, less, most) in
          let constant = filled_is p e whole s index.0 (has_in p e whole v.known.class s meant.1) index.1 below in
          (a, rest, refl, inr (n, longest e, as_value, row_is a t of kind ∙ array.1, most, constant), is)

      given : (o : Option TextConstant) → arrays.text_for e (judge.variable_of t) v.known.class ≡ o → judge.value_rule e t v.known ≡ None →
          IsGivenFor a (judge.given_unopened e false t v)
      given (Some s) at = rw at (filled s at)
      given None at = rw at (λ none. by (fits none) (has_parts e t) refl)

  given_for : (a : Parameter) (b : Bool) (t : TypeId) → a.of ≡ type_as t → a.by_reference ≡ b → IsParameterType e t →
      value_length e (record { by_reference = b; of = Some t }) ≤ longest e → (d : Bool) (v : Answer) → Part p e v →
      judge.argument_rule e (record { by_reference = b; of = Some t }) d v.known ≡ None → IsGivenFor a (judge.given e (record { by_reference = b; of = Some t }) v)
  given_for a b t of same kind within d v x none = by (is_opened e t) refl b same within none
    where
      types : Bool → Bool → Option ℕ
      types opening b = if opening then judge.open_rule e t v.known else if b then judge.broken_unless 35 (judge.is_referable e t v.known.of) else judge.value_rule e t v.known

      writes : Bool → Option ℕ
      writes b = if b then judge.variable_rule d v.known.class else None

      at : Bool → Bool → Given
      at opening b = if opening then Opening (arrays.rows_in e (open_dimensions e.types t) v) else judge.given_unopened e b t v

      by : (opening : Bool) → is_opened e t ≡ opening → (b : Bool) → a.by_reference ≡ b → value_length e (record { by_reference = b; of = Some t }) ≤ longest e →
          judge.or_else (writes b) (types opening b) ≡ None → IsGivenFor a (at opening b)
      by true opening b same within none = λ more rest is.
          let own = is_opening a t of kind opening (open_dimensions e.types t) (type_as (open_element e.types t)) refl (elements_id e whole.opens t opening) in
          let two = or_none (writes b) (types true b) none in
          let may = λ (by_reference : a.by_reference ≡ true). variables_given t opening d v x two.1 (subst (λ c. writes c ≡ None) (sym same ∙ by_reference) two.0) in
          (a, rest, open_dimensions e.types t, type_as (open_element e.types t), refl, own, rows_given t opening v x two.1, lengths_given t opening v x two.1, is, may)
      by false isnt true same within none =
          let two = or_none (writes true) (types false true) none in
          variable_passed a t of same kind isnt d v x two.0 (unless_none 35 (judge.is_referable e t v.known.of) two.1)
      by false isnt false same within none = value_passed a t of same kind isnt within v x none

module _ (p : Inside) (e : Env) where
  -- What arguments give, behind those before them.
  abbrev Handed : Handing → List Formal → Handing → Type 0
  Handed h ps g =
      (g.are_kept ≡ h.are_kept)
      × (IsWhole p e → (as' : List Parameter) → AreParameters e ps as' → (gs : List Given) × (g.given ≡ h.given ++ gs) × AreArguments p (listed gs) as')

  -- and one more argument
  abbrev One : Handing → Formal → Handing → Type 0
  One h f g =
      (g.are_kept ≡ h.are_kept)
      × ((whole : IsWhole p e) (a : Parameter) (t : TypeId) → f.of ≡ Some t → a.of ≡ type_as t → a.by_reference ≡ f.by_reference → IsParameterType e t →
      (y : Given) × (g.given ≡ h.given ++ y ∷ []) × ((more : Arguments) (rest : List Parameter) → AreArguments p more rest → AreArguments p (given_as y more) (a ∷ rest)))

  handed_part : (ps : List Formal) → AreCovered e ps → (js : List (Judged Answer)) → Each (Holds (Part p e)) js → (xs : List Expr) (h : Handing) → length ps ≡ length xs → length js ≡ length xs →
      Holds (Handed h ps) (calls.handed_from e h ps js xs)
  handed_part [] covers js parts [] h many same = λ none. (refl, λ whole as' are. ([], sym (append-nil h.given), are))
  handed_part [] covers js parts (x ∷ xs) h many same = absurd (omega (arith, many))
  handed_part (f ∷ ps) covers js parts [] h many same = absurd (omega (arith, many))
  handed_part (f ∷ ps) covers [] parts (x ∷ xs) h many same = absurd (omega (arith, same))
  handed_part (f ∷ ps) covers (j ∷ js) parts (x ∷ xs) h many same =
      let d = is_some (calls.desig_alone x) in
      let at = (out-Expr x).pos in
      holds_bind (One h f) (Handed h (f ∷ ps)) (bind j (λ a. judge.handed e h f d at a)) (λ g. calls.handed_from e g ps js xs)
      (holds_bind (Part p e) (One h f) j (λ a. judge.handed e h f d at a) parts.0 (λ a part none. one d a part (no_breach (judge.argument_rule e f d a.known) at none)))
      (λ g is none. all g is (handed_part ps covers.1 js parts.1 xs g (omega (arith, many)) (omega (arith, same)) none))
    where
      and_same : (b : Bool) → (b && true) ≡ b
      and_same true = refl
      and_same false = refl

      one : (d : Bool) (a : Answer) → Part p e a → judge.argument_rule e f d a.known ≡ None →
          One h f (record { are_kept = h.are_kept && is_none (judge.argument_rule e f d a.known); given = h.given ++ judge.given e f a ∷ [] })
      one d a part rule = (
        ap (λ r. h.are_kept && is_none r) rule ∙ and_same h.are_kept,
        λ whole q t of as_type same kind. (
          judge.given e f a,
          refl,
          subst (λ o. judge.argument_rule e (record { by_reference = f.by_reference; of = o }) d a.known ≡ None →
              (more : Arguments) (rest : List Parameter) → AreArguments p more rest → AreArguments p (given_as (judge.given e (record { by_reference = f.by_reference; of = o }) a) more) (q ∷ rest))
              (sym of) (given_for p e whole q f.by_reference t as_type same kind (subst (λ o. value_length e (record { by_reference = f.by_reference; of = o }) ≤ longest e) of covers.0) d a part) rule,
        ),
      )

      all : (g : Handing) → One h f g → {r : Handing} → Handed g ps r → Handed h (f ∷ ps) r
      all g is more = (
        more.0 ∙ is.0,
        λ whole as' are.
            let one = is.1 whole are.0 are.2 are.4 are.5 are.6 are.7 in
            let rest = more.1 whole are.1 are.8 in (
              one.0 ∷ rest.0,
              rest.1 ∙ ap (λ l. l ++ rest.0) one.1 ∙ append_assoc h.given (one.0 ∷ []) rest.0,
              subst (AreArguments p (given_as one.0 (listed rest.0))) (sym are.3) (one.2 (listed rest.0) are.1 rest.2),
            ),
      )

  -- all arguments of a call
  pub arguments_part : (first : Pos) (ps : List Formal) → AreCovered e ps → (js : List (Judged Answer)) → Each (Holds (Part p e)) js → (xs : List Expr) → length js ≡ length xs →
      Holds (λ (g : Handing). (g.are_kept ≡ true) × (IsWhole p e → (as' : List Parameter) → AreParameters e ps as' → AreArguments p (listed g.given) as')) (calls.arguments_for e first ps js xs)
  arguments_part first ps covers js parts xs same = by (length ps == length xs) refl
    where
      by : (b : Bool) → (length ps == length xs) ≡ b →
          Holds (λ (g : Handing). (g.are_kept ≡ true) × (IsWhole p e → (as' : List Parameter) → AreParameters e ps as' → AreArguments p (listed g.given) as'))
          (if b then calls.handed_from e (judge.nothing_handed true) ps js xs else judged (breach 34 first) (judge.nothing_handed false))
      by true many = λ none.
          let r = handed_part ps covers js parts xs (judge.nothing_handed true) (eqb-true (length ps) (length xs) many) same none in
          (r.0, λ whole as' are. let g = r.1 whole as' are in subst (λ l. AreArguments p (listed l) as') (sym g.1) g.2)
      by false many = broken (λ (g : Handing). (g.are_kept ≡ true) × (IsWhole p e → (as' : List Parameter) → AreParameters e ps as' → AreArguments p (listed g.given) as')) (record { rule = 34; pos = first }) [] (judge.nothing_handed false)

  -- A function's value.

  function_part : (first : Pos) (c : Callee) (s : Signature) → AreCovered e s.parameters → (of : Option TypeId) → (IsWhole p e → (q : Procedure) × IsCalled p c q × IsSigned e s q) → s.gives ≡ gives.Value of →
      (js : List (Judged Answer)) → Each (Holds (Part p e)) js → (xs : List Expr) → length js ≡ length xs → Holds (Valued p e) (calls.function_value e first c s.parameters of js xs)
  function_part first c s covers of called value js parts xs same =
      holds_bind (λ (g : Handing). (g.are_kept ≡ true) × (IsWhole p e → (as' : List Parameter) → AreParameters e s.parameters as' → AreArguments p (listed g.given) as')) (Valued p e)
      (calls.arguments_for e first s.parameters js xs) (calls.function_told e first c of) (arguments_part first s.parameters covers js parts xs same) told
    where
      given : IsWhole p e → (gs : List Given) (q : Procedure) → IsCalled p c q → (t : TypeId) → q.result ≡ Some (type_as t) → (t ≡ nil → ⊥) →
          AreArguments p (listed gs) q.parameters → (b : Bool) → is_basic t ≡ b → (b || (is_reference e t || is_procedural e t)) ≡ true → IsScalar p t (Invoked c (listed gs)) ⊎ IsOther p t (Invoked c (listed gs))
      given whole gs q there t result not_nil are true low is =
          inl (low, (q, type_as t, there, result, basic_value p.program.types (type_as t) (as_basic t low), inl (includes_itself (type_as t) (as_basic t low)), are))
      given whole gs q there t result not_nil are false high more = by (either_is (is_reference e t) (is_procedural e t) more)
        where
          fits : {u : TType} → (t ≡ nil) ⊎ FitsObject p.program.types u (type_as t) → FitsObject p.program.types u (type_as t)
          fits (inl none) = absurd (not_nil none)
          fits (inr f) = f

          by : (is_reference e t ≡ true) ⊎ (is_procedural e t ≡ true) → IsScalar p t (Invoked c (listed gs)) ⊎ IsOther p t (Invoked c (listed gs))
          by (inl ref) =
              let typed = reference_typed p e whole t (reference_kind p e whole t ref) in
              inr (inr (inl (high, typed, λ u takes. (q, type_as t, there, result, value_typed p.program.types (type_as t) typed, inr (inl (fits takes.1)), are))))
          by (inr procedural) =
              let r = procedural_row p e whole t procedural in
              let value = procedural_value p.program.types (type_as t) (procedural_typed p e whole t r.0 r.1 r.2) in
              inr (inr (inr (
                high,
                inl (ap (λ rows. is_procedure (row_of rows t)) whole.rows ∙ ap is_procedure r.2, λ u same. (q, type_as t, there, result, value, inr (inr same), are)),
              )))

      -- in the condition of an AWAIT it would break a rule
      may_call : calls.function_breaches e first of ≡ [] → e.is_condition ≡ false
      may_call none = refused_none e.is_condition 44 first (none_right (breach_unless (passes (is_value e) of) 99 first) _ none)

      told : (g : Handing) → (g.are_kept ≡ true) × (IsWhole p e → (as' : List Parameter) → AreParameters e s.parameters as' → AreArguments p (listed g.given) as') →
          Holds (Valued p e) (calls.function_told e first c of g)
      told g arguments none = subst (λ b. Valued p e (calls.function_answer b c of g)) (sym (may_call none)) (rw arguments.0 (record {
        class = tt;
        valued = refl;
        made = tt;
        plain = λ whole.
            let signed = called whole in
            let result = subst (λ r. IsResultOf r signed.0.result) value signed.2.result in
            let held : is_value e result.0 ≡ true = sym (ap (passes (is_value e)) result.1) ∙ test_is (passes (is_value e) of) 99 first (none_left (breach_unless (passes (is_value e) of) 99 first) _ none) in
            record {
              of = result.0;
              known = result.1;
              none = λ is. absurd (result.3 is);
              typed = given whole g.given signed.0 signed.1 result.0 result.2 result.3 (arguments.1 whole signed.0.parameters signed.2.parameters) (is_basic result.0) refl held;
            };
      }))

  -- of what is called as its signature tells
  pub invoked_part : (first : Pos) (c : Callee) (h : Heading) → (IsWhole p e → IsCalling p e c h) → (js : List (Judged Answer)) → Each (Holds (Part p e)) js → (xs : List Expr) → length js ≡ length xs →
      Holds (Valued p e) (calls.invoked e first c h js xs)
  invoked_part first c h called js parts xs same = by (signature_of e h) refl
    where
      by_result : (s : Signature) → signature_of e h ≡ Some s → (g : Gives) → s.gives ≡ g → Holds (Valued p e) (calls.value_of_procedure e first c s js xs)
      by_result s is gives.Nothing at =
          rw at (holds_bind (λ (h : Handing). Unit {0}) (Valued p e) (calls.arguments_for e first s.parameters js xs) (λ h. refused_value 36 first) (λ none. tt)
          (λ h any. refused_value_part p e 36 first))
      by_result s is (gives.Value of) at = rw at (function_part first c s (heading_covered e h s is) of (λ whole. called whole s is) at js parts xs same)

      by : (o : Option Signature) → signature_of e h ≡ o → Holds (Valued p e) (calls.invoked e first c h js xs)
      by None is = rw is (refused_value_part p e 20 first)
      by (Some s) is = rw is (by_result s is s.gives refl)
