-- The environment in which a procedure's body stands: its parameters and its locals have the types that the typed program's have.
use Rattle.std.proofs.Common.{◌≡◌, ℕ, zero, suc, ◌+◌, ◌-◌, ◌<◌, ◌≤◌, inl, inr, List, [], ◌∷◌, length, map, take, drop, zip, Bool, true, false, Option, Some, None, option_map, option_and_then, slice_get, refl, sym, ap, ◌∙◌, subst, arith, if◌then◌else◌}
use Rattle.std.proofs.lemmas.List.{length-drop}
use Rattle.std.proofs.lemmas.Option.{none-some, same_Some, slice_get-map}
use Rattle.aos_tree.specs.declared.decl.Def.{Def}
use Rattle.aos_types.specs.declared.row.TypeId.{TypeId}
use Rattle.aos_typed.specs.Open.{open_dimensions, open_element}
use Rattle.aos_typed.specs.Program.{Local, Passed, Of, Opened, Stats, Parameter, Procedure as TypedProcedure, Program}
use Rattle.aos_types.specs.declared.signature.Parameter.{Parameter as Formal}
use Rattle.aos_types.specs.declared.signature.Signature.{Signature}
use Rattle.aos_symbols.specs.declared.env.Open.{Open}
use Rattle.aos_symbols.specs.declared.env.Env.{Env}
use Rattle.aos_symbols.specs.Declarations.{Procedure, single_variables, formal_names}
use Rattle.aos_symbols.specs.Scope.{Scope}
use Rattle.aos_symbols.specs.Env as env
use Rattle.aos_symbols.specs.Env.{basic_rows}
use Rattle.aos_symbols.proofs.Each.{each_at}
use Rattle.aos_symbols.proofs.Told.{IsTold, IsKnown}
use Rattle.aos_known.specs.Known.{type_as, type_of}
use Rattle.aos_known.proofs.Inside.{Inside, IsPlaceOf}
use Rattle.aos_operators.proofs.Sound.{not_both}
use Rattle.aos_known.specs.Kinds.{is_opened}
use Rattle.aos_designators.specs.Designators as desig
use Rattle.aos_check_expr.proofs.Opens.{some_there}
use Rattle.aos_check_expr.proofs.Whole.{IsTyped, closed, opened, IsWhole, IsParameterType, parameter_type, elements_id}
use Rattle.aos_check_expr.proofs.Passed.{is_opening, shut}
use Rattle.aos_check_decl.proofs.Typing.{IsHeading}
use Rattle.aos_variables.specs.Parts.{variable_of}
use Rattle.aos_compile.specs.Modules.{procedure_of}
use Rattle.aos_compile.proofs.TypingTypes.{RowsStay}
use Rattle.aos_compile.proofs.TypingProcedures.{IsSignature, heading_signature, signature_with, formal_at, signature_long}

-- Lists.

-- an item in front is one of the list, and one behind
taken : {X : Type 0} (n : ℕ) (xs : List X) (i : ℕ) (x : X) → slice_get (take n xs) i ≡ Some x → slice_get xs i ≡ Some x
taken zero xs i x is = absurd (none-some x is)
taken (suc n) [] i x is = absurd (none-some x is)
taken (suc n) (y ∷ ys) zero x is = is
taken (suc n) (y ∷ ys) (suc i) x is = taken n ys i x is

dropped : {X : Type 0} (n : ℕ) (xs : List X) (i : ℕ) → slice_get (drop n xs) i ≡ slice_get xs (n + i)
dropped zero xs i = ap (slice_get xs) (let same : i ≡ 0 + i = omega arith in same)
dropped (suc n) [] i = refl
dropped (suc n) (y ∷ ys) i = dropped n ys i ∙ ap (slice_get (y ∷ ys)) (let same : suc (n + i) ≡ suc n + i = omega arith in same)

all_before : {X : Type 0} (xs : List X) (i : ℕ) → slice_get xs i ≡ None → length xs ≤ i
all_before [] i is = omega arith
all_before (x ∷ xs) zero is = absurd (none-some x (sym is))
all_before (x ∷ xs) (suc i) is = let less = all_before xs i is in omega (arith, less)

-- variables beside their types
pub types_beside : (text : List ℕ) (ds : List Def) (ofs : List (Option TypeId)) → length ofs ≡ length ds →
    map (λ v. v.of) (map (variable_of text) (zip ds ofs)) ≡ map type_of ofs
types_beside text [] [] e = refl
types_beside text [] (of ∷ ofs) e = absurd (omega arith)
types_beside text (d ∷ ds) [] e = absurd (omega arith)
types_beside text (d ∷ ds) (of ∷ ofs) e = ap (λ z. type_of of ∷ z) (types_beside text ds ofs (omega arith))

-- A procedure of a module, or a method of a type, with a signature and the variables of its scope, at a place with this path.
module _ (program : Program) (begins : RowsStay basic_rows program.types) (e : Env) (base : IsWhole (record { program = program; own = None; basic = begins }) e) (q : Procedure) (s : Signature) (scope : Scope)
    (heading : IsHeading e.types q s scope) (b : Stats) (of : Option ℕ) (path : List Open) (self : Option TypeId) (here : env.own_signature (record e { path = path; self_type = self }) ≡ Some s) where
  abbrev pub own : TypedProcedure
  own = record (procedure_of e.here.text q s scope.variables b) { of = of }

  abbrev pub body : Inside
  body = record { program = program; own = Some own; basic = begins }

  abbrev pub place : Env
  place = record e { path = path; self_type = self }

  abbrev outside : Inside
  outside = record { program = program; own = None; basic = begins }

  signature : IsSignature e.types s own
  signature = signature_with of e.types s (procedure_of e.here.text q s scope.variables b) (heading_signature e.types e.here.text q s scope scope.variables b heading)

  -- Parameters.

  parameter_typed : (i : ℕ) (r : Bool) (t : TypeId) (a : Parameter) → slice_get own.parameters i ≡ Some a → a.of ≡ type_as t → a.by_reference ≡ r → IsParameterType e t →
      IsTyped body place (desig.parameter_place place i (record { by_reference = r; of = Some t })) (Some t)
  parameter_typed i r t a at of same kind = by (is_opened e t) refl
    where
      unopened : is_opened e t ≡ false → (r : Bool) → a.by_reference ≡ r → IsPlaceOf body (if r then Passed i else Local i) (type_as t)
      unopened isnt true same = (a, at, (shut outside e base a t of kind isnt, same, of))
      unopened isnt false same = inr (a, at, (shut outside e base a t of kind isnt, same, of))

      told : is_opened e t ≡ false → IsParameterType e t → IsTold e.types t
      told isnt (inl is) = is
      told isnt (inr opening) = absurd (not_both (sym opening ∙ isnt))

      by : (o : Bool) → is_opened e t ≡ o → IsTyped body place (if o then Of (Opened i (open_dimensions e.types t)) else (if r then Passed i else Local i)) (Some t)
      by true opening =
          let passed = is_opening outside e base a t of kind opening (open_dimensions e.types t) (type_as (open_element e.types t)) refl (elements_id e base.opens t opening) in
          opened t (Opened i (open_dimensions e.types t)) refl refl opening (refl, (a, at, passed)) tt tt
      by false isnt = closed (unopened isnt r same) (told isnt kind)

  first_typed : (i : ℕ) (x : Formal) → slice_get s.parameters i ≡ Some x → IsTyped body place (desig.parameter_place place i x) x.of
  first_typed i x is =
      let one = formal_at e.types s.parameters own.parameters signature.parameters i x is in
      subst (λ of. IsTyped body place (desig.parameter_place place i (record { by_reference = x.by_reference; of = of })) of) (sym one.3)
      (parameter_typed i x.by_reference one.1 one.0 one.2 one.4 one.5 (parameter_type e one.1 one.6.0 one.6.1))

  first_of : (i : ℕ) (x : Formal) → slice_get s.parameters i ≡ Some x → slice_get scope.variables i ≡ Some x.of
  first_of i x is =
      let n = length (formal_names q.formals) in
      taken n scope.variables i x.of
      (ap (λ vs. slice_get vs i) heading.first ∙ slice_get-map (λ (a : Formal). a.of) s.parameters i ∙ ap (option_map (λ (a : Formal). a.of)) is)

  -- Locals.

  local_typed : (i : ℕ) → slice_get s.parameters i ≡ None → (of : Option TypeId) → slice_get scope.variables i ≡ Some of → IsTyped body place (Local i) of
  local_typed i none of is =
      let n = length (formal_names q.formals) in
      let from : length s.parameters ≤ i = all_before s.parameters i none in
      let few : length s.parameters ≡ n = heading.few in
      let j = i - n in
      let number : n + j ≡ i = omega (arith, from, few) in
      let behind : slice_get (drop n scope.variables) j ≡ Some of = dropped n scope.variables j ∙ ap (slice_get scope.variables) number ∙ is in
      let count : length scope.variables ≡ n + length (single_variables q.decls) = heading.count in
      let many : length (drop n scope.variables) ≡ length (single_variables q.decls) = omega (arith, length-drop n scope.variables, count) in
      let long : length own.parameters ≡ length s.parameters = signature_long e.types s own signature in
      let typed : option_map (λ v. v.of) (slice_get own.locals j) ≡ Some (type_of of) =
      sym (slice_get-map (λ v. v.of) own.locals j) ∙ ap (λ vs. slice_get vs j) (types_beside e.here.text (single_variables q.decls) (drop n scope.variables) many)
      ∙ slice_get-map type_of (drop n scope.variables) j ∙ ap (option_map type_of) behind in
      closed (inl (own, j, refl, (let at : i ≡ length own.parameters + j = omega (arith, number, few, long) in at), typed))
      (each_at (IsKnown e.types) (drop n scope.variables) j of heading.locals behind)

  -- each variable of the scope
  pub own_typed : (i : ℕ) → i < length scope.variables → IsTyped body place (desig.own_place place i) (env.joined (slice_get scope.variables i))
  own_typed i below = let of = some_there scope.variables i below in subst (IsTyped body place (desig.own_place place i)) (ap env.joined (sym of.1)) (by of.0 of.1 (slice_get s.parameters i) refl)
    where
      parameter_is : (o : Option Formal) → slice_get s.parameters i ≡ o → desig.own_parameter place i ≡ o
      parameter_is o is = ap (option_and_then (λ (z : Signature). slice_get z.parameters i)) here ∙ is

      by : (of : Option TypeId) → slice_get scope.variables i ≡ Some of → (o : Option Formal) → slice_get s.parameters i ≡ o → IsTyped body place (desig.own_place place i) of
      by of at None is = rw (parameter_is None is) (local_typed i is of at)
      by of at (Some x) is =
          rw (parameter_is (Some x) is)
          (subst (IsTyped body place (desig.parameter_place place i x)) (same_Some x.of of (sym (first_of i x is) ∙ at)) (first_typed i x is))
