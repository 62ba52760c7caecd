-- Procedure types in an environment of bodies, values of them, and procedures that are named, which fit a procedure type that has the same
-- formals.
use Rattle.std.proofs.Common.{◌≡◌, ℕ, ◌+◌, ◌-◌, ◌≤◌, ◌==◌, List, [], ◌∷◌, length, map, Bool, true, false, ◌&&◌, ◌||◌, ◌⊎◌, inl, inr, not, Option, Some, None, is_some, option_map, if◌then◌else◌, refl, sym, ap, ◌∙◌, subst, eqb-true, le-ltb, arith}
use Rattle.std.specs.List.{list_all, zip}
use Rattle.std.proofs.lemmas.Bool.{and_parts}
use Rattle.std.proofs.lemmas.Option.{none-some, same_Some}
use Rattle.aos_base.specs.declared.number.Width.TheVariants.{W8, W16, W32, W64}
use Rattle.aos_types.specs.declared.row.TypeId.{TypeId}
use Rattle.aos_types.specs.declared.row.TypeRow.{TypeRow}
use Rattle.aos_types.specs.declared.row.TypeRow.TheVariants as row
use Rattle.aos_types.specs.Table.{row_of, is_open, is_record, is_object, is_procedure, is_pointer}
use Rattle.aos_types.specs.Extension.{comes_to, extends, extends_pointer}
use Rattle.aos_types.specs.Sameness.{element_of, same}
use Rattle.aos_types.specs.Fit as fit
use Rattle.aos_typed.specs.declared.tree.Literal.TheVariants as literal
use Rattle.aos_typed.specs.declared.tree.TType.{TType}
use Rattle.aos_typed.specs.declared.tree.TType.TheVariants as type
use Rattle.aos_typed.specs.Formals.{HasFormals, pattern_of}
use Rattle.aos_typed.specs.Numbers.{id_of}
use Rattle.aos_typed.specs.Program.{Expr, Lit, Read, Parameter, Procedure}
use Rattle.aos_typed.specs.WellTyped.{FitsProcedure, target, target_in, is_reference as is_reference_type, is_procedural as is_procedural_type, is_value as is_value_type, is_basic as is_basic_type}
use Rattle.aos_types.specs.declared.signature.Gives.{Gives}
use Rattle.aos_types.specs.declared.signature.Gives.TheVariants as gives
use Rattle.aos_types.specs.declared.signature.Signature.{Signature}
use Rattle.aos_symbols.specs.declared.env.Env.{Env}
use Rattle.aos_symbols.specs.Env as env
use Rattle.aos_symbols.specs.Env.{nil}
use Rattle.aos_symbols.proofs.Each.{Each}
use Rattle.aos_symbols.proofs.Told.{IsTold, basic as basic_told, of_any, defined, IsFormalType, IsResultType}
use Rattle.aos_known.specs.declared.known.Class.{Class}
use Rattle.aos_known.specs.declared.known.Class.TheVariants as class
use Rattle.aos_known.specs.declared.known.Known.{Known}
use Rattle.aos_known.specs.Known.{Answer, is_nil, is_basic, object_number, type_as, as_procedure}
use Rattle.aos_types.specs.Signature.{same_signature, same_parameters}
use Rattle.aos_known.proofs.Inside.{Inside, IsOf, IsNamed}
use Rattle.aos_types.specs.Signature as signatures
use Rattle.aos_known.proofs.Types.{not_both, as_named, id_as, id_above}
use Rattle.aos_operators.proofs.Sound.{IsScalar, IsClosedPlace, IsOpenPlace, IsWholeRead, IsCallable, IsOther, IsSound}
use Rattle.aos_values.specs.Signatures.{formal, given_by, row_signature, type_signature}
use Rattle.aos_values.specs.Assignable as assignable
use Rattle.aos_designators.specs.Designators as desig
use Rattle.aos_check_expr.proofs.Whole.{IsWhole, IsParameterType, AreParameters, IsResultOf, IsSigned, parameter_type, told_element, opened_row, many_types, no_row}
use Rattle.aos_check_expr.proofs.Naming.{IsNaming}
use Rattle.aos_check_expr.proofs.Agreeing.{agree, agree_itself, results}
use Rattle.aos_check_expr.proofs.Objects.{either_is, row_high, high_row, high_any, high_target}
use Rattle.aos_check_expr.proofs.Pointed.{predeclared_unique}
use Rattle.aos_check_expr.proofs.Compatible.{by_table, same_closed, nil_row, is_nil_row, comes_alone}
use Rattle.aos_check_expr.proofs.Parts.{IsPart}

-- the numbers of types in the table tell them
as_id : (T : TType) → type_as (id_of T) ≡ T
as_id (type.Integer W8) = refl
as_id (type.Integer W16) = refl
as_id (type.Integer W32) = refl
as_id (type.Integer W64) = refl
as_id type.Boolean = refl
as_id type.Char = refl
as_id type.Set = refl
as_id type.Any = refl
as_id (type.Named k) = as_named (record { 0 = k + 10 }) (omega arith) ∙ ap (λ (n : ℕ). type.Named n) (back k)
  where
    back : (k : ℕ) → (k + 10) - 10 ≡ k
    back k = omega arith

-- what is told is no type of NIL
pub told_no_nil : (rows : List TypeRow) (t : TypeId) → IsTold rows t → t ≡ nil → ⊥
told_no_nil rows t (basic_told below) is = let n : t.0 ≡ 7 = ap (λ (u : TypeId). u.0) is in omega (arith, below, n)
told_no_nil rows t (of_any any) is = let n : t.0 ≡ 7 = ap (λ (u : TypeId). u.0) is in omega (arith, any, n)
told_no_nil rows t (defined r from there closed) is = let n : t.0 ≡ 7 = ap (λ (u : TypeId). u.0) is in omega (arith, from, n)

pub no_element : (r : Option TypeRow) → element_of r ≡ None → is_open r ≡ false
no_element (Some (row.Open u)) none = absurd (none-some u (sym none))
no_element None none = refl
no_element r none = refl

-- The signature of a procedure type.

abbrev pub heading : List (Bool × TypeId) → Option TypeId → Signature
heading fs r = record { parameters = map formal fs; gives = given_by r; is_initializer = false }

pub signature_row : (o : Option TypeRow) (s : Signature) → row_signature o ≡ Some s →
    (fs : List (Bool × TypeId)) × (r : Option TypeId) × (o ≡ Some (row.Procedure fs r)) × (heading fs r ≡ s)
signature_row (Some (row.Procedure fs r)) s is = (fs, r, refl, same_Some (heading fs r) s is)
signature_row o s is = absurd (none-some s is)

pub procedure_row : (o : Option TypeRow) → is_procedure o ≡ true → (fs : List (Bool × TypeId)) × (r : Option TypeId) × (o ≡ Some (row.Procedure fs r))
procedure_row (Some (row.Procedure fs r)) is = (fs, r, refl)
procedure_row o is = absurd (not_both (sym is))

abbrev type_in : Gives → Option TypeId
type_in gives.Nothing = None
type_in (gives.Value of) = of

-- where types have the same headings, their signatures are the same
module _ (rows : List TypeRow) where
  kinds : (a b : Bool) → signatures.same_kind a b ≡ fit.same_kind a b
  kinds true b = refl
  kinds false true = refl
  kinds false false = refl

  and_both : (a b : Bool) → a ≡ true → b ≡ true → (a && b) ≡ true
  and_both true b i j = j
  and_both false b i j = absurd (not_both (sym i))

  formals_same : (fs gs : List (Bool × TypeId)) → length fs ≡ length gs → list_all (λ q. fit.same_formal rows q.0 q.1) (zip fs gs) ≡ true →
      same_parameters rows (map formal fs) (map formal gs) ≡ true
  formals_same [] [] many is = refl
  formals_same [] (g ∷ gs) many is = absurd (omega (arith, many))
  formals_same (f ∷ fs) [] many is = absurd (omega (arith, many))
  formals_same (f ∷ fs) (g ∷ gs) many is =
      let two = and_parts (fit.same_formal rows f g) (list_all (λ q. fit.same_formal rows q.0 q.1) (zip fs gs)) is in
      and_both (signatures.same_parameter rows (formal f) (formal g)) (same_parameters rows (map formal fs) (map formal gs))
      (ap (λ k. k && same rows f.1 g.1) (kinds f.0 g.0) ∙ two.0) (formals_same fs gs (omega (arith, many)) two.1)

  results_same : (r s : Option TypeId) → fit.same_result rows r s ≡ true → signatures.same_result rows (given_by r) (given_by s) ≡ true
  results_same None None is = refl
  results_same None (Some u) is = absurd (not_both (sym is))
  results_same (Some t) None is = absurd (not_both (sym is))
  results_same (Some t) (Some u) is = is

  headings_same : (fs gs : List (Bool × TypeId)) (r s : Option TypeId) → fit.same_heading rows (row.Procedure fs r) (row.Procedure gs s) ≡ true →
      same_signature rows (heading fs r) (heading gs s) ≡ true
  headings_same fs gs r s is =
      let two = and_parts (fit.same_formals rows fs gs) (fit.same_result rows r s) is in
      let formals = and_parts (length fs == length gs) _ two.0 in
      and_both (same_parameters rows (map formal fs) (map formal gs)) (signatures.same_result rows (given_by r) (given_by s))
      (formals_same fs gs (eqb-true (length fs) (length gs) formals.0) formals.1) (results_same r s two.1)

pub procedural_value : (rows : List TypeRow) (T : TType) → is_procedural_type rows T ≡ true → is_value_type rows T ≡ true
procedural_value rows T is = by (is_basic_type T) (is_reference_type rows T)
  where
    by : (a b : Bool) → (a || (b || is_procedural_type rows T)) ≡ true
    by true b = refl
    by false true = refl
    by false false = is

module _ (p : Inside) (e : Env) (whole : IsWhole p e) where
  abbrev pub IsProcedureType : TypeId → List (Bool × TypeId) → Option TypeId → Type 0
  IsProcedureType t fs r = row_of e.types t ≡ Some (row.Procedure fs r)

  pub procedural_row : (t : TypeId) → desig.is_procedural e t ≡ true → (fs : List (Bool × TypeId)) × (r : Option TypeId) × IsProcedureType t fs r
  procedural_row t is = procedure_row (row_of e.types t) (and_parts (not (is_basic t)) _ is).1

  procedural_high : (t : TypeId) (fs : List (Bool × TypeId)) (r : Option TypeId) → IsProcedureType t fs r → 10 ≤ t.0
  procedural_high t fs r there = row_high p e whole t (row.Procedure fs r) there tt

  procedural_low : (t : TypeId) (fs : List (Bool × TypeId)) (r : Option TypeId) → IsProcedureType t fs r → is_basic t ≡ false
  procedural_low t fs r there = let high = procedural_high t fs r there in le-ltb t.0 7 (omega (arith, high))

  pub procedural_named : (t : TypeId) (fs : List (Bool × TypeId)) (r : Option TypeId) → IsProcedureType t fs r → type_as t ≡ type.Named (object_number t)
  procedural_named t fs r there = let high = procedural_high t fs r there in as_named t (omega (arith, high))

  pub procedural_typed : (t : TypeId) (fs : List (Bool × TypeId)) (r : Option TypeId) → IsProcedureType t fs r → is_procedural_type p.program.types (type_as t) ≡ true
  procedural_typed t fs r there = ap is_procedure (high_row p e whole t (procedural_high t fs r there) ∙ there)

  procedural_no_reference : (t : TypeId) (fs : List (Bool × TypeId)) (r : Option TypeId) → IsProcedureType t fs r → is_reference_type p.program.types (type_as t) ≡ false
  procedural_no_reference t fs r there =
      let high = procedural_high t fs r there in rw (high_any p e whole t high, high_target p e whole t high ∙ ap (target_in e.types t) there) refl

  -- The formals of procedure types.

  -- the type of a parameter is a number of the table
  pub parameter_id : (t : TypeId) → IsParameterType e t → id_of (type_as t) ≡ t
  parameter_id t (inl told) = id_as e.types t told
  parameter_id t (inr opening) = let u = opened_row e t opening in id_above t (whole.opens.above t u.0 u.2)

  told_formals : (as' : List Parameter) → Each {X = Bool × TypeId} (λ f. IsFormalType e.types f.1) (map (λ a. (a.by_reference, id_of a.of)) as') →
      AreParameters e (map formal (map (λ a. (a.by_reference, id_of a.of)) as')) as'
  told_formals [] each = refl
  told_formals (a ∷ as') each =
      (a, as', id_of a.of, refl, refl, sym (as_id a.of), refl, parameter_type e (id_of a.of) each.0.0 each.0.1, told_formals as' each.1)

  told_result : (r : Option TType) → IsResultType e.types (option_map id_of r) → IsResultOf (given_by (option_map id_of r)) r
  told_result None told = refl
  told_result (Some T) told = (id_of T, refl, ap (λ U. Some U) (sym (as_id T)), told_no_nil e.types (id_of T) told.0)

  -- what stands for the procedures that values of a type are has the type's signature
  pub pattern_signed : (t : TypeId) (fs : List (Bool × TypeId)) (r : Option TypeId) → IsProcedureType t fs r →
      (q : Procedure) × (pattern_of p.program (type_as t) ≡ Some q) × IsSigned e (heading fs r) q
  pattern_signed t fs r there =
      let x = whole.patterns t fs r there in
      let parts = whole.parts t.0 (row.Procedure fs r) there in (
        x.0,
        ap (pattern_of p.program) (procedural_named t fs r there) ∙ x.1,
        record {
          parameters = subst (λ l. AreParameters e (map formal l) x.0.parameters) x.2.parameters
              (told_formals x.0.parameters (subst (λ l. Each {X = Bool × TypeId} (λ f. IsFormalType e.types f.1) l) (sym x.2.parameters) parts.0));
          result = subst (λ o. IsResultOf (given_by o) x.0.result) x.2.result (told_result x.0.result (subst (IsResultType e.types) (sym x.2.result) parts.1));
        },
      )

  -- a result is no open array
  result_closed : (r : Option TypeId) → IsResultType e.types r → (t : TypeId) → given_by r ≡ gives.Value (Some t) → is_open (row_of e.types t) ≡ false
  result_closed None told t is = absurd (none-some t (ap type_in is))
  result_closed (Some u) told t is =
      subst (λ v. is_open (row_of e.types v) ≡ false) (same_Some u t (ap type_in is)) (no_element (row_of e.types u) (told_element e whole.opens u told.0))

  -- procedures whose signatures are the same have the same formals, where the second one is that of a procedure type
  pub signed_alike : (s : Signature) (q : Procedure) (t : TypeId) (fs : List (Bool × TypeId)) (r : Option TypeId) (there : IsProcedureType t fs r) → IsSigned e s q →
      same_signature e.types s (heading fs r) ≡ true → HasFormals p.program.types q (pattern_signed t fs r there).0
  signed_alike s q t fs r there one is =
      let x = pattern_signed t fs r there in
      let both = and_parts (same_parameters e.types s.parameters (map formal fs)) (signatures.same_result e.types s.gives (given_by r)) is in
      let unique = predeclared_unique p e whole in
      subst (λ rows. HasFormals rows q x.0) (sym whole.rows) (
        agree e.types whole.opens.falls unique (IsParameterType e) parameter_id s.parameters (map formal fs) q.parameters x.0.parameters one.parameters x.2.parameters both.0,
        results e.types whole.opens.falls unique s.gives (given_by r) q.result x.0.result one.result x.2.result (result_closed r (whole.parts t.0 (row.Procedure fs r) there).1) both.1,
      )

  -- procedure types with the same formals fit each other, and each fits itself
  headings_fit : (from to : TypeId) (fs gs : List (Bool × TypeId)) (r s : Option TypeId) → IsProcedureType from fs r → IsProcedureType to gs s →
      fit.same_heading e.types (row.Procedure fs r) (row.Procedure gs s) ≡ true → FitsProcedure p.program (type_as to) (type_as from)
  headings_fit from to fs gs r s i j is =
      let x = pattern_signed from fs r i in
      let y = pattern_signed to gs s j in
      (y.0, x.0, y.1, x.1, signed_alike (heading fs r) x.0 to gs s j x.2 (headings_same e.types fs gs r s is))

  pub procedural_itself : (t : TypeId) (fs : List (Bool × TypeId)) (r : Option TypeId) → IsProcedureType t fs r → FitsProcedure p.program (type_as t) (type_as t)
  procedural_itself t fs r there =
      let x = pattern_signed t fs r there in (x.0, x.0, x.1, x.1, (agree_itself p.program.types x.0.parameters, refl))

  -- Values.

  read_callable : (t : TypeId) (x : Expr) (fs : List (Bool × TypeId)) (r : Option TypeId) → IsProcedureType t fs r → IsWholeRead p t x → IsCallable p t x
  read_callable t x fs r there w =
      (ap (λ rows. is_procedure (row_of rows t)) whole.rows ∙ ap is_procedure there, λ u fits. subst (λ y. IsOf p y u) (sym w.2) (by w.3 u fits))
    where
      by : IsClosedPlace p t w.1 ⊎ IsOpenPlace p t w.1 → (u : TType) → FitsProcedure p.program u (type_as t) → IsOf p (Read (type_as t) w.1) u
      by (inl c) u fits = (c.0, procedural_value p.program.types (type_as t) (procedural_typed t fs r there), inr (inr fits))
      by (inr o) u fits = absurd (not_both (sym o.2 ∙ ap (λ rows. is_open (row_of rows t)) whole.rows ∙ ap is_open there))

  -- what is sound and of a procedure type is a value of it
  pub callable_held : (a : Answer) (s : IsSound p a) (fs : List (Bool × TypeId)) (r : Option TypeId) → IsProcedureType s.of fs r → IsCallable p s.of a.typed
  callable_held a s fs r there = by s.typed
    where
      high : 10 ≤ s.of.0
      high = procedural_high s.of fs r there

      by : IsScalar p s.of a.typed ⊎ (IsWholeRead p s.of a.typed ⊎ IsOther p s.of a.typed) → IsCallable p s.of a.typed
      by (inl scalar) = absurd (not_both (sym scalar.0 ∙ procedural_low s.of fs r there))
      by (inr (inl w)) = read_callable s.of a.typed fs r there w
      by (inr (inr (inl t))) = let n : s.of.0 ≡ 9 = ap (λ (u : TypeId). u.0) t in let h = high in absurd (omega (arith, h, n))
      by (inr (inr (inr (inl o)))) = absurd (not_both (sym o.1 ∙ procedural_no_reference s.of fs r there))
      by (inr (inr (inr (inr (low, inl c))))) = c
      by (inr (inr (inr (inr (low, inr n))))) = absurd (none-some (row.Procedure fs r) (sym (no_row p e whole s.of n.0) ∙ there))

  pub callable_own : (a : Answer) (s : IsSound p a) (fs : List (Bool × TypeId)) (r : Option TypeId) → IsProcedureType s.of fs r → IsOf p a.typed (type_as s.of)
  callable_own a s fs r there = (callable_held a s fs r there).1 (type_as s.of) (procedural_itself s.of fs r there)

  -- and what has the number of procedures that are named is one
  pub named_held : (a : Answer) (s : IsSound p a) → s.of ≡ env.procedure e → IsNamed p a.typed
  named_held a s is = by s.typed
    where
      number : s.of.0 ≡ length e.types
      number = ap (λ (u : TypeId). u.0) is

      high : 10 ≤ s.of.0
      high = let n = number in let many = many_types p e whole in omega (arith, n, many)

      own : row_of e.types s.of ≡ None
      own = no_row p e whole s.of (number ∙ ap length (sym whole.rows))

      none : row_of p.program.types s.of ≡ None
      none = ap (λ rows. row_of rows s.of) whole.rows ∙ own

      no_reference : is_reference_type p.program.types (type_as s.of) ≡ false
      no_reference =
          ap (λ b. b || is_some (target p.program.types (type_as s.of))) (high_any p e whole s.of high)
          ∙ ap (λ o. is_some o) (high_target p e whole s.of high ∙ ap (target_in e.types s.of) own)

      by : IsScalar p s.of a.typed ⊎ (IsWholeRead p s.of a.typed ⊎ IsOther p s.of a.typed) → IsNamed p a.typed
      by (inl scalar) = let h = high in absurd (not_both (sym scalar.0 ∙ le-ltb s.of.0 7 (omega (arith, h))))
      by (inr (inl (low, place, at, inl c))) = absurd (c.3 none)
      by (inr (inl (low, place, at, inr o))) = absurd (not_both (sym o.2 ∙ ap is_open none))
      by (inr (inr (inl t))) = let n : s.of.0 ≡ 9 = ap (λ (u : TypeId). u.0) t in let h = high in absurd (omega (arith, h, n))
      by (inr (inr (inr (inl o)))) = absurd (not_both (sym o.1 ∙ no_reference))
      by (inr (inr (inr (inr (low, inl c))))) = absurd (not_both (sym c.0 ∙ ap is_procedure none))
      by (inr (inr (inr (inr (low, inr n))))) = n.1

  -- A procedure that is named fits a type whose signature is the same as its own.

  abbrev signed_by : Option Signature → Option Signature → Bool
  signed_by (Some s) (Some r) = same_signature e.types s r
  signed_by s r = false

  signed_is : (t : TypeId) (m n : ℕ) (o w : Option Signature) → env.signature e m n ≡ o → type_signature e t ≡ w → assignable.is_signed_as e t m n ≡ signed_by o w
  signed_is t m n (Some s) (Some r) i j = rw (i, j) refl
  signed_is t m n (Some s) None i j = rw (i, j) refl
  signed_is t m n None w i j = rw i refl

  named_fits : (t : TypeId) (m n : ℕ) (x : Expr) → assignable.is_signed_as e t m n ≡ true → IsNaming p e (class.Procedure m n) x → IsOf p x (type_as t)
  named_fits t m n x is naming = by (env.signature e m n) refl (type_signature e t) refl
    where
      by : (o : Option Signature) → env.signature e m n ≡ o → (w : Option Signature) → type_signature e t ≡ w → IsOf p x (type_as t)
      by (Some s) i (Some g) j =
          let h = signature_row (row_of e.types t) g j in
          let y = naming s i in
          let same : same_signature e.types s (heading h.0 h.1) ≡ true =
          ap (same_signature e.types s) h.3 ∙ sym (signed_is t m n (Some s) (Some g) i j) ∙ is in
          y.2 (type_as t) ((pattern_signed t h.0 h.1 h.2).0, (pattern_signed t h.0 h.1 h.2).1, signed_alike s y.0 t h.0 h.1 h.2 y.1 same)
      by (Some s) i None j = absurd (not_both (sym is ∙ signed_is t m n (Some s) None i j))
      by None i w j = absurd (not_both (sym is ∙ signed_is t m n None w i j))

  -- the type that it fits is a procedure type
  signed_procedural : (t : TypeId) (m n : ℕ) → assignable.is_signed_as e t m n ≡ true → desig.is_procedural e t ≡ true
  signed_procedural t m n is = by (type_signature e t) refl
    where
      by : (w : Option Signature) → type_signature e t ≡ w → desig.is_procedural e t ≡ true
      by (Some g) j =
          let h = signature_row (row_of e.types t) g j in
          ap (λ b. not b && is_procedure (row_of e.types t)) (procedural_low t h.0 h.1 h.2) ∙ ap is_procedure h.2
      by None j = at (env.signature e m n) refl
        where
          at : (o : Option Signature) → env.signature e m n ≡ o → desig.is_procedural e t ≡ true
          at (Some s) i = absurd (not_both (sym is ∙ signed_is t m n (Some s) None i j))
          at None i = absurd (not_both (sym is ∙ signed_is t m n None None i j))

  -- what may be assigned to a variable that is of no procedure type is compatible with it
  pub assignable_compatible : (t : TypeId) → desig.is_procedural e t ≡ false → (k : Known) → assignable.is_assignable e k (Some t) ≡ true →
      assignable.is_compatible e k.of (Some t) ≡ true
  assignable_compatible t other k = by k.class
    where
      by : (c : Class) → assignable.is_assignable e (record { of = k.of; class = c }) (Some t) ≡ true → assignable.is_compatible e k.of (Some t) ≡ true
      by (class.Procedure m n) is = absurd (not_both (sym (signed_procedural t m n is) ∙ other))
      by (class.Constant v) is = is
      by class.Unknown is = is
      by class.Variable is = is
      by class.ReadOnly is = is
      by class.Computed is = is

  -- and what may be to one that is, is a value of its type
  module _ (t : TypeId) (procedural : desig.is_procedural e t ≡ true) (v : Answer) (sound : IsSound p v) where
    two : (fs : List (Bool × TypeId)) × (r : Option TypeId) × IsProcedureType t fs r
    two = procedural_row t procedural

    no_procedure : IsOf p (Lit literal.NoProcedure) (type_as t)
    no_procedure = inr (inr (refl, procedural_typed t two.0 two.1 two.2))

    -- one whose type is the same
    of_same : sound.of ≡ t → IsOf p v.typed (type_as t)
    of_same is =
        let there : IsProcedureType sound.of two.0 two.1 = ap (row_of e.types) is ∙ two.2 in
        subst (λ u. IsOf p v.typed (type_as u)) is (callable_own v sound two.0 two.1 there)

    -- one whose type has the same heading, and NIL
    of_row : is_nil v.known.class ≡ false → (f : TypeRow) → row_of e.types sound.of ≡ Some f → fit.fits_row e.types f (row.Procedure two.0 two.1) ≡ true → IsOf p v.typed (type_as t)
    of_row some f there is = by (either_is (fit.is_nil f) (fit.same_heading e.types f (row.Procedure two.0 two.1)) is)
      where
        heading_of : (f : TypeRow) → row_of e.types sound.of ≡ Some f → fit.same_heading e.types f (row.Procedure two.0 two.1) ≡ true → IsOf p v.typed (type_as t)
        heading_of (row.Procedure fs r) there is =
            (callable_held v sound fs r there).1 (type_as t) (headings_fit sound.of t fs two.0 r two.1 there two.2 is)
        heading_of f there is = absurd (not_both (sym is))

        by : (fit.is_nil f ≡ true) ⊎ (fit.same_heading e.types f (row.Procedure two.0 two.1) ≡ true) → IsOf p v.typed (type_as t)
        by (inl n) = absurd (not_both (sym (sound.none (nil_row p e whole sound.of (is_nil_row p e whole (row_of e.types sound.of) f there n))) ∙ some))
        by (inr h) = heading_of f there h

    compatible_of : is_nil v.known.class ≡ false → assignable.is_compatible e v.known.of (Some t) ≡ true → IsOf p v.typed (type_as t)
    compatible_of some is = by (either_is (same e.types sound.of t || extends e.types sound.of t) (fit.fits_rows e.types (row_of e.types sound.of) (row_of e.types t)) fits)
      where
        fits : fit.fits e.types sound.of t ≡ true
        fits = (by_table p e whole sound.of t (procedural_low t two.0 two.1 two.2) (sym (ap (λ o. assignable.is_compatible e o (Some t)) sound.known) ∙ is)).2

        shut : element_of (row_of e.types t) ≡ None
        shut = ap element_of two.2

        alike : (same e.types sound.of t ≡ true) ⊎ (extends e.types sound.of t ≡ true) → IsOf p v.typed (type_as t)
        alike (inl s) = of_same (same_closed p e whole (length e.types) sound.of t shut s)
        alike (inr x) =
            let comes = sym (ap (λ o. if is_pointer o then extends_pointer e.types sound.of t else comes_to e.types sound.of t) two.2) ∙ x in
            of_same (comes_alone p e whole t (ap is_record two.2) (ap is_object two.2) (length e.types) sound.of comes)

        rows : (o : Option TypeRow) → row_of e.types sound.of ≡ o → fit.fits_rows e.types o (Some (row.Procedure two.0 two.1)) ≡ true → IsOf p v.typed (type_as t)
        rows (Some f) there fit_row = of_row some f there fit_row
        rows None there fit_row = absurd (not_both (sym fit_row))

        by : ((same e.types sound.of t || extends e.types sound.of t) ≡ true) ⊎ (fit.fits_rows e.types (row_of e.types sound.of) (row_of e.types t) ≡ true) → IsOf p v.typed (type_as t)
        by (inl one) = alike (either_is (same e.types sound.of t) (extends e.types sound.of t) one)
        by (inr rows_fit) = rows (row_of e.types sound.of) refl (sym (ap (fit.fits_rows e.types (row_of e.types sound.of)) two.2) ∙ rows_fit)

    procedural_of : IsNaming p e v.known.class v.typed → assignable.is_assignable e v.known (Some t) ≡ true → IsOf p (as_procedure v) (type_as t)
    procedural_of naming is = by (is_nil v.known.class) refl
      where
        of_class : (c : Class) → IsNaming p e c v.typed → assignable.is_assignable e (record { of = v.known.of; class = c }) (Some t) ≡ true → is_nil v.known.class ≡ false → IsOf p v.typed (type_as t)
        of_class (class.Procedure m n) naming is some = named_fits t m n v.typed is naming
        of_class (class.Constant l) naming is some = compatible_of some is
        of_class class.Unknown naming is some = compatible_of some is
        of_class class.Variable naming is some = compatible_of some is
        of_class class.ReadOnly naming is some = compatible_of some is
        of_class class.Computed naming is some = compatible_of some is

        by : (b : Bool) → is_nil v.known.class ≡ b → IsOf p (if b then Lit literal.NoProcedure else v.typed) (type_as t)
        by true none = no_procedure
        by false some = of_class v.known.class naming is some

  pub procedural_fits : (t : TypeId) → desig.is_procedural e t ≡ true → (v : Answer) → IsPart p e v → assignable.is_assignable e v.known (Some t) ≡ true →
      (is_value_type p.program.types (type_as t) ≡ true) × IsOf p (as_procedure v) (type_as t)
  procedural_fits t procedural v x is =
      let r = procedural_row t procedural in
      (procedural_value p.program.types (type_as t) (procedural_typed t r.0 r.1 r.2), procedural_of t procedural v (x.sound whole) (x.named whole) is)
