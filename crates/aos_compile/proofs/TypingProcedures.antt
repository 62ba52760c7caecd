-- A module's procedures: their parameters, their locals and what they give have types as they are to be.
use Rattle.std.proofs.Common.{◌≡◌, ℕ, zero, suc, ◌+◌, ◌<◌, ◌≤◌, List, [], ◌∷◌, length, map, drop, zip, true, false, All, Option, Some, None, slice_get, refl, sym, ap, ◌∙◌, subst, arith}
use Rattle.std.proofs.lemmas.Option.{none-some, same_Some, slice_get_within}
use Rattle.std.proofs.lemmas.List.Elements.{All-weaker}
use Rattle.aos_tree.specs.declared.name.Name.{Name}
use Rattle.aos_tree.specs.declared.decl.Def.{Def}
use Rattle.aos_types.specs.declared.row.TypeId.{TypeId}
use Rattle.aos_types.specs.declared.row.TypeRow.{TypeRow}
use Rattle.aos_types.specs.declared.row.TypeRow.TheVariants as row
use Rattle.aos_types.specs.Table.{row_of, is_open, is_scalar}
use Rattle.aos_typed.specs.declared.tree.TType.{TType}
use Rattle.aos_typed.specs.Numbers.{id_of}
use Rattle.aos_typed.specs.Program.{Stats, Variable, Parameter, Procedure as TypedProcedure, Program}
use Rattle.aos_typed.specs.WellTyped.{AreStatements, IsType, IsVariableType, IsResult, IsProcedure}
use Rattle.aos_types.specs.declared.signature.Parameter.{Parameter as Formal}
use Rattle.aos_types.specs.declared.signature.Gives.{Gives}
use Rattle.aos_types.specs.declared.signature.Gives.TheVariants as gives
use Rattle.aos_types.specs.declared.signature.Signature.{Signature}
use Rattle.aos_symbols.specs.Declarations.{Procedure, single_variables, formal_names}
use Rattle.aos_symbols.specs.declared.env.Env.{Env}
use Rattle.aos_symbols.specs.Scope.{Scope}
use Rattle.aos_symbols.specs.Env.{basic_rows}
use Rattle.aos_symbols.proofs.Each.{Each, all_of}
use Rattle.aos_symbols.proofs.Told.{IsKnown}
use Rattle.aos_known.specs.Known.{type_as, type_of}
use Rattle.aos_check_expr.proofs.Whole.{AreFormalsOf, AreParameters, IsResultOf, IsSigned, parameter_type}
use Rattle.aos_check_decl.proofs.Typing.{IsThere, IsResult as IsScalarType, IsHeading}
use Rattle.aos_variables.specs.Parts.{variables_of, variable_of, parameter_of, result_of}
use Rattle.aos_compile.specs.Modules.{procedure_of, procedures_of}
use Rattle.aos_compile.proofs.TypingPrograms.{Grows, statements_grow}
use Rattle.aos_compile.proofs.TypingTypes.{RowsStay, longer as more_rows, there_stays, closed_stays, fact_stays, number_is, told_number, told_no_nil, there, known_type}

not_both : true ≡ false → ⊥
not_both e = cc

module _ (p : Program) (begins : RowsStay basic_rows p.types) (text : List ℕ) where
  parameters : (names : List Name) (ps : List Formal) → Each (λ a. IsThere p.types a.of) ps → Each (λ a. IsType p a.of) (map (parameter_of text) (zip names ps))
  parameters [] ps each = tt
  parameters (n ∷ names) [] each = tt
  parameters (n ∷ names) (a ∷ ps) each = (there p begins a.of each.0, parameters names ps each.1)

  locals : (ds : List Def) (ofs : List (Option TypeId)) → Each (IsKnown p.types) ofs → Each (λ v. IsVariableType p v.of) (map (variable_of text) (zip ds ofs))
  locals [] ofs each = tt
  locals (d ∷ ds) [] each = tt
  locals (d ∷ ds) (of ∷ ofs) each = (known_type p begins of each.0, locals ds ofs each.1)

  -- a function gives a scalar
  abbrev GivesScalar : Gives → Type 0
  GivesScalar g = (of : Option TypeId) → g ≡ gives.Value of → IsScalarType p.types of

  result : (g : Gives) → GivesScalar g → IsResult p (result_of g)
  result gives.Nothing h = tt
  result (gives.Value of) h =
      let one = h of refl in
      subst (λ (o : Option TypeId). is_scalar (row_of p.types (id_of (type_of o))) ≡ true) (sym one.is)
      (subst (λ (u : TypeId). is_scalar (row_of p.types u) ≡ true) (sym (number_is one.type (told_number p.types one.type one.told))) one.scalar)

  -- of a type, or of the module
  pub procedure : (of : Option ℕ) (q : Procedure) (s : Signature) (scope : Scope) (b : Stats) → IsHeading p.types q s scope →
      AreStatements p (Some (record (procedure_of text q s scope.variables b) { of = of })) b → IsProcedure p (record (procedure_of text q s scope.variables b) { of = of })
  procedure of q s scope b heading typed =
      let names = formal_names q.formals in
      let ps = map (parameter_of text) (zip names s.parameters) in
      let vs = map (variable_of text) (zip (single_variables q.decls) (drop (length names) scope.variables)) in
      record {
        parameters = all_of (λ (a : Parameter). IsType p a.of) ps (parameters names s.parameters heading.parameters);
        locals = all_of (λ (v : Variable). IsVariableType p v.of) vs (locals (single_variables q.decls) (drop (length names) scope.variables) heading.locals);
        result = result s.gives heading.result;
        body = typed;
      }

  -- the procedure with a number has a signature, and a scope, of which the first has the number k
  pub record Has (scopes : List Scope) (k : ℕ) (ss : List Signature) (j : ℕ) (q : Procedure) : Type 0 where
    pub signature : Signature
    pub scope : Scope
    pub signature_is : slice_get ss j ≡ Some signature
    pub scope_is : slice_get scopes (k + j) ≡ Some scope
    pub heading : IsHeading p.types q signature scope

  abbrev pub HaveHeadings : List Scope → ℕ → List Procedure → List Signature → Type 0
  HaveHeadings scopes k qs ss = (j : ℕ) (q : Procedure) → slice_get qs j ≡ Some q → Has scopes k ss j q

  -- the bodies of procedures, or of the methods of a type, each in its own
  abbrev pub AreBodies : (of : Option ℕ) → List Scope → ℕ → List Procedure → List Signature → List Stats → Type 0
  AreBodies of scopes k [] ss bs = Unit {0}
  AreBodies of scopes k (q ∷ qs) [] bs = Unit {0}
  AreBodies of scopes k (q ∷ qs) (s ∷ ss) [] = Unit {0}
  AreBodies of scopes k (q ∷ qs) (s ∷ ss) (b ∷ bs) =
      AreStatements p (Some (record (procedure_of text q s (variables_of (slice_get scopes k)) b) { of = of })) b × AreBodies of scopes (suc k) qs ss bs

  no_more : (k : ℕ) → k ≡ k + 0
  no_more k = omega arith

  one_more : (k j : ℕ) → suc k + j ≡ k + suc j
  one_more k j = omega arith

  -- without the first
  others : (scopes : List Scope) (k : ℕ) (q : Procedure) (qs : List Procedure) (s : Signature) (ss : List Signature) → HaveHeadings scopes k (q ∷ qs) (s ∷ ss) → HaveHeadings scopes (suc k) qs ss
  others scopes k q qs s ss headings j r is =
      let two = headings (suc j) r is in
      record {
        signature = two.signature;
        scope = two.scope;
        signature_is = two.signature_is;
        scope_is = ap (slice_get scopes) (one_more k j) ∙ two.scope_is;
        heading = two.heading;
      }

  pub procedures_typed : (scopes : List Scope) (k : ℕ) (qs : List Procedure) (ss : List Signature) (bs : List Stats) → HaveHeadings scopes k qs ss →
      AreBodies None scopes k qs ss bs → Each (λ x. IsProcedure p x × (x.of ≡ None)) (procedures_of text scopes k qs ss bs)
  procedures_typed scopes k [] ss bs headings typed = tt
  procedures_typed scopes k (q ∷ qs) [] bs headings typed = tt
  procedures_typed scopes k (q ∷ qs) (s ∷ ss) [] headings typed = tt
  procedures_typed scopes k (q ∷ qs) (s ∷ ss) (b ∷ bs) headings typed =
      let one = headings 0 q refl in
      let here : slice_get scopes k ≡ Some one.scope = ap (slice_get scopes) (no_more k) ∙ one.scope_is in
      let heading : IsHeading p.types q s one.scope =
      subst (λ (z : Signature). IsHeading p.types q z one.scope) (sym (same_Some s one.signature one.signature_is)) one.heading in (
        (
          subst (λ (o : Option Scope). IsProcedure p (procedure_of text q s (variables_of o) b)) (sym here)
              (procedure None q s one.scope b heading (subst (λ (o : Option Scope). AreStatements p (Some (procedure_of text q s (variables_of o) b)) b) here typed.0)),
          refl,
        ),
        procedures_typed scopes (suc k) qs ss bs (others scopes k q qs s ss headings) typed.1,
      )

  -- an initializer is no function
  proper : (q : Procedure) (s : Signature) (scope : Scope) (variables : List (Option TypeId)) (b : Stats) → IsHeading p.types q s scope →
      (procedure_of text q s variables b).is_initializer ≡ true → (procedure_of text q s variables b).result ≡ None
  proper q s scope variables b heading is = ap result_of (heading.proper (heading.mark ∙ is))

  -- the methods of a type
  pub methods_typed : (of : Option ℕ) (scopes : List Scope) (k : ℕ) (qs : List Procedure) (ss : List Signature) (bs : List Stats) → HaveHeadings scopes k qs ss →
      AreBodies of scopes k qs ss bs → Each (λ x. IsProcedure p (record x { of = of }) × (x.is_initializer ≡ true → x.result ≡ None)) (procedures_of text scopes k qs ss bs)
  methods_typed of scopes k [] ss bs headings typed = tt
  methods_typed of scopes k (q ∷ qs) [] bs headings typed = tt
  methods_typed of scopes k (q ∷ qs) (s ∷ ss) [] headings typed = tt
  methods_typed of scopes k (q ∷ qs) (s ∷ ss) (b ∷ bs) headings typed =
      let one = headings 0 q refl in
      let here : slice_get scopes k ≡ Some one.scope = ap (slice_get scopes) (no_more k) ∙ one.scope_is in
      let heading : IsHeading p.types q s one.scope =
      subst (λ (z : Signature). IsHeading p.types q z one.scope) (sym (same_Some s one.signature one.signature_is)) one.heading in (
        (
          subst (λ (o : Option Scope). IsProcedure p (record (procedure_of text q s (variables_of o) b) { of = of })) (sym here)
              (procedure of q s one.scope b heading (subst (λ (o : Option Scope). AreStatements p (Some (record (procedure_of text q s (variables_of o) b) { of = of })) b) here typed.0)),
          proper q s one.scope (variables_of (slice_get scopes k)) b heading,
        ),
        methods_typed of scopes (suc k) qs ss bs (others scopes k q qs s ss headings) typed.1,
      )

-- Signatures, and the procedures of the typed program that have them.

-- a parameter of the typed program for each of a signature, whose type is there
abbrev pub AreFormals : List TypeRow → List Formal → List Parameter → Type 0
AreFormals types xs as' = AreFormalsOf (λ t. IsThere types (Some t)) xs as'

-- a function's type is no open array, and an initializer is no function
pub record IsSignature (types : List TypeRow) (s : Signature) (q : TypedProcedure) : Type 0 where
  pub mark : q.is_initializer ≡ s.is_initializer
  pub proper : s.is_initializer ≡ true → s.gives ≡ gives.Nothing
  pub parameters : AreFormals types s.parameters q.parameters
  pub result : IsResultOf s.gives q.result
  pub closed : (t : TypeId) → s.gives ≡ gives.Value (Some t) → (t.0 < length types) × (is_open (row_of types t) ≡ false)

formals_are : (types : List TypeRow) (text : List ℕ) (names : List Name) (ps : List Formal) → length ps ≡ length names → Each (λ a. IsThere types a.of) ps →
    AreFormals types ps (map (parameter_of text) (zip names ps))
formals_are types text [] [] few each = refl
formals_are types text [] (a ∷ ps) few each = absurd (omega (arith, few))
formals_are types text (n ∷ names) [] few each = absurd (omega (arith, few))
formals_are types text (n ∷ names) (a ∷ ps) few each = by a.of refl each.0 (formals_are types text names ps (omega (arith, few)) each.1)
  where
    by : (of : Option TypeId) → a.of ≡ of → IsThere types of → AreFormals types ps (map (parameter_of text) (zip names ps)) → AreFormals types (a ∷ ps) (map (parameter_of text) (zip (n ∷ names) (a ∷ ps)))
    by None is there more = absurd there
    by (Some t) is there more =
        (parameter_of text (n, a), map (parameter_of text) (zip names ps), t, refl, is, ap type_of is, refl, there, more)

result_is : (types : List TypeRow) (g : Gives) → ((of : Option TypeId) → g ≡ gives.Value of → IsScalarType types of) → IsResultOf g (result_of g)
result_is types gives.Nothing h = refl
result_is types (gives.Value of) h = let one = h of refl in (one.type, one.is, ap (λ o. Some (type_of o)) one.is, told_no_nil types one.type one.told)

pub heading_signature : (types : List TypeRow) (text : List ℕ) (q : Procedure) (s : Signature) (scope : Scope) (variables : List (Option TypeId)) (b : Stats) → IsHeading types q s scope →
    IsSignature types s (procedure_of text q s variables b)
heading_signature types text q s scope variables b heading = record {
  mark = sym heading.mark;
  proper = heading.proper;
  parameters = formals_are types text (formal_names q.formals) s.parameters heading.few heading.parameters;
  result = result_is types s.gives heading.result;
  closed = λ t value.
      let one = heading.result (Some t) value in
      let same : one.type ≡ t = same_Some one.type t (sym one.is) in
      let scalar = ap (λ (u : TypeId). is_scalar (row_of types u)) (sym same) ∙ one.scalar in
      scalar_row t (row_of types t) refl scalar;
}
  where
    scalar_row : (t : TypeId) (r : Option TypeRow) → row_of types t ≡ r → is_scalar r ≡ true → (t.0 < length types) × (is_open (row_of types t) ≡ false)
    scalar_row t None there is = absurd (not_both (sym is))
    scalar_row t (Some (row.Open u)) there is = absurd (not_both (sym is))
    scalar_row t (Some (row.Basic b)) there is = (slice_get_within types t.0 (row.Basic b) there, ap is_open there)
    scalar_row t (Some (row.Pointer u)) there is = (slice_get_within types t.0 (row.Pointer u) there, ap is_open there)
    scalar_row t (Some (row.Object base fs)) there is = (slice_get_within types t.0 (row.Object base fs) there, ap is_open there)
    scalar_row t (Some (row.Procedure fs r)) there is = (slice_get_within types t.0 (row.Procedure fs r) there, ap is_open there)
    scalar_row t (Some row.Any) there is = (slice_get_within types t.0 row.Any there, ap is_open there)
    scalar_row t r there is = absurd (not_both (sym is))

pub signature_with : (of : Option ℕ) (types : List TypeRow) (s : Signature) (q : TypedProcedure) → IsSignature types s q → IsSignature types s (record q { of = of })
signature_with of types s q is = record { mark = is.mark; proper = is.proper; parameters = is.parameters; result = is.result; closed = is.closed }

-- the parameter with a number
pub formal_at : (types : List TypeRow) (xs : List Formal) (as' : List Parameter) → AreFormals types xs as' → (k : ℕ) (x : Formal) → slice_get xs k ≡ Some x →
    (a : Parameter) × (t : TypeId) × (slice_get as' k ≡ Some a) × (x.of ≡ Some t) × (a.of ≡ type_as t) × (a.by_reference ≡ x.by_reference) × IsThere types (Some t)
formal_at types [] as' are k x is = absurd (none-some x is)
formal_at types (y ∷ ys) as' are zero x is =
    let same = same_Some y x is in (
      are.0,
      are.2,
      ap (λ l. slice_get l 0) are.3,
      ap (λ (z : Formal). z.of) (sym same) ∙ are.4,
      are.5,
      are.6 ∙ ap (λ (z : Formal). z.by_reference) same,
      are.7,
    )
formal_at types (y ∷ ys) as' are (suc k) x is =
    let more = formal_at types ys are.1 are.8 k x is in
    (more.0, more.1, ap (λ l. slice_get l (suc k)) are.3 ∙ more.2, more.3, more.4, more.5, more.6)

formals_long : (types : List TypeRow) (xs : List Formal) (as' : List Parameter) → AreFormals types xs as' → length as' ≡ length xs
formals_long types [] as' are = ap length are
formals_long types (x ∷ xs) as' are = ap length are.3 ∙ ap suc (formals_long types xs are.1 are.8)

pub signature_long : (types : List TypeRow) (s : Signature) (q : TypedProcedure) → IsSignature types s q → length q.parameters ≡ length s.parameters
signature_long types s q is = formals_long types s.parameters q.parameters is.parameters

-- at a place of a module
pub signed : (e : Env) (s : Signature) (q : TypedProcedure) → IsSignature e.types s q → IsSigned e s q
signed e s q is = record { parameters = parameters s.parameters q.parameters is.parameters; result = is.result }
  where
    parameters : (xs : List Formal) (as' : List Parameter) → AreFormals e.types xs as' → AreParameters e xs as'
    parameters [] as' are = are
    parameters (x ∷ xs) as' are =
        (are.0, are.1, are.2, are.3, are.4, are.5, are.6, parameter_type e are.2 are.7.0 are.7.1, parameters xs are.1 are.8)

-- and where the table goes on
pub signature_on : (ts us : List TypeRow) → RowsStay ts us → (s : Signature) (q : TypedProcedure) → IsSignature ts s q → IsSignature us s q
signature_on ts us stay s q is = record {
  mark = is.mark;
  proper = is.proper;
  parameters = formals_on s.parameters q.parameters is.parameters;
  result = is.result;
  closed = λ t value. let one = is.closed t value in (there_stays ts us stay t.0 one.0, closed_stays ts us stay t.0 one.0 one.1);
}
  where
    longer : length ts ≤ length us
    longer = more_rows ts us stay

    formals_on : (xs : List Formal) (as' : List Parameter) → AreFormals ts xs as' → AreFormals us xs as'
    formals_on [] as' are = are
    formals_on (x ∷ xs) as' are =
        (are.0, are.1, are.2, are.3, are.4, are.5, are.6, (let below = are.7.0 in let l = longer in omega (arith, below, l), are.7.1), formals_on xs are.1 are.8)

-- the procedures of a module have its first signatures, one for each
pub procedures_long : (text : List ℕ) (scopes : List Scope) (k : ℕ) (qs : List Procedure) (ss : List Signature) (bs : List Stats) → length bs ≡ length qs → length qs ≤ length ss →
    length (procedures_of text scopes k qs ss bs) ≡ length qs
procedures_long text scopes k [] ss bs long few = refl
procedures_long text scopes k (q ∷ qs) [] bs long few = absurd (omega (arith, few))
procedures_long text scopes k (q ∷ qs) (s ∷ ss) [] long few = absurd (omega (arith, long))
procedures_long text scopes k (q ∷ qs) (s ∷ ss) (b ∷ bs) long few = ap suc (procedures_long text scopes (suc k) qs ss bs (omega (arith, long)) (omega (arith, few)))

pub signatures_are : (types : List TypeRow) (text : List ℕ) (scopes : List Scope) (k : ℕ) (qs : List Procedure) (ss : List Signature) (bs : List Stats) → length bs ≡ length qs →
    ((j : ℕ) (q : Procedure) (s : Signature) → slice_get qs j ≡ Some q → slice_get ss j ≡ Some s → (scope : Scope) × IsHeading types q s scope) →
    (j : ℕ) (s : Signature) → j < length qs → slice_get ss j ≡ Some s →
    (x : TypedProcedure) × (slice_get (procedures_of text scopes k qs ss bs) j ≡ Some x) × IsSignature types s x
signatures_are types text scopes k [] ss bs long headings j s less is = absurd (omega (arith, less))
signatures_are types text scopes k (q ∷ qs) [] bs long headings j s less is = absurd (none-some s is)
signatures_are types text scopes k (q ∷ qs) (z ∷ ss) [] long headings j s less is = absurd (omega (arith, long))
signatures_are types text scopes k (q ∷ qs) (z ∷ ss) (b ∷ bs) long headings zero s less is =
    let same = same_Some z s is in
    let one = headings 0 q z refl refl in (
      procedure_of text q z (variables_of (slice_get scopes k)) b,
      refl,
      subst (λ (y : Signature). IsSignature types y (procedure_of text q z (variables_of (slice_get scopes k)) b)) same
          (heading_signature types text q z one.0 (variables_of (slice_get scopes k)) b one.1),
    )
signatures_are types text scopes k (q ∷ qs) (z ∷ ss) (b ∷ bs) long headings (suc j) s less is =
    signatures_are types text scopes (suc k) qs ss bs (omega (arith, long)) (λ i r y at there. headings (suc i) r y at there) j s (omega (arith, less)) is

-- With more modules, and more rows behind those that are there.

module _ (p q : Program) (grows : Grows p q) where
  type_grows : (t : TType) → IsType p t → IsType q t
  type_grows t h = there_stays p.types q.types grows.rows (id_of t).0 h

  variable_grows : (t : TType) → IsVariableType p t → IsVariableType q t
  variable_grows t h = record { there = type_grows t h.there; closed = closed_stays p.types q.types grows.rows (id_of t).0 h.there h.closed }

  result_grows : (r : Option TType) → IsResult p r → IsResult q r
  result_grows None h = tt
  result_grows (Some t) h = fact_stays p.types q.types grows.rows is_scalar refl (id_of t).0 h

  pub procedure_grows : (x : TypedProcedure) → IsProcedure p x → IsProcedure q x
  procedure_grows x h = record {
    parameters = All-weaker (λ (a : Parameter). IsType p a.of) (λ (a : Parameter). IsType q a.of) (λ a is. type_grows a.of is) x.parameters h.parameters;
    locals = All-weaker (λ (v : Variable). IsVariableType p v.of) (λ (v : Variable). IsVariableType q v.of) (λ v is. variable_grows v.of is) x.locals h.locals;
    result = result_grows x.result h.result;
    body = statements_grow p q grows (Some x) (λ y same. subst (λ (z : TypedProcedure). All (λ a. IsType p a.of) z.parameters) (same_Some x y same) h.parameters) x.body.statements h.body;
  }
