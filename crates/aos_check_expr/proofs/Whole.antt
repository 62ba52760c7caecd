-- Environments of bodies, in which each variable has its type: what is known of its table of types.
use Rattle.std.proofs.Common.{◌≡◌, ℕ, ◌+◌, ◌≤◌, ◌<◌, List, [], ◌∷◌, ◌++◌, length, Bool, true, false, ◌==◌, ◌&&◌, ◌⊎◌, inl, inr, not, Option, Some, None, is_some, option_map, slice_get, refl, sym, ap, ◌∙◌, le-ltb, arith}
use Rattle.std.proofs.lemmas.Option.{none-some, same_Some, slice_get_within, slice_get_past}
use Rattle.std.proofs.lemmas.Bool.{and_parts}
use Rattle.aos_base.specs.declared.text.Pos.{Pos}
use Rattle.aos_tree.specs.declared.name.Name.{Name}
use Rattle.aos_types.specs.declared.row.Basic.TheVariants as basic
use Rattle.aos_types.specs.declared.row.TypeId.{TypeId}
use Rattle.aos_types.specs.declared.row.TypeRow.{TypeRow}
use Rattle.aos_types.specs.declared.row.TypeRow.TheVariants as row
use Rattle.aos_types.specs.Table.{row_of, is_open, is_object}
use Rattle.aos_types.specs.Extension.{comes_to}
use Rattle.aos_types.specs.Sameness.{element_of}
use Rattle.aos_typed.specs.Numbers.{id_of}
use Rattle.aos_typed.specs.Open.{open_dimensions, open_element}
use Rattle.aos_typed.specs.declared.tree.TType.{TType}
use Rattle.aos_typed.specs.Program.{Place, ModuleVar, Of, Rows, Parameter, Procedure, Module}
use Rattle.aos_typed.specs.declared.tree.TType.TheVariants as type
use Rattle.aos_typed.specs.Formals.{pattern_of}
use Rattle.aos_typed.specs.Methods.{method_in, initializer}
use Rattle.aos_typed.specs.Routines.{self_type, result_of}
use Rattle.aos_typed.specs.WellTyped.{HaveLengths, IsPattern, field_type, procedure_in}
use Rattle.aos_types.specs.declared.signature.Parameter.{Parameter as Formal}
use Rattle.aos_types.specs.declared.signature.Gives.{Gives}
use Rattle.aos_types.specs.declared.signature.Gives.TheVariants as gives
use Rattle.aos_types.specs.declared.signature.Signature.{Signature}
use Rattle.aos_symbols.specs.declared.scope.Entry.{Entry}
use Rattle.aos_symbols.specs.declared.scope.Constant.{Constant as Declared}
use Rattle.aos_symbols.specs.declared.scope.Meaning.TheVariants as means
use Rattle.aos_symbols.specs.declared.env.Open.{Open}
use Rattle.aos_symbols.specs.declared.env.Symbol.{Symbol}
use Rattle.aos_members.specs.declared.fields.Field.{Field}
use Rattle.aos_members.specs.declared.objects.Method.{Method}
use Rattle.aos_symbols.specs.declared.env.Narrowed.{Narrowed}
use Rattle.aos_symbols.specs.declared.env.Env.{Env}
use Rattle.aos_symbols.specs.Scope.{Scope, find}
use Rattle.aos_symbols.specs.Home.{Home, texts_of}
use Rattle.aos_members.specs.Members as members
use Rattle.aos_symbols.specs.Env as env
use Rattle.aos_symbols.specs.Env.{nil, text}
use Rattle.aos_symbols.proofs.Each.{Each}
use Rattle.aos_symbols.proofs.Told.{IsTold, basic as basic_told, of_any, defined, IsKnown, PartsAreTold}
use Rattle.aos_known.proofs.Inside.{Inside, IsPlaceOf, AreRows, AreVariables}
use Rattle.aos_known.specs.Known.{Entity, is_basic, object_number, type_as, type_of}
use Rattle.aos_operators.proofs.Good.{HasGood}
use Rattle.aos_known.proofs.Types.{not_both, id_as}
use Rattle.aos_arguments.specs.Filled.{filled_texts}
use Rattle.aos_designators.specs.Designators as desig
use Rattle.aos_check_expr.proofs.Opens.{OpensFall, OpensStand, IsVariableNumber, some_there, behind_all}

-- a variable has the type that is known of it, or is an open array, with its rows
pub data IsTyped (p : Inside) (e : Env) (place : Place) (of : Option TypeId) : Type 0 where
  closed : IsPlaceOf p place (type_of of) → IsKnown e.types of → IsTyped p e place of
  opened : (t : TypeId) (r : Rows) → of ≡ Some t → place ≡ Of r → desig.is_opened e t ≡ true →
      AreRows p r (open_dimensions e.types t) (type_as (open_element e.types t)) → HaveLengths r → AreVariables p r → IsTyped p e place of

-- a row that modules write
abbrev pub IsWritten : TypeRow → Type 0
IsWritten (row.Basic b) = ⊥
IsWritten row.Any = ⊥
IsWritten r = Unit {0}

-- in each scope that the environment has, each constant has a value that is good
abbrev pub GoodConstants : Env → Type 0
GoodConstants e = (o : Open) (s : Scope) → env.scope e o ≡ Some s → Each (λ (c : Declared). HasGood c.value) s.constants

-- a parameter's type: one that is told, or an open array
abbrev pub IsParameterType : Env → TypeId → Type 0
IsParameterType e t = IsTold e.types t ⊎ (desig.is_opened e t ≡ true)

-- the parameters of the typed program are those of a signature, whose types are all such
abbrev pub AreFormalsOf : (Kind : TypeId → Type 0) → List Formal → List Parameter → Type 0
AreFormalsOf Kind [] as' = as' ≡ []
AreFormalsOf Kind (x ∷ xs) as' =
    (a : Parameter) × (rest : List Parameter) × (t : TypeId) × (as' ≡ a ∷ rest) × (x.of ≡ Some t) × (a.of ≡ type_as t)
    × (a.by_reference ≡ x.by_reference) × Kind t × AreFormalsOf Kind xs rest

abbrev pub AreParameters : Env → List Formal → List Parameter → Type 0
AreParameters e xs as' = AreFormalsOf (IsParameterType e) xs as'

abbrev pub IsResultOf : Gives → Option TType → Type 0
IsResultOf gives.Nothing r = r ≡ None
IsResultOf (gives.Value of) r = (t : TypeId) × (of ≡ Some t) × (r ≡ Some (type_as t)) × (t ≡ nil → ⊥)

pub record IsSigned (e : Env) (s : Signature) (q : Procedure) : Type 0 where
  pub parameters : AreParameters e s.parameters q.parameters
  pub result : IsResultOf s.gives q.result

-- a scope is that of SELF's type, or of one of its bases
abbrev pub IsFieldScope : Env → Open → Type 0
IsFieldScope e o =
    (t b : TypeId) × (e.self_type ≡ Some t) × (comes_to e.types t b ≡ true) × (members.object_at e o ≡ Some b) × (desig.is_own_scope e o ≡ false)
    × ((o.scope == 0) ≡ false)

-- a scope that is searched is a module's own, that of the procedure, or one of SELF's fields
abbrev pub IsSearched : Env → Open → Type 0
IsSearched e o = (o.scope ≡ 0) ⊎ ((desig.is_own_scope e o ≡ true) ⊎ IsFieldScope e o)

-- the rows of types that have fields
abbrev pub has_fields : Option TypeRow → Bool
has_fields (Some (row.Record base fs)) = true
has_fields (Some (row.Object base fs)) = true
has_fields r = false

-- each open array of the table stands behind its elements, whose type is told or an open array
pub record AreOpensTold (e : Env) : Type 0 where
  pub falls : OpensFall e.types
  pub above : (t u : TypeId) → row_of e.types t ≡ Some (row.Open u) → 10 ≤ t.0
  pub elements : (t u : TypeId) → row_of e.types t ≡ Some (row.Open u) → IsParameterType e u

-- the type of a parameter that is there
pub parameter_type : (e : Env) (t : TypeId) → t.0 < length e.types → IsVariableNumber t.0 → IsParameterType e t
parameter_type e t below (inl low) = inl (basic_told low)
parameter_type e t below (inr (inl is)) = inl (of_any is)
parameter_type e t below (inr (inr high)) = let r = some_there e.types t.0 below in by r.0 r.1 (is_open (Some r.0)) refl
  where
    no_low : is_basic t ≡ false
    no_low = le-ltb t.0 7 (omega (arith, high))

    by : (r : TypeRow) → slice_get e.types t.0 ≡ Some r → (b : Bool) → is_open (Some r) ≡ b → IsParameterType e t
    by r there false shut = inl (defined r high there shut)
    by r there true opening = inr (ap (λ b. not b && is_open (row_of e.types t)) no_low ∙ ap is_open there ∙ opening)

pub opens_told : (e : Env) → OpensStand e.types → AreOpensTold e
opens_told e stand = record {
  falls = λ t u is. (stand t.0 (row.Open u) is).0;
  above = λ t u is. (stand t.0 (row.Open u) is).1;
  elements = λ t u is.
      let one = stand t.0 (row.Open u) is in
      let below = slice_get_within e.types t.0 (row.Open u) is in
      let less = one.0 in
      parameter_type e u (omega (arith, below, less)) one.2;
}

-- what is told has no open dimension
pub told_element : (e : Env) → AreOpensTold e → (t : TypeId) → IsTold e.types t → element_of (row_of e.types t) ≡ None
told_element e opens t told = by (row_of e.types t) refl
  where
    not_open : (u : TypeId) → row_of e.types t ≡ Some (row.Open u) → IsTold e.types t → ⊥
    not_open u is (basic_told below) = let above = opens.above t u is in omega (arith, above, below)
    not_open u is (of_any e) = let above = opens.above t u is in omega (arith, above, e)
    not_open u is (defined r from there shut) = not_both (ap is_open (sym is ∙ there) ∙ shut)

    by : (r : Option TypeRow) → row_of e.types t ≡ r → element_of r ≡ None
    by (Some (row.Open u)) is = absurd (not_open u is told)
    by None is = refl
    by r is = refl

-- each WITH around a place guards its variable with a type that this may be guarded with
abbrev pub NarrowsWell : Env → Symbol → ℕ → Entity → List Narrowed → Type 0
NarrowsWell e x k a [] = Unit {0}
NarrowsWell e x k a (v ∷ vs) =
    (desig.is_narrowed x k v ≡ true → desig.may_test e (desig.is_passed (desig.place_of a.held)) a.known.of (Some v.of) ≡ true)
    × NarrowsWell e x k (desig.narrowed_by e x k a v) vs

-- The environment is that of bodies: each variable in the scope of a module or of the procedure has its type, the table is the program's
-- and begins with what is predeclared, the types behind the first ten are its object types, each procedure that a module's scope names is as its signature says,
-- a body without a signature gives nothing, SELF is of an object type, whose fields, methods and initializer are those of the program,
-- beside each procedure type stands what has its formals, no type is that of procedures that are named, and each module's string
-- constants begin with those of its text, behind which the bodies' module has those with 0X behind them.
pub record IsWhole (p : Inside) (e : Env) : Type 0 where
  pub variables : (o : Open) (s : Scope) (w : List ℕ) (x : Entry) (k : ℕ) → o.scope ≡ 0 → env.scope e o ≡ Some s → find s w ≡ Some x →
      x.means ≡ means.Variable k → IsTyped p e (ModuleVar o.home k) (env.variable_type e o k)
  pub constants : GoodConstants e
  pub parts : PartsAreTold e.types
  pub fields : (t : TypeId) (n : Name) (f : Field) → members.field e t n ≡ Some f → has_fields (row_of e.types t) ≡ true →
      (u : TypeId) × (f.of ≡ Some u) × (field_type e.types t f.number ≡ Some u) × IsTold e.types u
  pub rows : p.program.types ≡ e.types
  pub objects : length e.types ≡ 10 + length p.program.objects
  pub basic : (k : ℕ) → k < 10 → slice_get e.types k ≡ slice_get env.basic_rows k
  pub written : (k : ℕ) (r : TypeRow) → 10 ≤ k → slice_get e.types k ≡ Some r → IsWritten r
  pub opens : AreOpensTold e
  pub narrows : (x : Symbol) (k : ℕ) (at : Pos) → NarrowsWell e x k (desig.variable e x k at) e.narrowed
  pub path : Each (IsSearched e) e.path
  pub locals : (s : Scope) (w : List ℕ) (x : Entry) (k : ℕ) → is_some (env.own_signature e) ≡ true →
      let o : Open = record { home = e.number; scope = env.innermost e.path } in
      env.scope e o ≡ Some s → find s w ≡ Some x → x.means ≡ means.Variable k → IsTyped p e (desig.own_place e k) (env.variable_type e o k)
  pub own : (s : Signature) → env.own_signature e ≡ Some s → (q : Procedure) × (p.own ≡ Some q) × IsSigned e s q
  pub own_body : env.own_signature e ≡ None → result_of p.own ≡ None
  pub itself : (t : TypeId) → e.self_type ≡ Some t → (self_type p.own ≡ Some (object_number t)) × (is_object (row_of e.types t) ≡ true)
  pub own_fields : (t b : TypeId) (o : Open) (s : Scope) (w : List ℕ) (x : Entry) (k : ℕ) → e.self_type ≡ Some t → comes_to e.types t b ≡ true → members.object_at e o ≡ Some b →
      env.scope e o ≡ Some s → find s w ≡ Some x → x.means ≡ means.Variable k →
      (u : TypeId) × (env.variable_type e o k ≡ Some u) × (field_type e.types t (members.field_number e b k) ≡ Some u) × IsTold e.types u
  pub methods : (t : TypeId) (n : Name) (m : Method) → members.method e t n ≡ Some m → is_object (row_of e.types t) ≡ true →
      (s : Signature) → env.signature e m.home m.number ≡ Some s → (q : Procedure) × (method_in p.program (object_number t) m.slot ≡ Some q) × IsSigned e s q
  pub initials : (t : TypeId) → is_object (row_of e.types t) ≡ true → initializer p.program (object_number t) ≡ option_map (λ (m : Method). m.slot) (members.initializer e t)
  pub initial : (t : TypeId) (m : Method) → members.initializer e t ≡ Some m → is_object (row_of e.types t) ≡ true →
      (s : Signature) → env.signature e m.home m.number ≡ Some s → (q : Procedure) × (method_in p.program (object_number t) m.slot ≡ Some q) × (q.result ≡ None) × IsSigned e s q
  pub patterns : (t : TypeId) (formals : List (Bool × TypeId)) (r : Option TypeId) → row_of e.types t ≡ Some (row.Procedure formals r) →
      (q : Procedure) × (pattern_of p.program (type.Named (object_number t)) ≡ Some q) × IsPattern q formals r
  pub signatures : (m k : ℕ) (s : Scope) (w : List ℕ) (x : Entry) → env.scope e (env.own m) ≡ Some s → find s w ≡ Some x → x.means ≡ means.Procedure k →
      (g : Signature) → env.signature e m k ≡ Some g → (q : Procedure) × (procedure_in p.program m k ≡ Some q) × IsSigned e g q
  pub strings : (m : ℕ) (h : Home) → env.home e m ≡ Some h →
      (x : Module) × (slice_get p.program.modules m ≡ Some x) × (length x.variables ≡ env.variable_count e m)
      × (more : List (List ℕ)) × (x.texts ≡ texts_of h ++ more)
  pub filled :
      (x : Module) × (slice_get p.program.modules e.number ≡ Some x) × (length x.variables ≡ env.variable_count e e.number)
      × (x.texts ≡ texts_of e.here ++ filled_texts e)

-- the predeclared types are there
pub many_types : (p : Inside) (e : Env) → IsWhole p e → 10 ≤ length e.types
many_types p e whole = let many = whole.objects in omega (arith, many)

-- what a procedure that is named has in the place of a type's number has no row
pub no_row : (p : Inside) (e : Env) → IsWhole p e → (t : TypeId) → t.0 ≡ length p.program.types → row_of e.types t ≡ None
no_row p e whole t is = let long = ap length whole.rows in slice_get_past e.types t.0 (omega (arith, is, long))

-- the type of string constants has no parts
pub text_row : (p : Inside) (e : Env) → IsWhole p e → (t : TypeId) (r : TypeRow) → t ≡ text → env.row_of e (Some t) ≡ Some r → row.Basic (basic.Text 0) ≡ r
text_row p e whole t r is there =
    same_Some (row.Basic (basic.Text 0)) r (sym (whole.basic 9 (omega arith)) ∙ ap (λ (u : TypeId). slice_get e.types u.0) (sym is) ∙ there)

pub no_array : (m : ℕ) (u : TypeId) → row.Basic (basic.Text 0) ≡ row.Array m u → ⊥
no_array m u is = cc

pub array_open : (m : ℕ) (u : TypeId) → is_open (Some (row.Array m u)) ≡ true → ⊥
array_open m u is = cc

pub no_open : (u : TypeId) → row.Basic (basic.Text 0) ≡ row.Open u → ⊥
no_open u is = cc

-- the row of an open array
pub opened_row : (e : Env) (t : TypeId) → desig.is_opened e t ≡ true → (u : TypeId) × (is_basic t ≡ false) × (row_of e.types t ≡ Some (row.Open u))
opened_row e t is = by (row_of e.types t) refl (and_parts (not (is_basic t)) _ is).1
  where
    low : (b : Bool) → not b ≡ true → b ≡ false
    low true h = absurd (not_both (sym h))
    low false h = refl

    by : (r : Option TypeRow) → row_of e.types t ≡ r → is_open r ≡ true → (u : TypeId) × (is_basic t ≡ false) × (row_of e.types t ≡ Some (row.Open u))
    by (Some (row.Open u)) at h = (u, low (is_basic t) (and_parts (not (is_basic t)) _ is).0, at)
    by r at h = absurd (not_both (sym h))

-- what is told is no open array
pub told_closed : (e : Env) → AreOpensTold e → (t : TypeId) → IsTold e.types t → desig.is_opened e t ≡ true → ⊥
told_closed e opens t told is =
    let u = opened_row e t is in none-some u.0 (sym (told_element e opens t told) ∙ ap element_of u.2)

pub row_opened : (e : Env) (t u : TypeId) → is_basic t ≡ false → row_of e.types t ≡ Some (row.Open u) → desig.is_opened e t ≡ true
row_opened e t u low is = rw (low, is) refl

-- what is behind the open dimensions of a type is told
pub elements_told : (e : Env) → AreOpensTold e → (t : TypeId) → desig.is_opened e t ≡ true → IsTold e.types (open_element e.types t)
elements_told e opens t opening =
    let u = opened_row e t opening in
    behind_all e.types opens.falls (IsTold e.types) each t.0 t u.0 (omega arith) u.2
  where
    each : (t u : TypeId) → row_of e.types t ≡ Some (row.Open u) → element_of (row_of e.types u) ≡ None → IsTold e.types u
    each t u is none = by (opens.elements t u is)
      where
        by : IsParameterType e u → IsTold e.types u
        by (inl told) = told
        by (inr opening) = let v = opened_row e u opening in absurd (none-some v.0 (sym none ∙ ap element_of v.2))

pub elements_id : (e : Env) → AreOpensTold e → (t : TypeId) → desig.is_opened e t ≡ true → id_of (type_as (open_element e.types t)) ≡ open_element e.types t
elements_id e opens t opening = id_as e.types (open_element e.types t) (elements_told e opens t opening)
