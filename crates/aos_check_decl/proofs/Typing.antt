-- A module whose declarations break no rule: each type that has a name is told, each variable has a type, each constant has a
-- value that is good, no type contains itself or is past the limit, and the headings of its procedures are whole.
use Rattle.std.proofs.Common.{◌≡◌, ℕ, suc, ◌+◌, ◌<◌, ◌≤◌, nat_eq, List, [], ◌∷◌, ◌++◌, length, map, take, drop, true, false, Option, Some, None, is_some, slice_get, option_map, refl, sym, ap, ◌∙◌, subst, arith, length-append}
use Rattle.std.specs.Prelude.{sum_by, zip}
use Rattle.std.specs.List.{flat_map}
use Rattle.std.proofs.lemmas.Bool.{cases_lt}
use Rattle.std.proofs.lemmas.List.{length-map}
use Rattle.std.proofs.lemmas.List.Sums.{sum_by_from}
use Rattle.std.proofs.lemmas.Option.{none-some, same_Some, slice_get_within}
use Rattle.std.proofs.Math.Seq.{take-append_seam, drop-append_seam}
use mathlib.Core.Logic.{◌⊎◌, inl, inr}
use Rattle.aos_base.specs.declared.limits.TheConstants.{MOST_SCALARS}
use Rattle.aos_tree.specs.declared.decl.Formals.{Formals}
use Rattle.aos_tree.specs.declared.decl.TypeDef.{TypeDef}
use Rattle.aos_tree.specs.declared.module.Module.{Module}
use Rattle.aos_types.specs.declared.row.Basic.TheVariants as basic
use Rattle.aos_types.specs.declared.row.TypeId.{TypeId}
use Rattle.aos_types.specs.declared.row.TypeRow.{TypeRow}
use Rattle.aos_types.specs.declared.row.TypeRow.TheVariants as row
use Rattle.aos_types.specs.Table.{row_of, is_scalar, is_object}
use Rattle.aos_types.specs.Chain.{circles, cut}
use Rattle.aos_types.specs.Count.{AreBelow}
use Rattle.aos_typed.specs.WellTyped.{AreTypes}
use Rattle.aos_symbols.specs.declared.scope.Entry.{Entry}
use Rattle.aos_symbols.specs.declared.scope.Meaning.TheVariants as means
use Rattle.aos_types.specs.declared.signature.Gives.TheVariants as gives
use Rattle.aos_types.specs.declared.signature.Parameter.{Parameter}
use Rattle.aos_types.specs.declared.signature.Signature.{Signature}
use Rattle.aos_symbols.specs.declared.env.Env.{Env}
use Rattle.aos_symbols.specs.Spelling.{word}
use Rattle.aos_symbols.specs.Declarations.{Procedure, all_procedures, type_defs, all_type_defs, single_variables, formal_names, inner_decls}
use Rattle.aos_symbols.specs.Scope.{Scope, find}
use Rattle.std.specs.Map.{lookup}
use Rattle.aos_symbols.specs.declared.home.ObjectScope.{ObjectScope}
use Rattle.aos_symbols.specs.Home.{Home, object_of, scope_of, record_fields, fields_of}
use Rattle.aos_check_names.specs.Names.{name_breaches}
use Rattle.aos_entries.specs.Entries as entries
use Rattle.aos_symbols.specs.Env as env
use Rattle.aos_symbols.proofs.Each.{Each, implied}
use Rattle.aos_symbols.proofs.Holds.{Holds, none_left, none_right}
use Rattle.aos_symbols.proofs.Told.{IsTold, IsKnown, GoOn, known_on, told_behind, PartsAreTold, HasFields, FieldsAgree}
use Rattle.aos_check_expr.proofs.Opens.{IsVariableNumber, OpensStand}
use Rattle.aos_check_expr.proofs.Whole.{IsWritten}
use Rattle.aos_check_types.specs.declared.aliases.Target.{Target}
use Rattle.aos_check_types.specs.Aliases.{first_rows, follow, targets}
use Rattle.aos_check_decl.specs.Headings.{headings}
use Rattle.aos_check_types.specs.Limits as limits
use Rattle.aos_check_decl.specs.Pass.{own_numbers, entered, begun, declare}
use Rattle.aos_check_decl.proofs.Initials.{HasInitials, headings_once}
use Rattle.aos_check_types.proofs.TypingLists.{mapped_at}
use Rattle.aos_check_decl.proofs.TypingScopes.{variables_of, variables_at, scope_at}
use Rattle.aos_check_decl.proofs.TypingEntries.{scope_fresh, procedure_there}
use Rattle.aos_check_types.proofs.TypingLimits.{result_scalar, result_kept, variables_kept, few_from}
use Rattle.aos_check_decl.proofs.TypingProcedures.{types_of, HasResult, HasMade, IsHeaded}
use Rattle.aos_check_decl.proofs.TypingTargets.{AreLed, IsGiven, targets_sound}
use Rattle.aos_check_decl.proofs.TypingTypes.{Telling}
use Rattle.aos_entries.specs.Entries.{number_at}
use Rattle.aos_check_types.specs.Methods.{slot_meant, defined_type, definition_breaches, definition_slots}
use Rattle.aos_check_decl.proofs.ObjectTypes.{IsObject}
use Rattle.aos_check_types.proofs.TypingStays.{all_same}
use Rattle.aos_check_decl.proofs.TypingAliases.{IsProper}
use Rattle.aos_made_types.proofs.TypingClaims.{base_fits, told_closed}
use Rattle.aos_check_decl.proofs.TypingDefined.{own_found}
use Rattle.aos_check_decl.proofs.TypingFields.{IsObjectRow}
use Rattle.aos_check_decl.proofs.TypingHeadings.{is_name}
use Rattle.aos_check_decl.proofs.TypingObjects.{fields_at, fields_are, own_all}
use Rattle.aos_check_decl.proofs.TypingSlots.{slot_found}
use Rattle.aos_check_decl.proofs.TypingWalks.{MayBeOpen, told_below, own_first, object_no_name, own_stands, own_there as number_there, object_number, same_place}
use Rattle.aos_check_decl.proofs.TypingWhole as whole
use Rattle.aos_check_decl.proofs.TypingWhole.{AreOld}
pub use Rattle.aos_check_decl.proofs.TypingScopes.{AreGood}
pub use Rattle.aos_check_types.proofs.TypingLimits.{variable_cells}

-- The table of types behind whole modules: the basic types come first, all others are written, rows name types that are there, and types are
-- as those of a program are to be.
pub record AreReady (types : List TypeRow) : Type 0 where
  pub basic : (k : ℕ) → k < 10 → slice_get types k ≡ slice_get env.basic_rows k
  pub closed : (k : ℕ) (r : TypeRow) → slice_get types k ≡ Some r → AreBelow (length types) r
  pub sound : AreTypes types
  pub parts : PartsAreTold types
  pub written : (k : ℕ) (r : TypeRow) → 10 ≤ k → slice_get types k ≡ Some r → IsWritten r
  pub opens : OpensStand types

-- what is known of the modules before, and of the types so far
pub record IsReady (before : List Home) (types : List TypeRow) : Type 0 where
  pub names : (m : ℕ) (h : Home) (k : ℕ) (s : Scope) (w : List ℕ) (x : Entry) (of : Option TypeId) → slice_get before m ≡ Some h →
      (k ≡ 0) ⊎ (k < h.first) → slice_get h.scopes k ≡ Some s → find s w ≡ Some x → x.means ≡ means.Type of → IsKnown types of
  pub objects : (m : ℕ) (h : Home) (t : TypeId) (o : ObjectScope) → slice_get before m ≡ Some h → object_of h t ≡ Some o → (o.home ≡ m) × (o.scope < h.first)
  pub constants : (m : ℕ) (h : Home) (k : ℕ) (s : Scope) → slice_get before m ≡ Some h → slice_get h.scopes k ≡ Some s → AreGood s.constants
  pub fields : (m : ℕ) (h : Home) → slice_get before m ≡ Some h → FieldsAgree types h
  pub table : AreReady types

-- a type that is there, which may be an open array; no variable or parameter is of NIL's type or of string constants'
abbrev pub IsThere : List TypeRow → Option TypeId → Type 0
IsThere types None = ⊥
IsThere types (Some t) = (t.0 < length types) × IsVariableNumber t.0

-- a scalar's type
pub record IsResult (types : List TypeRow) (of : Option TypeId) : Type 0 where
  pub type : TypeId
  pub is : of ≡ Some type
  pub told : IsTold types type
  pub scalar : is_scalar (row_of types type) ≡ true

-- a procedure of the module: its signature, which gives nothing where it is an initializer's, and the variables of its scope, which are its parameters and then its locals
pub record IsHeading (types : List TypeRow) (p : Procedure) (s : Signature) (scope : Scope) : Type 0 where
  pub mark : s.is_initializer ≡ is_some p.initializer
  pub proper : s.is_initializer ≡ true → s.gives ≡ gives.Nothing
  pub parameters : Each (λ a. IsThere types a.of) s.parameters
  pub few : length s.parameters ≡ length (formal_names p.formals)
  pub first : take (length (formal_names p.formals)) scope.variables ≡ map (λ a. a.of) s.parameters
  pub locals : Each (IsKnown types) (drop (length (formal_names p.formals)) scope.variables)
  pub count : length scope.variables ≡ length (formal_names p.formals) + length (single_variables p.decls)
  pub result : (of : Option TypeId) → s.gives ≡ gives.Value of → IsResult types of

-- the procedure with a number, in the module's environment
pub record HasHeading (m : Module) (e : Env) (j : ℕ) (p : Procedure) : Type 0 where
  pub signature : Signature
  pub scope : Scope
  pub signature_is : slice_get e.here.signatures j ≡ Some signature
  pub scope_is : slice_get e.here.scopes (suc (length (type_defs m.decls)) + j) ≡ Some scope
  pub heading : IsHeading e.types p signature scope

-- the module whose declarations break no rule
pub record IsDeclared (number : ℕ) (before : List Home) (types : List TypeRow) (text : List ℕ) (m : Module) (e : Env) : Type 0 where
  pub number_is : e.number ≡ number
  pub before_is : e.before ≡ before
  pub path_is : e.path ≡ env.own number ∷ []
  pub narrowed_is : e.narrowed ≡ []
  pub text_is : e.here.text ≡ text
  pub first_is : e.here.first ≡ suc (length (type_defs m.decls))
  pub name_is : e.here.name ≡ word text m.name
  pub own : Scope
  pub own_is : slice_get e.here.scopes 0 ≡ Some own
  pub numbers : List (Option TypeId)
  pub entries_are : own.entries ≡ (entries.own_scope text before numbers m).entries
  pub all_entries_are : (k : ℕ) → option_map (λ (s : Scope). s.entries) (slice_get e.here.scopes k)
      ≡ option_map (λ (s : Scope). s.entries) (slice_get (entries.scopes text before numbers m) k)
  pub names : (k : ℕ) (s : Scope) (w : List ℕ) (x : Entry) (of : Option TypeId) → slice_get e.here.scopes k ≡ Some s → find s w ≡ Some x →
      x.means ≡ means.Type of → IsKnown e.types of
  pub objects_are : e.here.objects ≡ entries.objects_of number numbers m.decls
  pub objects : (t : TypeId) (o : ObjectScope) → object_of e.here t ≡ Some o → (o.home ≡ number) × (o.scope < e.here.first)
  pub self_is : e.self_type ≡ None
  pub overrides : flat_map (definition_breaches e) (type_defs m.decls) ≡ []
  pub slots_are : e.here.slots ≡ map (definition_slots e) (type_defs m.decls)
  pub defined : (j : ℕ) (d : TypeDef) → slice_get (type_defs m.decls) j ≡ Some d → IsObject d.value → (defined_type e d ≡ Some (record { 0 = length types + j }))
      × (slice_get numbers j ≡ Some (Some (record { 0 = length types + j }))) × (is_object (row_of e.types (record { 0 = length types + j })) ≡ true)
  pub object_fields : (j : ℕ) (d : TypeDef) (s : Scope) → slice_get (type_defs m.decls) j ≡ Some d → IsObject d.value → slice_get e.here.scopes (suc j) ≡ Some s →
      length s.variables ≡ length (single_variables (inner_decls d.value))
  pub variables : Each (IsKnown e.types) own.variables
  pub few : sum_by (variable_cells e.types) own.variables ≤ MOST_SCALARS
  pub few_all : let so_far = sum_by (limits.scalars_of (circles e.types) e.types) e.before in
      so_far ≤ MOST_SCALARS → so_far + sum_by (variable_cells e.types) own.variables ≤ MOST_SCALARS
  pub fields : FieldsAgree e.types e.here
  pub count : length own.variables ≡ length (single_variables m.decls)
  pub constants : (k : ℕ) (s : Scope) → slice_get e.here.scopes k ≡ Some s → AreGood s.constants
  pub goes_on : GoOn types e.types
  pub stays : (k : ℕ) → k < length types → slice_get e.types k ≡ slice_get types k
  pub long : length e.types ≡ length types + (length (all_type_defs m.decls) + length e.places)
  pub table : AreReady e.types
  pub signatures : length e.here.signatures ≡ length (all_procedures m.decls)
  pub procedures : (j : ℕ) (p : Procedure) → slice_get (all_procedures m.decls) j ≡ Some p → HasHeading m e j p
  pub initials : HasInitials m

-- What is known of the table before.

table_ten : (before : List Home) (types : List TypeRow) → IsReady before types → 10 ≤ length types
table_ten before types ready = slice_get_within types 9 (row.Basic (basic.Text 0)) (ready.table.basic 9 (omega arith))

table_old : (before : List Home) (types : List TypeRow) → IsReady before types → AreOld types
table_old before types ready = record {
  ten = table_ten before types ready;
  basic = ready.table.basic;
  closed = ready.table.closed;
  free = ready.table.sound.none_contains_itself;
  sizes = ready.table.sound.sizes;
  parts = ready.table.parts;
  opens = ready.table.opens;
}

module _ (number : ℕ) (before : List Home) (types : List TypeRow) (text : List ℕ) (m : Module) (ready : IsReady before types) (given : IsGiven number before types) (ts : List Target)
    (led : AreLed types (length (all_type_defs m.decls)) (all_type_defs m.decls) ts) (once : name_breaches text m ≡ []) where
  abbrev old : AreOld types
  old = table_old before types ready

  abbrev start : Env
  start = whole.begun number before types text m ts given ready.constants old led once

  abbrev numbers : List (Option TypeId)
  numbers = whole.own number before types text m ts given ready.constants old led once

  module _ (none : (headings start m.decls).breaches ≡ []) where
    abbrev e : Env
    e = whole.ended number before types text m ts given ready.constants old led once none

    long : length e.types ≡ length types + (length (all_type_defs m.decls) + length e.places)
    long = whole.long number before types text m ts given ready.constants old led once none

    stays : (k : ℕ) → k < length types → slice_get e.types k ≡ slice_get types k
    stays = whole.stays number before types text m ts given ready.constants old led once none

    abbrev based : List TypeRow
    based = whole.based number before types text m ts given ready.constants old led once none

    module _ (asked : flat_map (limits.claim_breaches e) e.claims ≡ [])
        (fine : limits.all_breaches (circles based) (cut (circles based) based) (limits.with_bases e) (length types) m.decls ≡ []) where
      basics : (k : ℕ) → k < 10 → slice_get e.types k ≡ slice_get env.basic_rows k
      basics = whole.basics number before types text m ts given ready.constants old led once none asked fine

      headed : IsHeaded (whole.second_walk number before types text m ts given ready.constants old led once none asked fine)
          (whole.path number before types text m ts given ready.constants old led once)
          (whole.second_searched number before types text m ts given ready.constants old led once none asked fine) m.decls start e
      headed = whole.headed number before types text m ts given ready.constants old led once none asked fine

      parts : PartsAreTold e.types
      parts = whole.parts number before types text m ts given ready.constants old led once none asked fine

      written : (k : ℕ) (r : TypeRow) → 10 ≤ k → slice_get e.types k ≡ Some r → IsWritten r
      written k r high is = by (cases_lt k (length types))
        where
          by : (k < length types) ⊎ (length types ≤ k) → IsWritten r
          by (inl below) = ready.table.written k r high (sym (stays k below) ∙ is)
          by (inr behind) = whole.written number before types text m ts given ready.constants old led once none asked fine k r behind is

      table : AreReady e.types
      table = record {
        basic = basics;
        closed = whole.closed number before types text m ts given ready.constants old led once none;
        sound = record {
          none_contains_itself = whole.free number before types text m ts given ready.constants old led once none asked fine;
          bases = λ t b is. (base_fits e.types parts t b is).0;
          record_bases = λ t b is. (base_fits e.types parts t b is).1;
          sizes = whole.sizes number before types text m ts given ready.constants old led once none asked fine;
        };
        parts = parts;
        written = written;
        opens = headed.fit.agrees.opens;
      }

      -- The module's own scope.

      own_variables : variables_at e.here.scopes 0 ≡ Some headed.variables
      own_variables =
          let s = entries.own_scope text before numbers m in
          let bare = (scope_fresh text before numbers m 0 s refl).1 in
          headed.own ∙ ap (λ vs. Some (vs ++ headed.variables)) bare

      own_there : (s : Scope) × (slice_get e.here.scopes 0 ≡ Some s) × (s.variables ≡ headed.variables)
      own_there = mapped_at variables_of (slice_get e.here.scopes 0) headed.variables own_variables

      own_entries : own_there.0.entries ≡ (entries.own_scope text before numbers m).entries
      own_entries = same_Some own_there.0.entries (entries.own_scope text before numbers m).entries (ap (option_map (λ (s : Scope). s.entries)) (sym own_there.1) ∙ headed.fit.names_are 0)

      abbrev walked : Telling
      walked = whole.second_walk number before types text m ts given ready.constants old led once none asked fine

      all_names : (k : ℕ) (s : Scope) (w : List ℕ) (x : Entry) (of : Option TypeId) → slice_get e.here.scopes k ≡ Some s → find s w ≡ Some x →
          x.means ≡ means.Type of → IsKnown e.types of
      all_names k s w x of there found means =
          let r = scope_at (entries.scopes text before numbers m) k s.entries (sym (headed.fit.names_are k) ∙ ap (option_map (λ (s : Scope). s.entries)) there) in
          known_on (types ++ first_rows (length types) ts) e.types headed.goes.on of
          (walked.own k r.0 w x of r.1 (ap (λ ns. find (record r.0 { entries = ns }) w) r.2 ∙ found) means)

      in_objects : (t : TypeId) (o : ObjectScope) → object_of e.here t ≡ Some o → lookup (λ k. nat_eq t.0 k) (entries.objects_of number numbers m.decls) ≡ Some o
      in_objects t o at = ap (lookup (λ k. nat_eq t.0 k)) (sym headed.fit.objects_is) ∙ at

      objects_there : (t : TypeId) (o : ObjectScope) → object_of e.here t ≡ Some o → (o.home ≡ number) × (o.scope < e.here.first)
      objects_there t o at =
          let there = in_objects t o at in
          let low = (walked.places t o there).1 in
          let first = headed.fit.first_is in
          (walked.homes t o there, omega (arith, low, first))

      -- the slots of methods are those that the environment behind all headings tells
      slots_there : e.here.slots ≡ map (definition_slots e) (type_defs m.decls)
      slots_there =
          let g = headed.before_slots in
          let ds = type_defs m.decls in
          ap (λ (e : Env). e.here.slots) headed.slots
          ∙ sym (ap (λ (e : Env). map (definition_slots e) ds) headed.slots ∙ all_same g (map (definition_slots g) ds) ds)

      -- fields of record and object types

      same_fields : (a b : Option TypeId) (ts us : List TypeId) → row.Object a ts ≡ row.Object b us → ts ≡ us
      same_fields a b ts us e = cc

      object_variables : (t : TypeId) (s : Scope) → scope_of e.here (object_of e.here t) ≡ Some s → (base : Option TypeId) (us : List TypeId) →
          slice_get e.types t.0 ≡ Some (row.Object base us) → s.variables ≡ map (λ (t : TypeId). Some t) us
      object_variables t s there base us is = by (object_of e.here t) refl there
        where
          by : (o : Option ObjectScope) → object_of e.here t ≡ o → scope_of e.here o ≡ Some s → s.variables ≡ map (λ (t : TypeId). Some t) us
          by None at found = absurd (none-some s found)
          by (Some o) at found =
              let x = whole.object_row number before types text m ts given ready.constants old led once none asked fine t o (in_objects t o at) in
              same_Some s.variables (map (λ (t : TypeId). Some t) x.own) (sym (ap (option_map variables_of) found) ∙ x.variables)
              ∙ ap (map (λ (t : TypeId). Some t)) (same_fields x.base base x.own us (same_Some (row.Object x.base x.own) (row.Object base us) (sym x.is ∙ is)))

      -- by the row of the type
      abbrev IsOfRow : TypeId → Scope → Type 0
      IsOfRow t s = (t.0 < length e.types) × ((base : Option TypeId) (us : List TypeId) → HasFields e.types t base us → s.variables ≡ map (λ (t : TypeId). Some t) us)

      as_record : (t : TypeId) (s : Scope) (o : Option TypeRow) → row_of e.types t ≡ o → is_object o ≡ false → record_fields e.here t ≡ Some s → IsOfRow t s
      as_record t s o is plain found = ((headed.fit.agrees.fields t s found).0, either)
        where
          either : (base : Option TypeId) (us : List TypeId) → HasFields e.types t base us → s.variables ≡ map (λ (t : TypeId). Some t) us
          either base us (inl there) = (headed.fit.agrees.fields t s found).1 base us there
          either base us (inr there) = let x : is_object (Some (row.Object base us)) ≡ false = ap is_object (sym there ∙ is) ∙ plain in absurd (cc)

      as_object : (t : TypeId) (s : Scope) (r : TypeRow) → row_of e.types t ≡ Some r → is_object (Some r) ≡ true → scope_of e.here (object_of e.here t) ≡ Some s → IsOfRow t s
      as_object t s r is object found = (slice_get_within e.types t.0 r is, either)
        where
          either : (base : Option TypeId) (us : List TypeId) → HasFields e.types t base us → s.variables ≡ map (λ (t : TypeId). Some t) us
          either base us (inl there) = let x : is_object (Some (row.Record base us)) ≡ true = ap is_object (sym there ∙ is) ∙ object in absurd (cc)
          either base us (inr there) = object_variables t s found base us there

      by_row : (t : TypeId) (s : Scope) (o : Option TypeRow) → row_of e.types t ≡ o → fields_of (is_object o) e.here t ≡ Some s → IsOfRow t s
      by_row t s None is found = as_record t s None is refl found
      by_row t s (Some (row.Object b fs)) is found = as_object t s (row.Object b fs) is refl found
      by_row t s (Some (row.Basic b)) is found = as_record t s (Some (row.Basic b)) is refl found
      by_row t s (Some (row.Array n u)) is found = as_record t s (Some (row.Array n u)) is refl found
      by_row t s (Some (row.Open u)) is found = as_record t s (Some (row.Open u)) is refl found
      by_row t s (Some (row.Record b fs)) is found = as_record t s (Some (row.Record b fs)) is refl found
      by_row t s (Some (row.Pointer u)) is found = as_record t s (Some (row.Pointer u)) is refl found
      by_row t s (Some (row.Procedure fs r)) is found = as_record t s (Some (row.Procedure fs r)) is refl found
      by_row t s (Some row.Any) is found = as_record t s (Some row.Any) is refl found

      fields_agree : FieldsAgree e.types e.here
      fields_agree t s = by_row t s (row_of e.types t) refl

      -- object types that are defined

      module _ (j : ℕ) (d : TypeDef) (is : slice_get (type_defs m.decls) j ≡ Some d) (object : IsObject d.value) where
        abbrev t : TypeId
        t = record { 0 = length types + j }

        all_is : slice_get (all_type_defs m.decls) j ≡ Some d
        all_is = own_first number before types text m ts given ready.constants old.ten led j d is

        no_name : is_name d.value ≡ false
        no_name = object_no_name number before types text m ts given ready.constants old.ten led d.value object

        abbrev all_end : (t : TypeId) → IsProper (length types) ts (follow (length types) ts (length ts) t)
        all_end = whole.all_end number before types text m ts given ready.constants old led once none asked fine

        number_is : number_at numbers j ≡ Some t
        number_is = own_stands number before types text m ts given ready.constants old.ten led all_end j d all_is no_name

        type_is : defined_type e d ≡ Some t
        type_is =
            let x = own_found text before numbers m once j d is in
            let found = ap (λ ns. find (record own_there.0 { entries = ns }) (word text d.def.name)) own_entries ∙ x.1 in
            slot_found e (env.own number) [] headed.fit.path_is (sym headed.fit.number_is) own_there.0 own_there.1 d.def.name x.0
            (ap (λ text. find own_there.0 (word text d.def.name)) headed.fit.text_is ∙ found)
            ∙ ap slot_meant x.2 ∙ number_is

        scope_is : (o : ObjectScope) × (lookup (λ k. nat_eq t.0 k) (entries.objects_of number numbers m.decls) ≡ Some o)
        scope_is = own_all number numbers m j d t is object number_is

        row_is : IsObjectRow (fields_at (type_defs m.decls)) e.types e.here.scopes t scope_is.0
        row_is = whole.object_row number before types text m ts given ready.constants old led once none asked fine t scope_is.0 scope_is.1

        place_is : scope_is.0.scope ≡ suc j
        place_is =
            let x = object_number number before types text m ts given ready.constants old.ten led t scope_is.0 scope_is.1 in
            x.scope ∙ ap suc (sym x.same ∙ same_place number before types text m ts given ready.constants old.ten led t x.one.place j x.one.equal refl)

        defined : (defined_type e d ≡ Some t) × (slice_get numbers j ≡ Some (Some t)) × (is_object (row_of e.types t) ≡ true)
        defined = (type_is, number_there number before types text m ts given ready.constants old.ten led all_end j d all_is no_name, ap is_object row_is.is)

        object_fields : (s : Scope) → slice_get e.here.scopes (suc j) ≡ Some s → length s.variables ≡ length (single_variables (inner_decls d.value))
        object_fields s there =
            let vs = same_Some s.variables (map (λ (t : TypeId). Some t) row_is.own)
            (sym (ap (option_map variables_of) (ap (slice_get e.here.scopes) place_is ∙ there)) ∙ row_is.variables) in
            ap length vs ∙ length-map row_is.own (λ (t : TypeId). Some t) ∙ row_is.count ∙ ap (fields_at (type_defs m.decls)) place_is ∙ fields_are (type_defs m.decls) j d is

      own_few : sum_by (variable_cells e.types) own_there.0.variables ≤ MOST_SCALARS
      own_few =
          let flags = circles e.types in
          let ds = single_variables m.decls in
          let kept = variables_kept flags e.types e (length types) m.decls (whole.kept_whole number before types text m ts given ready.constants old led once none asked fine) in
          few_from flags e.types table.sound.sizes (told_closed e.types basics) ds own_there.0.variables 0 (sum_by (limits.scalars_of flags e.types) e.before)
          (ap length own_there.2 ∙ headed.count) (subst (Each (IsKnown e.types)) (sym own_there.2) headed.known) (omega arith) (omega arith)
          (ap (λ o. limits.variables_past flags e.types (sum_by (limits.scalars_of flags e.types) e.before) (zip ds (limits.variables_of flags e.types o))) (sym own_there.1) ∙ kept)

      -- with those of the modules before
      all_few : let so_far = sum_by (limits.scalars_of (circles e.types) e.types) e.before in
          so_far ≤ MOST_SCALARS → so_far + sum_by (variable_cells e.types) own_there.0.variables ≤ MOST_SCALARS
      all_few small =
          let flags = circles e.types in
          let ds = single_variables m.decls in
          let so_far = sum_by (limits.scalars_of flags e.types) e.before in
          let kept = variables_kept flags e.types e (length types) m.decls (whole.kept_whole number before types text m ts given ready.constants old led once none asked fine) in
          subst (λ n. n ≤ MOST_SCALARS) (sum_by_from (variable_cells e.types) so_far own_there.0.variables)
          (few_from flags e.types table.sound.sizes (told_closed e.types basics) ds own_there.0.variables so_far so_far (ap length own_there.2 ∙ headed.count)
          (subst (Each (IsKnown e.types)) (sym own_there.2) headed.known) small (omega arith)
          (ap (λ o. limits.variables_past flags e.types so_far (zip ds (limits.variables_of flags e.types o))) (sym own_there.1) ∙ kept))

      goes_on : GoOn types e.types
      goes_on t told = headed.goes.on t (told_behind types (first_rows (length types) ts) t told)

      -- Procedures.

      e_ten : 10 ≤ length e.types
      e_ten = let l = old.ten in omega (arith, l, long)

      is_there : (of : Option TypeId) → MayBeOpen number before types text m ts given ready.constants old.ten led e.types of → IsThere e.types of
      is_there None may = may
      is_there (Some t) (inl (inl low)) = (omega (arith, low, e_ten), inl low)
      is_there (Some t) (inl (inr any)) = (omega (arith, any, e_ten), inr (inl any))
      is_there (Some t) (inr r) = (r.1, inr (inr r.0))

      result_of_some : (formals : Option Formals) (r : HasResult formals) → limits.result_of (circles e.types) e.types formals ≡ Some r.name
      result_of_some formals r = ap (limits.result_of (circles e.types) e.types) r.is ∙ r.result

      result_is : (j : ℕ) (p : Procedure) (s : Signature) → slice_get (all_procedures m.decls) j ≡ Some p → slice_get e.here.signatures j ≡ Some s →
          (of : Option TypeId) → s.gives ≡ gives.Value of → IsKnown e.types of → HasResult p.formals → IsResult e.types of
      result_is j p s is there None value known r = absurd known
      result_is j p s is there (Some t) value told r =
          let l = told_below e.types e_ten t told in
          let right = result_kept (circles e.types) e.types e (length types) m.decls
          (whole.kept_whole number before types text m ts given ready.constants old led once none asked fine) j p s is there in
          let rule : limits.result_breaches (circles e.types) e.types (Some r.name) (gives.Value (Some t)) ≡ [] =
          (λ i. limits.result_breaches (circles e.types) e.types (sym (result_of_some p.formals r) i) (sym value i)) ∙ right in
          record {
            type = t;
            is = refl;
            told = told;
            scalar = result_scalar (circles e.types) e.types basics r.name.first.pos t told
                (whole.not_circular number before types text m ts given ready.constants old led once none asked fine t l) (table.sound.sizes t) rule;
          }

      module _ (j : ℕ) (p : Procedure) (is : slice_get (all_procedures m.decls) j ≡ Some p) where
        abbrev place : ℕ
        place = suc (length (type_defs m.decls)) + j

        made : HasMade (whole.second_walk number before types text m ts given ready.constants old led once none asked fine)
            (whole.path number before types text m ts given ready.constants old led once)
            (whole.second_searched number before types text m ts given ready.constants old led once none asked fine) (suc (length (type_defs m.decls))) start e j p
        made = headed.made j p is

        all_variables : List (Option TypeId)
        all_variables = types_of made.signature.parameters ++ made.locals

        signature_there : slice_get e.here.signatures j ≡ Some made.signature
        signature_there = ap (slice_get e.here.signatures) (let same : j ≡ 0 + j = omega arith in same) ∙ made.signature_is

        scope_there : (s : Scope) × (slice_get e.here.scopes place ≡ Some s) × (s.variables ≡ types_of made.signature.parameters ++ made.locals)
        scope_there =
            let first = procedure_there text before numbers m j p is in
            let bare = (scope_fresh text before numbers m place first.0 first.1).1 in
            mapped_at variables_of (slice_get e.here.scopes place) (types_of made.signature.parameters ++ made.locals)
            (made.own ∙ ap (λ o. option_map (λ vs. vs ++ (types_of made.signature.parameters ++ made.locals)) (option_map variables_of o)) first.1
            ∙ ap (λ vs. Some (vs ++ (types_of made.signature.parameters ++ made.locals))) bare)

        names_long : length (types_of made.signature.parameters) ≡ length (formal_names p.formals)
        names_long = length-map made.signature.parameters (λ (a : Parameter). a.of) ∙ made.count

        heading : IsHeading e.types p made.signature scope_there.0
        heading =
            let ps = types_of made.signature.parameters in
            let all = made.all in
            record {
              mark = made.mark;
              proper = made.proper;
              parameters = implied (λ (a : Parameter). MayBeOpen number before types text m ts given ready.constants old.ten led e.types a.of) (λ (a : Parameter). IsThere e.types a.of)
                  (λ a there. is_there a.of there) made.signature.parameters made.there;
              few = made.count;
              first = (λ i. take (sym names_long i) (scope_there.2 i)) ∙ take-append_seam ps made.locals;
              locals = subst (Each (IsKnown e.types)) (sym ((λ i. drop (sym names_long i) (scope_there.2 i)) ∙ drop-append_seam ps made.locals)) made.known;
              count = ap length scope_there.2 ∙ length-append ps made.locals ∙ (λ i. names_long i + all i);
              result = λ of value. (let r = made.result of value in result_is j p made.signature is signature_there of value r.0 r.1);
            }

        has_heading : HasHeading m e j p
        has_heading = record {
          signature = made.signature;
          scope = scope_there.0;
          signature_is = signature_there;
          scope_is = scope_there.1;
          heading = heading;
        }

      declared : IsDeclared number before types text m e
      declared = record {
        number_is = headed.fit.number_is;
        before_is = headed.fit.before_is;
        path_is = headed.fit.path_is;
        narrowed_is = headed.fit.narrowed_is;
        text_is = headed.fit.text_is;
        first_is = headed.fit.first_is;
        name_is = headed.fit.name_is;
        own = own_there.0;
        own_is = own_there.1;
        numbers = numbers;
        entries_are = own_entries;
        all_entries_are = headed.fit.names_are;
        names = all_names;
        objects_are = headed.fit.objects_is;
        objects = objects_there;
        self_is = ap (λ (e : Env). e.self_type) headed.slots;
        overrides = headed.overrides;
        slots_are = slots_there;
        defined = defined;
        object_fields = λ j d s is object there. object_fields j d is object s there;
        variables = subst (Each (IsKnown e.types)) (sym own_there.2) headed.known;
        few = own_few;
        few_all = all_few;
        fields = fields_agree;
        count = ap length own_there.2 ∙ headed.count;
        constants = headed.fit.good;
        goes_on = goes_on;
        stays = stays;
        long = long;
        table = table;
        signatures = headed.signatures ∙ (let same : 0 + length (all_procedures m.decls) ≡ length (all_procedures m.decls) = omega arith in same);
        procedures = has_heading;
        initials = headings_once start m none;
      }

      declared_cut : IsDeclared number before types text m (record e { types = cut (circles based) based })
      declared_cut =
          subst (λ rows. IsDeclared number before types text m (record e { types = rows })) (sym (whole.cut_is number before types text m ts given ready.constants old led once none asked fine)) declared

-- What is declared where names are declared once and no rule is broken.
pub declare_sound : (number : ℕ) (before : List Home) (types : List TypeRow) (text : List ℕ) (m : Module) → length before ≡ number → IsReady before types →
    name_breaches text m ≡ [] → Holds (IsDeclared number before types text m) (declare number before types text m)
declare_sound number before types text m here ready once none =
    let own = own_numbers (length types) (length (all_type_defs m.decls)) in
    let j = targets (entered number before types text m own) m.decls in
    let ts = j.answer in
    let begin = begun number before types text m in
    let e = headings begin.answer m.decls in
    let f = limits.limits e.answer (length types) m.decls in
    let based = limits.with_bases e.answer in
    let claims = flat_map (limits.claim_breaches e.answer) e.answer.claims in
    let judged = limits.all_breaches (circles based.types) (cut (circles based.types) based.types) based (length types) m.decls in
    let behind = none_right begin.breaches (e.breaches ++ f.breaches) none in
    let given : IsGiven number before types = record {
      here = here;
      named = ready.names;
      objects = ready.objects;
    } in
    let led = targets_sound number before types text m given (none_left j.breaches [] (none_left begin.breaches (e.breaches ++ f.breaches) none)) in
    let limited = none_right e.breaches f.breaches behind in
    declared_cut number before types text m ready given ts led once (none_left e.breaches f.breaches behind) (none_left claims judged limited) (none_right claims judged limited)
