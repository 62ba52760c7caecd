-- Designators that break no rule: variables of their types, and sound values.
use Rattle.std.proofs.Common.{◌≡◌, ℕ, suc, ◌==◌, List, [], ◌∷◌, length, Bool, true, false, ◌&&◌, ◌||◌, ◌⊎◌, inl, inr, not, Option, Some, None, is_some, slice_get, option_and_then, fold, if◌then◌else◌, refl, sym, ap, ap₂, ◌∙◌, subst, eqb-true, eq-eqb, lt-ltb, le-ltb, arith}
use Rattle.std.proofs.lemmas.Option.{none-some, same_Some, option_and_then_some}
use Rattle.std.proofs.lemmas.Bool.{and_parts}
use Rattle.aos_base.specs.declared.number.Width.TheVariants.{W64}
use Rattle.aos_base.specs.declared.text.Pos.{Pos}
use Rattle.aos_tree.specs.declared.name.Name.{Name}
use Rattle.aos_tree.specs.declared.decl.Export.{Export}
use Rattle.aos_tree.specs.declared.decl.Export.TheVariants.{ReadWrite, ReadOnly as OnlyRead}
use Rattle.aos_types.specs.declared.row.TypeId.{TypeId}
use Rattle.aos_types.specs.declared.row.TypeRow.{TypeRow}
use Rattle.aos_types.specs.declared.row.TypeRow.TheVariants as row
use Rattle.aos_types.specs.Table.{row_of, is_open, is_record, is_object}
use Rattle.aos_typed.specs.declared.tree.Literal.{Literal}
use Rattle.aos_typed.specs.declared.tree.Literal.TheVariants as literal
use Rattle.aos_typed.specs.Numbers.{id_of}
use Rattle.aos_typed.specs.Open.{open_dimensions, open_element}
use Rattle.aos_typed.specs.declared.tree.TType.{TType}
use Rattle.aos_typed.specs.declared.tree.TType.TheVariants as type
use Rattle.aos_typed.specs.Program.{Place, ModuleVar, Of, Index, Deref, Guarded, Row, Expr, Read, Guard, Callee, Plain, Dispatched, Upper, Through, ProcedureOf, MethodOf, Procedure}
use Rattle.aos_typed.specs.Program.{Field as FieldOf}
use Rattle.aos_typed.specs.WellTyped.{IsProcedural, field_type, is_reference as is_reference_type}
use Rattle.aos_symbols.specs.declared.scope.Entry.{Entry}
use Rattle.aos_symbols.specs.declared.scope.Constant.{Constant as Declared}
use Rattle.aos_symbols.specs.declared.scope.Meaning.{Meaning}
use Rattle.aos_symbols.specs.declared.scope.Meaning.TheVariants as means
use Rattle.aos_symbols.specs.declared.env.Open.{Open}
use Rattle.aos_symbols.specs.declared.env.Symbol.{Symbol}
use Rattle.aos_members.specs.declared.fields.Field.{Field}
use Rattle.aos_symbols.specs.declared.env.Narrowed.{Narrowed}
use Rattle.aos_symbols.specs.declared.env.Lookup.{Lookup}
use Rattle.aos_symbols.specs.declared.env.Lookup.TheVariants.{Unknown as NoName, NotExported, Found}
use Rattle.aos_symbols.specs.declared.env.Env.{Env}
use Rattle.aos_symbols.specs.Judged.{Judged, kept}
use Rattle.aos_symbols.specs.Spelling.{word, is_among, procedures_of_out}
use Rattle.aos_symbols.specs.Scope.{Scope, find}
use Rattle.aos_members.specs.Members as members
use Rattle.aos_symbols.specs.Env as env
use Rattle.aos_symbols.specs.Env.{nil, text}
use Rattle.aos_types.specs.declared.signature.Signature.{Signature}
use Rattle.aos_symbols.proofs.Each.{each_at}
use Rattle.aos_symbols.proofs.Holds.{Holds, holds_bind, broken}
use Rattle.aos_symbols.proofs.Lookups.{IsPredeclared, itself, IsOfAll, lookup_is, member_is}
use Rattle.aos_symbols.proofs.Told.{IsTold, basic as basic_told, of_any, defined}
use Rattle.aos_known.proofs.Inside.{Inside, IsPlaceOf, AreRows, IsOf, IsNamed}
use Rattle.aos_known.specs.declared.known.Class.{Class}
use Rattle.aos_known.specs.declared.known.Class.TheVariants.{Unknown, Constant, Variable, ReadOnly, Computed, Procedure as ClassOf}
use Rattle.aos_known.specs.declared.known.Known.{Known}
use Rattle.aos_known.specs.Known.{Answer, Entity, Held, Stands, Value, is_basic, is_number, is_lost, object_number, value_class, type_as, type_of, read_from, known_as, entity_of, answered, constant_answer, nothing}
use Rattle.aos_known.proofs.Types.{includes_itself, as_basic, id_as}
use Rattle.aos_operators.proofs.Stored.{IsStored, not_stored}
use Rattle.aos_operators.proofs.Good.{IsGood, HasGood, IsKnownClass}
use Rattle.aos_operators.proofs.Sound.{not_both, IsScalar, IsClosedPlace, IsOpenPlace, IsWholeRead, IsOther, IsObject, IsSound, IsPlain, plain_sound, sound_number}
use Rattle.aos_designators.specs.declared.designators.Head.{Head}
use Rattle.aos_bound.specs.declared.methods.Heading.TheVariants as heading
use Rattle.aos_designators.specs.Designators as desig
use Rattle.aos_bound.specs.Methods.{Bound}
use Rattle.aos_check_expr.specs.Expressions as judge
use Rattle.aos_check_expr.proofs.Whole.{many_types}
pub use Rattle.aos_check_expr.proofs.Whole.{IsTyped, closed, opened, GoodConstants, IsParameterType, AreParameters, IsResultOf, IsSigned, IsFieldScope, IsSearched, has_fields, AreOpensTold, parameter_type, opens_told, told_element, IsWhole, NarrowsWell, text_row, no_array, array_open, no_open, opened_row, told_closed, row_opened, elements_told, elements_id}
use Rattle.aos_check_expr.proofs.Called.{IsCalling, IsBound, if_some, through_calling}
use Rattle.aos_check_expr.proofs.Objects.{basic_value, sound_object, of_own_type, parts_no_reference, record_no_reference, routine_no_parts, IsPartsRow}
use Rattle.aos_check_expr.proofs.Selves.{object_made, self_object, object_field_typed, self_field, object_refers, object_type_row}
use Rattle.aos_check_expr.proofs.Pointed.{no_extension, pointed_kind, followed_typed, guard_object, guard_record}
use Rattle.aos_check_expr.proofs.Naming.{IsNaming, naming_made, naming_stored}
use Rattle.aos_check_expr.proofs.Callable.{told_no_nil, procedural_row, callable_own}
use Rattle.aos_check_expr.proofs.Opens.{closed_dimensions, closed_element, next_dimensions, next_element}
use Rattle.aos_check_expr.proofs.Parts.{IsPart, IsValue, constant_part}

-- a designator is a variable of its type, or a sound value
abbrev IsSoundHeld : Inside → Env → Known → Held → Type 0
IsSoundHeld p e k (Stands place) = IsTyped p e place k.of
IsSoundHeld p e k (Value x) = IsPlain p (record { known = k; typed = x }) × IsNaming p e k.class x

abbrev pub IsSoundEntity : Inside → Env → Entity → Type 0
IsSoundEntity p e a = IsSoundHeld p e a.known a.held

-- a variable may be written, or read alone; a value is neither
abbrev pub IsStoredHeld : Held → Class → Type 0
IsStoredHeld (Stands place) c = IsStored c
IsStoredHeld (Value x) c = IsStored c → ⊥

-- a designator as a part of an expression
pub record IsEntity (p : Inside) (e : Env) (a : Entity) : Type 0 where
  pub class : IsKnownClass IsGood a.known.class
  pub valued : not (is_lost a.known.class) ≡ true
  pub stored : IsStoredHeld a.held a.known.class
  pub sound : IsWhole p e → IsSoundEntity p e a

-- what is predeclared is no variable
no_variable : (m : Meaning) → IsPredeclared m → (k : ℕ) → m ≡ means.Variable k → ⊥
no_variable m itself k e = cc
no_variable m x k e = cc

-- and no procedure of a module
no_procedure : (m : Meaning) → IsPredeclared m → (k : ℕ) → m ≡ means.Procedure k → ⊥
no_procedure m itself k e = cc
no_procedure m x k e = cc

found_same : (a b : Symbol) → Found a ≡ Found b → a ≡ b
found_same a b e = cc

access_stored : (here : Bool) (mark : Option Export) → IsStored (desig.access here mark)
access_stored here None = tt
access_stored here (Some ReadWrite) = tt
access_stored true (Some OnlyRead) = tt
access_stored false (Some OnlyRead) = tt

-- The classes of parts.

class_as : (P : Class → Type 0) (c : Class) (of : Option TypeId) → P c → P (known_as c of).class
class_as P (Constant (Some v)) of h = h
class_as P (Constant None) of h = h
class_as P Unknown of h = h
class_as P Variable of h = h
class_as P ReadOnly of h = h
class_as P Computed of h = h
class_as P (ClassOf m n) of h = h

part_known : (may : Bool) (c : Class) → IsKnownClass IsGood c → IsKnownClass IsGood (desig.part_class may c)
part_known true Variable h = tt
part_known false Variable h = tt
part_known may (Constant v) h = h
part_known may Unknown h = h
part_known may ReadOnly h = h
part_known may Computed h = h
part_known may (ClassOf m n) h = h

part_valued : (may : Bool) (c : Class) → not (is_lost c) ≡ true → not (is_lost (desig.part_class may c)) ≡ true
part_valued true Variable h = refl
part_valued false Variable h = refl
part_valued may (Constant v) h = h
part_valued may Unknown h = h
part_valued may ReadOnly h = h
part_valued may Computed h = h
part_valued may (ClassOf m n) h = h

part_stored : (may : Bool) (c : Class) (part : Place → Place) (h : Held) → IsStoredHeld h c → IsStoredHeld (desig.part_held part h) (desig.part_class may c)
part_stored may c part (Stands place) s = by may c s
  where
    by : (may : Bool) (c : Class) → IsStored c → IsStored (desig.part_class may c)
    by true Variable s = tt
    by false Variable s = tt
    by may ReadOnly s = tt
    by may (Constant v) s = absurd s
    by may Unknown s = absurd s
    by may Computed s = absurd s
    by may (ClassOf m n) s = absurd s
part_stored may c part (Value x) s = by may c s
  where
    by : (may : Bool) (c : Class) → (IsStored c → ⊥) → IsStored (desig.part_class may c) → ⊥
    by may Variable s = absurd (s tt)
    by may (Constant v) s = s
    by may Unknown s = s
    by may ReadOnly s = s
    by may Computed s = s
    by may (ClassOf m n) s = s

module _ (p : Inside) (e : Env) where
  abbrev pub Part : Answer → Type 0
  Part = IsPart p e

  abbrev pub Valued : Answer → Type 0
  Valued = IsValue p e

  -- What is found of a name.

  abbrev IsVariable : Symbol → Type 0
  IsVariable x = (k : ℕ) → x.means ≡ means.Variable k → IsTyped p e (desig.place_of_variable e x k) (env.variable_type e x.at k)

  -- a procedure that the scope of a module names is that of its signature
  abbrev pub IsProcedure : Symbol → Type 0
  IsProcedure x = (k : ℕ) → x.means ≡ means.Procedure k → desig.is_of_module x ≡ true → IsCalling p e (Plain x.at.home k) (heading.Declared x.at.home k)

  abbrev pub IsSeen : Symbol → Type 0
  IsSeen x = IsVariable x × IsProcedure x

  abbrev pub MayFind : Lookup → Type 0
  MayFind l = IsWhole p e → (x : Symbol) → l ≡ Found x → IsSeen x

  all_seen : IsWhole p e → IsOfAll e (IsSearched e) IsSeen
  all_seen whole = record {
    entries = λ o s w x searched there is. (λ k means. variable o s w x k searched there is means, λ k means own. procedure o s w x k own there is means);
    others = λ m is. (λ k means. absurd (no_variable m is k means), λ k means own. absurd (no_procedure m is k means));
  }
    where
      procedure : (o : Open) (s : Scope) (w : List ℕ) (x : Entry) (k : ℕ) → (o.scope == 0) ≡ true → env.scope e o ≡ Some s → find s w ≡ Some x → x.means ≡ means.Procedure k →
          IsCalling p e (Plain o.home k) (heading.Declared o.home k)
      procedure o s w x k own there is means =
          let here : o ≡ env.own o.home = ap (λ (i : ℕ). record { home = o.home; scope = i }) (eqb-true o.scope 0 own) in
          whole.signatures o.home k s w x (subst (λ (o : Open). env.scope e o ≡ Some s) here there) is means

      own_variable : (o : Open) (s : Scope) (w : List ℕ) (x : Entry) (k : ℕ) → desig.is_own_scope e o ≡ true → env.scope e o ≡ Some s → find s w ≡ Some x → x.means ≡ means.Variable k →
          IsTyped p e (desig.own_place e k) (env.variable_type e o k)
      own_variable o s w x k at there is means =
          let two = and_parts (o.home == e.number && o.scope == env.innermost e.path) (is_some (env.own_signature e)) at in
          let places = and_parts (o.home == e.number) (o.scope == env.innermost e.path) two.0 in
          let here : o ≡ record { home = e.number; scope = env.innermost e.path } =
          ap₂ (λ (h i : ℕ). record { home = h; scope = i }) (eqb-true o.home e.number places.0) (eqb-true o.scope (env.innermost e.path) places.1) in
          subst (λ (o : Open). IsTyped p e (desig.own_place e k) (env.variable_type e o k)) (sym here)
          (whole.locals s w x k two.1 (subst (λ (o : Open). env.scope e o ≡ Some s) here there) is means)

      variable : (o : Open) (s : Scope) (w : List ℕ) (x : Entry) (k : ℕ) → IsSearched e o → env.scope e o ≡ Some s → find s w ≡ Some x → x.means ≡ means.Variable k →
          IsTyped p e (desig.place_of_variable e (env.declared_at o x) k) (env.variable_type e o k)
      variable o s w x k searched there is means = by (o.scope == 0) refl (desig.is_own_scope e o) refl searched
        where
          Typed : Bool → Bool → Type 0
          Typed b c = IsTyped p e (if b then ModuleVar o.home k else if c then desig.own_place e k else desig.inner_place e o k) (env.variable_type e o k)

          by : (b : Bool) → (o.scope == 0) ≡ b → (c : Bool) → desig.is_own_scope e o ≡ c → IsSearched e o → Typed b c
          by true z c own searched = whole.variables o s w x k (eqb-true o.scope 0 z) there is means
          by false z true own searched = own_variable o s w x k own there is means
          by false z false own (inl none) = absurd (not_both (sym (eq-eqb o.scope 0 none) ∙ z))
          by false z false own (inr (inl same)) = absurd (not_both (sym same ∙ own))
          by false z false own (inr (inr field)) = self_field p e whole o s w x k field there is means

  none_found : MayFind NoName
  none_found whole x is = absurd (cc)

  pub plain_head : (n : Name) → MayFind (desig.plain e n).found
  plain_head n whole = lookup_is e (IsSearched e) IsSeen (all_seen whole) whole.path n

  of_out : (n : Name) → MayFind (desig.member_of_out e n)
  of_out n = by (is_among procedures_of_out (word e.here.text n))
    where
      proper : (x : Symbol) → Found (record { at = env.own e.number; mark = None; means = means.Proper }) ≡ Found x → (k : ℕ) → x.means ≡ means.Variable k → ⊥
      proper x is k m = cc

      no_own : (x : Symbol) → Found (record { at = env.own e.number; mark = None; means = means.Proper }) ≡ Found x → (k : ℕ) → x.means ≡ means.Procedure k → ⊥
      no_own x is k m = cc

      by : (b : Bool) → MayFind (if b then Found (record { at = env.own e.number; mark = None; means = means.Proper }) else NoName)
      by true = λ whole x is. (λ k m. absurd (proper x is k m), λ k m own. absurd (no_own x is k m))
      by false = none_found

  of_meaning : (m : Meaning) (n : Name) → MayFind (desig.member_of e m n)
  of_meaning (means.Module m) n = λ whole. member_is e (IsSearched e) IsSeen (all_seen whole) m (inl refl) n
  of_meaning means.Out n = of_out n
  of_meaning m n = none_found

  pub behind_head : (l : Lookup) (n : Name) → MayFind (desig.member_in e l n)
  behind_head NoName n = none_found
  behind_head NotExported n = λ whole x is. absurd (cc)
  behind_head (Found x) n = of_meaning x.means n

  -- what is found behind a module's name is in the scope of a module
  abbrev IsOfModule : Lookup → Type 0
  IsOfModule l = (x : Symbol) → l ≡ Found x → desig.is_of_module x ≡ true

  all_of_modules : IsOfAll e (λ o. (o.scope == 0) ≡ true) (λ x. desig.is_of_module x ≡ true)
  all_of_modules = record { entries = λ o s w x own there is. own; others = λ m is. refl }

  none_of_module : IsOfModule NoName
  none_of_module x is = absurd (cc)

  out_of_module : (b : Bool) → IsOfModule (if b then Found (record { at = env.own e.number; mark = None; means = means.Proper }) else NoName)
  out_of_module true x is = subst (λ y. desig.is_of_module y ≡ true) (found_same (record { at = env.own e.number; mark = None; means = means.Proper }) x is) refl
  out_of_module false x is = none_of_module x is

  pub behind_of_module : (l : Lookup) (n : Name) → IsOfModule (desig.member_in e l n)
  behind_of_module NoName n = none_of_module
  behind_of_module NotExported n = λ x is. absurd (cc)
  behind_of_module (Found y) n = by y.means
    where
      by : (m : Meaning) → IsOfModule (desig.member_of e m n)
      by (means.Module m) = member_is e (λ o. (o.scope == 0) ≡ true) (λ x. desig.is_of_module x ≡ true) all_of_modules m refl n
      by means.Out = out_of_module (is_among procedures_of_out (word e.here.text n))
      by m = none_of_module

  -- Values.

  pub refused_part : (rule : ℕ) (at : Pos) → Holds Valued (desig.refused rule at)
  refused_part rule at = broken Valued _ [] _

  pub refused_variable_part : (rule : ℕ) (at : Pos) → Holds Valued (desig.refused_variable rule at)
  refused_variable_part rule at = broken Valued _ [] _

  pub refused_value_part : (rule : ℕ) (at : Pos) → Holds Valued (desig.refused_value rule at)
  refused_value_part rule at = broken Valued _ [] _

  value_part : (later : Bool) (v : Option Literal) → HasGood v → (at : Pos) → Holds Valued (desig.constant_of (if later then None else Some v) at)
  value_part true v h at = broken Valued _ [] _
  value_part false None h at = absurd (none-some h.0 h.1)
  value_part false (Some v) h at = λ none. constant_part p e v (subst IsGood (sym (same_Some v h.0 h.1)) h.2)

  constant_there : GoodConstants e → (o : Open) (k : ℕ) (here at : Pos) → Holds Valued (desig.constant_of (env.constant e o k here) at)
  constant_there good o k here at = by (option_and_then (λ s. slice_get s.constants k) (env.scope e o)) refl
    where
      by : (c : Option Declared) → option_and_then (λ s. slice_get s.constants k) (env.scope e o) ≡ c → Holds Valued (desig.constant_of (env.constant e o k here) at)
      by None q = rw q (broken Valued (record { rule = 20; pos = at }) [] (answered (Constant None) None nothing))
      by (Some c) q =
          rw q (value_part ((o.home == e.number) && env.precedes here c.at) c.value
          (option_and_then_some (λ s. slice_get s.constants k) (env.scope e o) c q (λ s there is. each_at (λ (c : Declared). HasGood c.value) s.constants k c (good o s there) is)) at)

  -- Designators.

  abbrev pub Denoted : Entity → Type 0
  Denoted = IsEntity p e

  pub denoted : (at : Pos) (j : Judged Answer) → Holds Valued j → Holds Denoted (desig.denoted at j)
  denoted at j h = holds_bind Valued Denoted j (λ a. kept (entity_of at a)) h (λ a x none. record {
    class = x.class;
    valued = x.valued;
    stored = not_stored a.known.class x.made;
    sound = λ whole. (x.plain whole, naming_made p e a.known.class a.typed x.made);
  })

  stored : (c : Class) (of : Option TypeId) (place : Place) (at : Pos) → IsStored c → (IsWhole p e → IsTyped p e place of) → Denoted (record { known = known_as c of; held = Stands place; at = at })
  stored Variable of place at s h = record { class = tt; valued = refl; stored = tt; sound = h }
  stored ReadOnly of place at s h = record { class = tt; valued = refl; stored = tt; sound = h }
  stored (Constant v) of place at s h = absurd s
  stored Unknown of place at s h = absurd s
  stored Computed of place at s h = absurd s
  stored (ClassOf m n) of place at s h = absurd s

  -- What is read.

  abbrev IsScalarOrWhole : TypeId → Expr → Type 0
  IsScalarOrWhole t x = IsScalar p t x ⊎ (IsWholeRead p t x ⊎ IsOther p t x)

  -- a variable that isn't of a basic type is a whole one, or an open array
  pub held_place : IsWhole p e → (place : Place) (t : TypeId) → is_basic t ≡ false → IsTyped p e place (Some t) → IsClosedPlace p t place ⊎ IsOpenPlace p t place
  held_place whole place t other (closed typed known) = inl (typed, id_as e.types t known, shut, there)
    where
      told_row : IsTold e.types t → row_of e.types t ≡ None → ⊥
      told_row (basic_told below) none = not_both (sym (lt-ltb t.0 7 below) ∙ other)
      told_row (of_any any) none = none-some row.Any (sym none ∙ ap (λ n. slice_get e.types n) any ∙ whole.basic 8 (omega arith))
      told_row (defined r from there shut) none = none-some r (sym none ∙ there)

      there : row_of p.program.types t ≡ None → ⊥
      there none = told_row known (ap (λ rows. row_of rows t) (sym whole.rows) ∙ none)

      isnt : (b : Bool) → desig.is_opened e t ≡ b → b ≡ false
      isnt true is = absurd (told_closed e whole.opens t known is)
      isnt false is = refl

      shut : is_open (row_of p.program.types t) ≡ false
      shut = ap (λ rows. is_open (row_of rows t)) whole.rows ∙ sym (ap (λ b. not b && is_open (row_of e.types t)) other) ∙ isnt (desig.is_opened e t) refl
  held_place whole place t other (opened v r same at opening rows lengths variables) =
      let u = opened_row e v opening in
      let is = sym (same_Some t v same) in
      subst (λ t. IsClosedPlace p t place ⊎ IsOpenPlace p t place) is
      (inr (
        r,
        at,
        ap (λ rows. is_open (row_of rows v)) whole.rows ∙ ap is_open u.2,
        subst (λ types. AreRows p r (open_dimensions types v) (type_as (open_element types v))) (sym whole.rows) rows,
        lengths,
        variables,
      ))

  -- one of a basic type is no open array
  low_typed : (place : Place) (t : TypeId) → is_basic t ≡ true → IsTyped p e place (Some t) → IsPlaceOf p place (type_as t)
  low_typed place t low (closed typed known) = typed
  low_typed place t low (opened v r same at opening rows lengths variables) = absurd (not_both (sym low ∙ ap is_basic (same_Some t v same) ∙ (opened_row e v opening).1))

  place_read : IsWhole p e → (place : Place) (t : TypeId) → IsTyped p e place (Some t) → IsScalarOrWhole t (Read (type_as t) place)
  place_read whole place t h = by (is_basic t) refl
    where
      by : (b : Bool) → is_basic t ≡ b → IsScalarOrWhole t (Read (type_as t) place)
      by true low = inl (low, (low_typed place t low h, basic_value p.program.types (type_as t) (as_basic t low), inl (includes_itself (type_as t) (as_basic t low))))
      by false other = inr (inl (other, place, refl, held_place whole place t other h))

  -- nor of NIL's type
  place_some : IsWhole p e → (place : Place) (t : TypeId) → IsTyped p e place (Some t) → t ≡ nil → ⊥
  place_some whole place t (closed typed known) is = told_no_nil e.types t known is
  place_some whole place t (opened v r same at opening rows lengths variables) is =
      let u = opened_row e v opening in
      let above = whole.opens.above v u.0 u.2 in
      let n : v.0 ≡ 7 = ap (λ (w : TypeId). w.0) (sym (same_Some t v same) ∙ is) in
      omega (arith, above, n)

  stands_sound : IsWhole p e → (place : Place) (of : Option TypeId) → IsTyped p e place of →
      (t : TypeId) × (of ≡ Some t) × (t ≡ nil → ⊥) × IsScalarOrWhole t (Read (type_of of) place)
  stands_sound whole place None (closed typed known) = absurd known
  stands_sound whole place None (opened t r same at opening rows lengths variables) = absurd (none-some t same)
  stands_sound whole place (Some t) h = (t, refl, place_some whole place t h, place_read whole place t h)

  pub read_sound : IsWhole p e → (k : Known) (x : Held) → IsSoundHeld p e k x → IsSound p (record { known = k; typed = read_from k.of x })
  read_sound whole k (Stands place) h = let r = stands_sound whole place k.of h in record { of = r.0; known = r.1; none = λ is. absurd (r.2 is); typed = r.3 }
  read_sound whole k (Value x) h = plain_sound p (record { known = k; typed = x }) h.0

  -- a part whose type isn't known is none where all types are
  pub no_type : (k : Known) (h : Held) → k.of ≡ None → IsSoundHeld p e k h → ⊥
  no_type k (Stands place) is s = by k.of is s
    where
      by : (of : Option TypeId) → of ≡ None → IsTyped p e place of → ⊥
      by None is (closed typed known) = known
      by None is (opened t r same at opening rows lengths variables) = none-some t same
      by (Some t) is s = none-some t (sym is)
  no_type k (Value x) is s = none-some s.0.of (sym is ∙ s.0.known)

  unknown_fine : (a : Entity) → Denoted a → a.known.of ≡ None → (at : Pos) → Denoted (desig.unknown_part at a)
  unknown_fine a x is at = record {
    class = class_as (IsKnownClass IsGood) a.known.class None x.class;
    valued = class_as (λ c. not (is_lost c) ≡ true) a.known.class None x.valued;
    stored = class_as (IsStoredHeld a.held) a.known.class None x.stored;
    sound = λ whole. absurd (no_type a.known a.held is (x.sound whole));
  }

  -- Guards.

  guarded_class : (c : Class) → IsKnownClass IsGood c → value_class c ≡ Computed
  guarded_class Unknown known = absurd known
  guarded_class c known = refl

  -- of what is tested
  abbrev MayTest : Entity → TypeId → Type 0
  MayTest a t = desig.may_test e (desig.is_passed (desig.place_of a.held)) a.known.of (Some t) ≡ true

  guarded_by : (a : Entity) → Denoted a → (of t : TypeId) → a.known.of ≡ Some of → (IsWhole p e → MayTest a t) → (b : Bool) → desig.is_record_type e of ≡ b →
      Denoted (if b then desig.guarded_record t a else desig.guarded_object e t a)
  guarded_by a x of t known may true of_record = record_guard a.known.class a.held refl refl x.class x.valued x.stored
    where
      test : IsWhole p e → (desig.has_dynamic_type e (desig.is_passed (desig.place_of a.held)) of ≡ true) × (desig.is_extension e of t ≡ true)
      test whole = and_parts _ _ (sym (ap (λ o. desig.may_test e (desig.is_passed (desig.place_of a.held)) o (Some t)) known) ∙ may whole)

      record_guard : (c : Class) (h : Held) → a.known.class ≡ c → a.held ≡ h → IsKnownClass IsGood a.known.class → not (is_lost a.known.class) ≡ true → IsStoredHeld a.held a.known.class →
          Denoted (desig.guarded_record t a)
      record_guard c (Stands place) ic ih class valued st =
          rw ih (stored a.known.class (Some t) (Guarded place (object_number t)) a.at (subst (λ h. IsStoredHeld h a.known.class) ih st) (λ whole. typed whole))
        where
          typed : IsWhole p e → IsTyped p e (Guarded place (object_number t)) (Some t)
          typed whole =
              let two = test whole in
              let sound : IsTyped p e place a.known.of = subst (λ h. IsSoundHeld p e a.known h) ih (x.sound whole) in
              guard_record p e whole of t place (subst (IsTyped p e place) known sound)
              (passed_record (desig.is_passed place) (ap (λ h. desig.is_passed (desig.place_of h)) (sym ih)) two.0) of_record two.1
            where
              no_reference : desig.is_reference e of ≡ false
              no_reference = record_no_reference p e whole of of_record

              passed_record : (b : Bool) → b ≡ desig.is_passed (desig.place_of a.held) → desig.has_dynamic_type e (desig.is_passed (desig.place_of a.held)) of ≡ true → desig.is_passed place ≡ true
              passed_record b same has = ap (λ h. desig.is_passed (desig.place_of h)) (sym ih) ∙ last (desig.is_passed (desig.place_of a.held)) (sym (ap (λ r. r || (desig.is_record_type e of && desig.is_passed (desig.place_of a.held))) no_reference) ∙ has)
                where
                  last : (b : Bool) → (desig.is_record_type e of && b) ≡ true → b ≡ true
                  last b is = (and_parts (desig.is_record_type e of) b is).1
      record_guard c (Value y) ic ih class valued st = rw ih (record {
        class = class_as (IsKnownClass IsGood) a.known.class (Some t) class;
        valued = class_as (λ c. not (is_lost c) ≡ true) a.known.class (Some t) valued;
        stored = class_as (IsStoredHeld (Value y)) a.known.class (Some t) (subst (λ h. IsStoredHeld h a.known.class) ih st);
        sound = λ whole. absurd (no_value whole);
      })
        where
          no_value : IsWhole p e → ⊥
          no_value whole =
              let two = test whole in
              not_both (sym (sym (ap (λ h. desig.has_dynamic_type e (desig.is_passed (desig.place_of h)) of) ih) ∙ two.0) ∙ none)
            where
              and_none : (b : Bool) → (b && false) ≡ false
              and_none true = refl
              and_none false = refl

              none : desig.has_dynamic_type e false of ≡ false
              none = rw (record_no_reference p e whole of of_record) (and_none (desig.is_record_type e of))
  guarded_by a x of t known may false other =
      subst (λ c. Denoted (record { known = known_as c (Some t); held = Value (Guard (read_from a.known.of a.held) (desig.made_number e t)); at = a.at }))
      (sym (guarded_class a.known.class x.class))
      (record {
        class = tt;
        valued = refl;
        stored = λ w. w;
        sound = λ whole.
            let two = and_parts _ _ (sym (ap (λ o. desig.may_test e (desig.is_passed (desig.place_of a.held)) o (Some t)) known) ∙ may whole) in
            let sound = read_sound whole a.known a.held (x.sound whole) in
            let same : of ≡ sound.of = same_Some of sound.of (sym known ∙ sound.known) in
            let ref : desig.is_reference e of ≡ true = first (desig.is_reference e of) (sym (ap (λ r. desig.is_reference e of || (r && desig.is_passed (desig.place_of a.held))) other) ∙ two.0) in
            let object = subst (λ v. IsObject p v (read_from a.known.of a.held)) (sym same)
            (sound_object p e whole (record { known = a.known; typed = read_from a.known.of a.held }) sound (ap (desig.is_reference e) (sym same) ∙ ref)) in (
              record {
                of = t;
                known = refl;
                none = λ is. absurd (no_extension p e whole of t (inl is) ref two.1);
                typed = inr (inr (inl (guard_object p e whole of t (read_from a.known.of a.held) object ref two.1)));
              },
              tt,
            );
      })
    where
      first : (b : Bool) → (b || false) ≡ true → b ≡ true
      first true is = refl
      first false is = is

  -- an entity, by its parts
  abbrev entity : Option TypeId → Class → Held → Pos → Entity
  entity of c h at = record { known = record { of = of; class = c }; held = h; at = at }

  guarded_of : (of : Option TypeId) (c : Class) (h : Held) (at : Pos) → Denoted (entity of c h at) → (t : TypeId) → (IsWhole p e → MayTest (entity of c h at) t) →
      Denoted (desig.guarded_entity e t (entity of c h at))
  guarded_of None c h at x t may = unknown_fine (entity None c h at) x refl at
  guarded_of (Some of) c h at x t may = guarded_by (entity (Some of) c h at) x of t refl may (desig.is_record_type e of) refl

  guarded_fine : (a : Entity) → Denoted a → (t : TypeId) → (IsWhole p e → MayTest a t) → Denoted (desig.guarded_entity e t a)
  guarded_fine a x t may = guarded_of a.known.of a.known.class a.held a.at x t may

  pub guard_part : (at : Pos) (a : Entity) → Denoted a → (t : TypeId) → Holds Denoted (desig.guard e at a (Some t))
  guard_part at a x t = by (desig.may_test e (desig.is_passed (desig.place_of a.held)) a.known.of (Some t)) refl
    where
      by : (b : Bool) → desig.may_test e (desig.is_passed (desig.place_of a.held)) a.known.of (Some t) ≡ b →
          Holds Denoted (if b then kept (desig.guarded_entity e t a) else desig.denoted a.at (desig.refused_variable 41 at))
      by true is = λ none. guarded_fine a x t (λ whole. is)
      by false is = denoted a.at (desig.refused_variable 41 at) (refused_variable_part 41 at)

  bracketed_of : (of : Option TypeId) (c : Class) (h : Held) (own : Pos) → Denoted (entity of c h own) → (first at : Pos) (t : Option (Option TypeId)) →
      Holds Denoted (desig.guarded e first at (entity of c h own) t)
  bracketed_of None c h own x first at t = λ none. unknown_fine (entity None c h own) x refl own
  bracketed_of (Some of) c h own x first at None = denoted own (desig.refused_variable 36 first) (refused_variable_part 36 first)
  bracketed_of (Some of) c h own x first at (Some None) = denoted own (desig.refused 99 at) (refused_part 99 at)
  bracketed_of (Some of) c h own x first at (Some (Some t)) = guard_part at (entity (Some of) c h own) x t

  pub guarded_part : (first at : Pos) (a : Entity) → Denoted a → (t : Option (Option TypeId)) → Holds Denoted (desig.guarded e first at a t)
  guarded_part first at a x t = bracketed_of a.known.of a.known.class a.held a.at x first at t

  -- Names.

  -- A procedure as a value.

  -- what is named is as its signature tells
  abbrev pub IsNamedWell : (home number : ℕ) → Expr → Type 0
  IsNamedWell m n x =
      (s : Signature) → env.signature e m n ≡ Some s → (q : Procedure) × IsSigned e s q × IsNamed p x × ((t : TType) → IsProcedural p.program t q → IsOf p x t)

  pub procedure_part : (m n : ℕ) (x : Expr) (first at : Pos) → (IsWhole p e → IsNamedWell m n x) → Holds Denoted (desig.procedure_entity e m n x first at)
  procedure_part m n x first at well = by (env.signature e m n) refl
    where
      by : (o : Option Signature) → env.signature e m n ≡ o → Holds Denoted (desig.procedure_entity e m n x first at)
      by None is = rw is (denoted at (desig.refused_value 20 first) (refused_value_part 20 first))
      by (Some s) is = rw is (λ none. record {
        class = tt;
        valued = refl;
        stored = λ w. w;
        sound = λ whole.
            let y = well whole in
            let many = many_types p e whole in (
              record {
                of = env.procedure e;
                known = refl;
                none = λ same. let n : length e.types ≡ 7 = ap (λ (t : TypeId). t.0) same in absurd (omega (arith, n, many));
                typed = inr (inr (inr (le-ltb (length e.types) 7 (omega (arith, many)), inr (ap length (sym whole.rows), (y s is).2))));
              },
              λ s is. (let z = y s is in (z.0, z.1, z.3)),
            );
      })

  -- what is called may be named, but for what a method overrides and for what a value stands for
  pub called_named : (c : Callee) (x : Expr) (m n : ℕ) → judge.value_called c ≡ Some x → IsCalling p e c (heading.Declared m n) → IsNamedWell m n x
  called_named (Plain h k) x m n is calling s there =
      let y = calling s there in
      subst (λ x. (q : Procedure) × IsSigned e s q × IsNamed p x × ((t : TType) → IsProcedural p.program t q → IsOf p x t)) (same_Some (ProcedureOf h k) x is)
      (y.0, y.2, (y.0, y.1), λ t fits. (y.0, y.1, fits))
  called_named (Dispatched o t k) x m n is calling s there =
      let y = calling s there in
      subst (λ x. (q : Procedure) × IsSigned e s q × IsNamed p x × ((t : TType) → IsProcedural p.program t q → IsOf p x t)) (same_Some (MethodOf o t k) x is)
      (y.0, y.2, (y.1.0, y.1.1, (y.0, y.1.2)), λ u fits. (y.1.0, y.1.1, (y.0, y.1.2, fits)))
  called_named (Upper t k) x m n is calling s there = absurd (none-some x is)
  called_named (Through o t) x m n is calling s there = absurd (none-some x is)

  narrowed_fine : (x : Symbol) (k : ℕ) (vs : List Narrowed) (a : Entity) → Denoted a → (IsWhole p e → NarrowsWell e x k a vs) → Denoted (fold (desig.narrowed_by e x k) a vs)
  narrowed_fine x k [] a s well = s
  narrowed_fine x k (v ∷ vs) a s well = narrowed_fine x k vs (desig.narrowed_by e x k a v) (one (desig.is_narrowed x k v) refl) (λ whole. (well whole).1)
    where
      one : (b : Bool) → desig.is_narrowed x k v ≡ b → Denoted (if b then desig.guarded_entity e v.of a else a)
      one true is = guarded_fine a s v.of (λ whole. (well whole).0 is)
      one false is = s

  otherwise_entity : (m : Meaning) (h : Head) → Holds Denoted (desig.meant_otherwise m h)
  otherwise_entity (means.Type of) h = denoted h.name.pos (desig.refused 16 h.name.pos) (refused_part 16 h.name.pos)
  otherwise_entity (means.Module m) h = denoted h.name.pos (desig.refused 16 h.name.pos) (refused_part 16 h.name.pos)
  otherwise_entity means.Out h = denoted h.name.pos (desig.refused 16 h.name.pos) (refused_part 16 h.name.pos)
  otherwise_entity (means.Truth b) h = denoted h.name.pos (kept (constant_answer (literal.Bool b))) (λ none. constant_part p e (literal.Bool b) tt)
  otherwise_entity (means.Function f) h = denoted h.name.pos (desig.refused_value 36 h.first) (refused_value_part 36 h.first)
  otherwise_entity (means.Routine r) h = denoted h.name.pos (desig.refused_value 36 h.first) (refused_value_part 36 h.first)
  otherwise_entity means.Proper h = denoted h.name.pos (desig.refused_value 36 h.first) (refused_value_part 36 h.first)
  otherwise_entity (means.Procedure k) h = denoted h.name.pos (desig.refused_value 99 h.first) (refused_value_part 99 h.first)
  otherwise_entity (means.Variable k) h = denoted h.name.pos (desig.refused_value 99 h.first) (refused_value_part 99 h.first)
  otherwise_entity (means.Constant k) h = denoted h.name.pos (desig.refused_value 99 h.first) (refused_value_part 99 h.first)
  otherwise_entity means.Itself h = denoted h.name.pos (desig.refused_value 99 h.first) (refused_value_part 99 h.first)
  otherwise_entity means.Other h = denoted h.name.pos (desig.refused_value 99 h.first) (refused_value_part 99 h.first)

  -- SELF
  self_entity : (at : Pos) → Holds Denoted (desig.itself e at)
  self_entity at = by e.self_type refl
    where
      by : (o : Option TypeId) → e.self_type ≡ o → Holds Denoted (desig.self_of o at)
      by None is = denoted at (desig.refused 46 at) (refused_part 46 at)
      by (Some t) is = λ none. record {
        class = tt;
        valued = refl;
        stored = λ w. w;
        sound = λ whole. (
          record {
            of = t;
            known = refl;
            none = λ none. let high = (object_made p e whole t (whole.itself t is).1).0 in let n : t.0 ≡ 7 = ap (λ (u : TypeId). u.0) none in absurd (omega (arith, high, n));
            typed = inr (inr (inl (self_object p e whole t is)));
          },
          tt,
        );
      }

  variable_fine : (x : Symbol) → (IsWhole p e → IsVariable x) → (k : ℕ) → x.means ≡ means.Variable k → (at : Pos) → Denoted (desig.variable_entity e x k at)
  variable_fine x sound k is at =
      narrowed_fine x k e.narrowed (desig.variable e x k at)
      (stored (desig.access (x.at.home == e.number) x.mark) (env.variable_type e x.at k) (desig.place_of_variable e x k) at (access_stored (x.at.home == e.number) x.mark) (λ whole. sound whole k is))
      (λ whole. whole.narrows x k at)

  -- the variable that a name stands for
  pub variable_named : (l : Lookup) (n : Name) (first : Pos) → MayFind l → (a : Entity) → desig.variable_named e (record { found = l; name = n; first = first }) ≡ Some a → Denoted a
  variable_named NoName n first may a is = absurd (none-some a is)
  variable_named NotExported n first may a is = absurd (none-some a is)
  variable_named (Found x) n first may a is = by x.means refl is
    where
      by : (m : Meaning) → x.means ≡ m → desig.variable_meant e x m n.pos ≡ Some a → Denoted a
      by (means.Variable k) at is = subst Denoted (same_Some (desig.variable_entity e x k n.pos) a is) (variable_fine x (λ whole. (may whole x refl).0) k at n.pos)
      by m at is = absurd (none-some a is)

  procedure_fine : (x : Symbol) → (IsWhole p e → IsProcedure x) → (k : ℕ) → x.means ≡ means.Procedure k → (h : Head) → Holds Denoted (desig.procedure_meant e x k h)
  procedure_fine x seen k is h = by (desig.is_of_module x) refl
    where
      by : (b : Bool) → desig.is_of_module x ≡ b →
          Holds Denoted (if b then desig.procedure_entity e x.at.home k (ProcedureOf x.at.home k) h.first h.name.pos else desig.meant_otherwise (means.Procedure k) h)
      by true own =
          procedure_part x.at.home k (ProcedureOf x.at.home k) h.first h.name.pos
          (λ whole. called_named (Plain x.at.home k) (ProcedureOf x.at.home k) x.at.home k refl (seen whole k is own))
      by false other = otherwise_entity (means.Procedure k) h

  meant_entity : GoodConstants e → (x : Symbol) → (IsWhole p e → IsSeen x) → (m : Meaning) → x.means ≡ m → (h : Head) → Holds Denoted (desig.meant e x m h)
  meant_entity good x sound (means.Variable k) is h = λ none. variable_fine x (λ whole. (sound whole).0) k is h.name.pos
  meant_entity good x sound (means.Procedure k) is h = procedure_fine x (λ whole. (sound whole).1) k is h
  meant_entity good x sound (means.Constant k) is h = denoted h.name.pos (desig.constant_of (env.constant e x.at k h.first) h.name.pos) (constant_there good x.at k h.first h.name.pos)
  meant_entity good x sound means.Itself is h = self_entity h.name.pos
  meant_entity good x sound m is h = otherwise_entity m h

  found_entity : GoodConstants e → (l : Lookup) → MayFind l → (h : Head) → Holds Denoted (desig.found e l h)
  found_entity good NoName may h = denoted h.name.pos (desig.refused 14 h.name.pos) (refused_part 14 h.name.pos)
  found_entity good NotExported may h = denoted h.name.pos (desig.refused 15 h.name.pos) (refused_part 15 h.name.pos)
  found_entity good (Found x) may h = meant_entity good x (λ whole. may whole x refl) x.means refl h

  pub named_entity : GoodConstants e → (h : Head) → MayFind h.found → Holds Denoted (desig.named e h)
  named_entity good h may = found_entity good h.found may h

  -- Parts of variables.

  -- what is told of the places of a part, and that a value has none
  abbrev IsPartOf : Option TypeId → Option TypeId → (Place → Place) → Type 0
  IsPartOf whole of part = (place : Place) → IsTyped p e place whole → IsTyped p e (part place) of

  class_typed : (may : Bool) (c : Class) (of : Option TypeId) (place : Place) → IsStored c → IsTyped p e place of → IsTyped p e place (known_as (desig.part_class may c) of).of
  class_typed true Variable of place s h = h
  class_typed false Variable of place s h = h
  class_typed may ReadOnly of place s h = h
  class_typed may (Constant v) of place s h = absurd s
  class_typed may Unknown of place s h = absurd s
  class_typed may Computed of place s h = absurd s
  class_typed may (ClassOf m n) of place s h = absurd s

  -- a type that has parts is none of a value's
  abbrev HasParts : TypeId → Type 0
  HasParts t = (is_basic t ≡ false) × (IsWhole p e → (r : TypeRow) × (row_of e.types t ≡ Some r) × IsPartsRow r)

  held_part : IsWhole p e → (k : Known) (h : Held) (may : Bool) (of : Option TypeId) (part : Place → Place) (t : TypeId) → k.of ≡ Some t → HasParts t →
      IsPartOf k.of of part → IsStoredHeld h k.class → IsSoundHeld p e k h → IsSoundHeld p e (known_as (desig.part_class may k.class) of) (desig.part_held part h)
  held_part whole k (Stands place) may of part t is other typed stored s = class_typed may k.class of (part place) stored (typed place s)
  held_part whole k (Value x) may of part t is other typed stored (s, naming) = absurd (by s.typed)
    where
      same : t ≡ s.of
      same = same_Some t s.of (sym is ∙ s.known)

      none : (t ≡ text → ⊥) × (is_reference_type p.program.types (type_as t) ≡ false)
      none = let r = other.1 whole in parts_no_reference p e whole t r.0 r.1 r.2

      by : IsScalar p s.of x ⊎ IsOther p s.of x → ⊥
      by (inl scalar) = not_both (sym scalar.0 ∙ ap is_basic (sym same) ∙ other.0)
      by (inr (inl is_text)) = none.0 (same ∙ is_text)
      by (inr (inr (inl o))) = not_both (sym o.1 ∙ ap (λ t. is_reference_type p.program.types (type_as t)) (sym same) ∙ none.1)
      by (inr (inr (inr routine))) = let r = other.1 whole in routine_no_parts p e whole s.of x routine r.0 (ap (row_of e.types) (sym same) ∙ r.1) r.2

  part_fine : (may : Bool) (of : Option TypeId) (part : Place → Place) (at : Pos) (a : Entity) → Denoted a → (t : TypeId) → a.known.of ≡ Some t → HasParts t →
      (IsWhole p e → IsPartOf a.known.of of part) → Denoted (desig.part_entity may of part at a)
  part_fine may of part at a x t is other typed = record {
    class = class_as (IsKnownClass IsGood) (desig.part_class may a.known.class) of (part_known may a.known.class x.class);
    valued = class_as (λ c. not (is_lost c) ≡ true) (desig.part_class may a.known.class) of (part_valued may a.known.class x.valued);
    stored = class_as (IsStoredHeld (desig.part_held part a.held)) (desig.part_class may a.known.class) of (part_stored may a.known.class part a.held x.stored);
    sound = λ whole. held_part whole a.known a.held may of part t is other (typed whole) x.stored (x.sound whole);
  }

  lacking_fine : (t : TypeId) (at : Pos) → Holds Denoted (desig.lacking e t at)
  lacking_fine t at = denoted at (desig.refused_variable (if desig.is_built e t then 42 else 99) at) (refused_variable_part (if desig.is_built e t then 42 else 99) at)

  -- What pointers lead to.

  followed_variable : (c : Class) → IsKnownClass IsGood c → desig.followed_class c ≡ Variable
  followed_variable Unknown known = absurd known
  followed_variable c known = refl

  followed_fine : (a : Entity) → Denoted a → (t u : TypeId) → a.known.of ≡ Some t → desig.pointed e t ≡ Some u → Denoted (desig.followed_entity e u a)
  followed_fine a x t u known is =
      subst (λ c. Denoted (record { known = known_as c (Some u); held = Stands (desig.followed_place e u (read_from a.known.of a.held)); at = a.at }))
      (sym (followed_variable a.known.class x.class))
      (stored Variable (Some u) (desig.followed_place e u (read_from a.known.of a.held)) a.at tt (λ whole.
      let sound = read_sound whole a.known a.held (x.sound whole) in
      let same : t ≡ sound.of = same_Some t sound.of (sym known ∙ sound.known) in
      let ref = (pointed_kind p e whole t u is).0 in
      followed_typed p e whole t u (read_from a.known.of a.held) is
      (subst (λ v. IsObject p v (read_from a.known.of a.held)) (sym same)
      (sound_object p e whole (record { known = a.known; typed = read_from a.known.of a.held }) sound (ap (desig.is_reference e) (sym same) ∙ ref)))))

  through_of : (of : Option TypeId) (c : Class) (h : Held) (at : Pos) → Denoted (entity of c h at) → Denoted (desig.through e (entity of c h at))
  through_of None c h at x = x
  through_of (Some t) c h at x = by (desig.pointed e t) refl
    where
      by : (o : Option TypeId) → desig.pointed e t ≡ o → Denoted (desig.through e (entity (Some t) c h at))
      by None is = rw is x
      by (Some u) is = rw is (followed_fine (entity (Some t) c h at) x t u refl is)

  through_fine : (a : Entity) → Denoted a → Denoted (desig.through e a)
  through_fine a x = through_of a.known.of a.known.class a.held a.at x

  -- an object that a designator is
  pub object_held : IsWhole p e → (a : Entity) → Denoted a → (t : TypeId) → a.known.of ≡ Some t → desig.is_object_type e t ≡ true → IsOf p (read_from a.known.of a.held) (type_as t)
  object_held whole a x t known object =
      let sound = read_sound whole a.known a.held (x.sound whole) in
      let same : t ≡ sound.of = same_Some t sound.of (sym known ∙ sound.known) in
      of_own_type p e whole t (read_from a.known.of a.held)
      (subst (λ v. IsObject p v (read_from a.known.of a.held)) (sym same)
      (sound_object p e whole (record { known = a.known; typed = read_from a.known.of a.held }) sound
      (ap (desig.is_reference e) (sym same) ∙ object_refers p e whole t object)))
      (object_made p e whole t (object_type_row p e whole t object).1)

  -- a value of a procedure type that a designator is
  procedural_held : IsWhole p e → (a : Entity) → Denoted a → (t : TypeId) → a.known.of ≡ Some t → desig.is_procedural e t ≡ true → IsOf p (read_from a.known.of a.held) (type_as t)
  procedural_held whole a x t known procedural =
      let sound = read_sound whole a.known a.held (x.sound whole) in
      let same : t ≡ sound.of = same_Some t sound.of (sym known ∙ sound.known) in
      let r = procedural_row p e whole t procedural in
      subst (λ u. IsOf p (read_from a.known.of a.held) (type_as u)) (sym same)
      (callable_own p e whole (record { known = a.known; typed = read_from a.known.of a.held }) sound r.0 r.1 (ap (row_of e.types) (sym same) ∙ r.2))

  bound_of : (first : Pos) (of : Option TypeId) (c : Class) (h : Held) (at : Pos) → Denoted (entity of c h at) → (b : Bound) → judge.bound_value e first (entity of c h at) ≡ Some b → IsBound p e b
  bound_of first None c h at x b is = absurd (none-some b is)
  bound_of first (Some t) c h at x b is = λ whole.
      let a = entity (Some t) c h at in
      let two = if_some (desig.is_procedural e t) (Some (judge.through first a t)) b is in
      subst (λ (b : Bound). IsCalling p e b.callee b.heading) (same_Some (judge.through first a t) b two.1)
      (through_calling p e whole t (read_from (Some t) h) (procedural_held whole a x t refl two.0))

  -- a call of what it stands for
  pub bound_value : (first : Pos) (a : Entity) → Denoted a → (b : Bound) → judge.bound_value e first a ≡ Some b → IsBound p e b
  bound_value first a x b is = bound_of first a.known.of a.known.class a.held a.at x b is

  -- a field of an object is a variable
  variable_stored : (may : Bool) → IsStored (desig.part_class may Variable)
  variable_stored true = tt
  variable_stored false = tt

  object_field_fine : (t : TypeId) (f : Field) (n : Name) (at : Pos) (a : Entity) → Denoted a → a.known.of ≡ Some t → members.field e t n ≡ Some f → desig.is_object_type e t ≡ true →
      Denoted (desig.object_field t f at a)
  object_field_fine t f n at a x known found object =
      subst
      (λ c. Denoted (record { known = known_as (desig.part_class (desig.may_write f) c) f.of; held = Stands (FieldOf (Deref (read_from a.known.of a.held) (type_as t)) (type_as t) f.number); at = at }))
      (sym (followed_variable a.known.class x.class))
      (stored (desig.part_class (desig.may_write f) Variable) f.of (FieldOf (Deref (read_from a.known.of a.held) (type_as t)) (type_as t) f.number) at (variable_stored (desig.may_write f)) (λ whole.
      let own = (object_type_row p e whole t object).1 in
      let g = whole.fields t n f found (object_fields (row_of e.types t) own) in
      subst (λ of. IsTyped p e (FieldOf (Deref (read_from a.known.of a.held) (type_as t)) (type_as t) f.number) of) (sym g.1)
      (object_field_typed p e whole t (read_from a.known.of a.held) (object_held whole a x t known object) own f.number g.0 g.2 g.3)))
    where
      object_fields : (o : Option TypeRow) → is_object o ≡ true → has_fields o ≡ true
      object_fields (Some (row.Object base fs)) i = refl
      object_fields o i = absurd (not_both (sym i))

  record_fields : (o : Option TypeRow) → is_record o ≡ true → has_fields o ≡ true
  record_fields (Some (row.Record base fs)) i = refl
  record_fields o i = absurd (not_both (sym i))

  -- a field of a record
  field_typed : IsWhole p e → (t : TypeId) (n : Name) (f : Field) → members.field e t n ≡ Some f → is_record (row_of e.types t) ≡ true →
      IsPartOf (Some t) f.of (λ place. FieldOf place (type_as t) f.number)
  field_typed whole t n f is r place (closed typed known) =
      let g = whole.fields t n f is (record_fields (row_of e.types t) r) in
      let u = g.0 in
      let there : field_type p.program.types (id_of (type_as t)) f.number ≡ Some (id_of (type_as u)) =
      ap (λ i. field_type p.program.types i f.number) (id_as e.types t known) ∙ ap (λ rows. field_type rows t f.number) whole.rows
      ∙ g.2 ∙ ap (λ i. Some i) (sym (id_as e.types u g.3)) in
      let of_record : is_record (row_of p.program.types (id_of (type_as t))) ≡ true =
      ap (λ i. is_record (row_of p.program.types i)) (id_as e.types t known) ∙ ap (λ rows. is_record (row_of rows t)) whole.rows ∙ r in
      subst (λ o. IsTyped p e (FieldOf place (type_as t) f.number) o) (sym g.1) (closed (inl (typed, of_record), there) g.3)
  field_typed whole t n f is r place (opened u q same at opening rows lengths variables) =
      absurd (no_open_record (row_of e.types t) r (ap (λ v. is_open (row_of e.types v)) (same_Some t u same) ∙ ap is_open (opened_row e u opening).2))
    where
      no_open_record : (o : Option TypeRow) → is_record o ≡ true → is_open o ≡ true → ⊥
      no_open_record (Some (row.Record base fs)) i j = not_both (sym j)
      no_open_record o i j = not_both (sym i)

  record_parts : (t : TypeId) → is_record (row_of e.types t) ≡ true → (r : TypeRow) × (row_of e.types t ≡ Some r) × IsPartsRow r
  record_parts t = by (row_of e.types t) refl
    where
      by : (o : Option TypeRow) → row_of e.types t ≡ o → is_record o ≡ true → (r : TypeRow) × (o ≡ Some r) × IsPartsRow r
      by (Some (row.Record base fs)) is r = (row.Record base fs, refl, tt)
      by o is r = absurd (not_both (sym r))

  field_in : (t : TypeId) (a : Entity) → Denoted a → a.known.of ≡ Some t → (q : Pos) (n : Name) →
      Holds Denoted (if desig.has_fields e t then desig.field_found e a q n t (members.field e t n) else desig.lacking e t q)
  field_in t a x known q n = by (desig.has_fields e t) refl
    where
      seen : (f : Field) (b : Bool) → Denoted (desig.field_entity e t f n.pos a) →
          Holds Denoted (if b then kept (desig.field_entity e t f n.pos a) else desig.denoted n.pos (desig.refused_variable 15 n.pos))
      seen f true s = λ none. s
      seen f false s = denoted n.pos (desig.refused_variable 15 n.pos) (refused_variable_part 15 n.pos)

      low : (b : Bool) → not b ≡ true → b ≡ false
      low true h = absurd (not_both (sym h))
      low false h = refl

      left : (b c : Bool) → c ≡ false → (b || c) ≡ true → b ≡ true
      left true c none is = refl
      left false c none is = absurd (not_both (sym is ∙ none))

      entity_fine : desig.has_fields e t ≡ true → (f : Field) → members.field e t n ≡ Some f → (b : Bool) → desig.is_object_type e t ≡ b →
          Denoted (if b then desig.object_field t f n.pos a else desig.part_entity (desig.may_write f) f.of (λ place. FieldOf place (type_as t) f.number) n.pos a)
      entity_fine has f is true object = object_field_fine t f n n.pos a x known is object
      entity_fine has f is false other =
          let two = and_parts (not (is_basic t)) _ (left (desig.is_record_type e t) (desig.is_object_type e t) other has) in
          part_fine (desig.may_write f) f.of (λ place. FieldOf place (type_as t) f.number) n.pos a x t known (low (is_basic t) two.0, λ whole. record_parts t two.1)
          (λ whole. subst (λ of. IsPartOf of f.of (λ place. FieldOf place (type_as t) f.number)) (sym known) (field_typed whole t n f is two.1))

      there : desig.has_fields e t ≡ true → (o : Option Field) → members.field e t n ≡ o → Holds Denoted (desig.field_found e a q n t o)
      there has None is = lacking_fine t q
      there has (Some f) is = seen f (f.is_own || is_some f.mark) (entity_fine has f is (desig.is_object_type e t) refl)

      by : (b : Bool) → desig.has_fields e t ≡ b → Holds Denoted (if b then desig.field_found e a q n t (members.field e t n) else desig.lacking e t q)
      by true has = there has (members.field e t n) refl
      by false other = lacking_fine t q

  field_of : (of : Option TypeId) (c : Class) (h : Held) (at : Pos) → Denoted (entity of c h at) → (q : Pos) (n : Name) → Holds Denoted (desig.field_of e (entity of c h at) q n)
  field_of None c h at x q n = λ none. unknown_fine (entity None c h at) x refl n.pos
  field_of (Some t) c h at x q n = field_in t (entity (Some t) c h at) x refl q n

  pub field_part : (a : Entity) → Denoted a → (q : Pos) (n : Name) → Holds Denoted (desig.field e a q n)
  field_part a x q n = let b = desig.through e a in field_of b.known.of b.known.class b.held b.at (through_fine a x) q n

  -- an element of an array
  element_typed : IsWhole p e → (t u : TypeId) (m : ℕ) (i : Answer) → env.row_of e (Some t) ≡ Some (row.Array m u) → IsSound p i → is_number i.known.of ≡ true →
      IsPartOf (Some t) (Some u) (λ place. Index place m (type_as u) i.typed)
  element_typed whole t u m i r s k place (closed typed known) =
      let told : IsTold e.types u = (whole.parts t.0 (row.Array m u) r).1 in
      let there : row_of p.program.types (id_of (type_as t)) ≡ Some (row.Array m (id_of (type_as u))) =
      ap (λ i. row_of p.program.types i) (id_as e.types t known) ∙ ap (λ rows. row_of rows t) whole.rows
      ∙ r ∙ ap (λ v. Some (row.Array m v)) (sym (id_as e.types u told)) in
      closed (type_as t, typed, there, sound_number p i s k, refl) told
  element_typed whole t u m i r s k place (opened v q same at opening rows lengths variables) =
      absurd (array_open m u (sym (ap (λ w. is_open w) (subst (λ v. env.row_of e (Some v) ≡ Some (row.Array m u)) (same_Some t v same) r)) ∙ (and_parts (not (is_basic v)) _ opening).1))

  -- an element of an open array, which is an open array or has a type that is told
  row_typed : IsWhole p e → (t u : TypeId) (i : Answer) → is_basic t ≡ false → env.row_of e (Some t) ≡ Some (row.Open u) → IsSound p i → is_number i.known.of ≡ true →
      IsPartOf (Some t) (Some u) (λ place. Of (Row (desig.rows_of place) (type_as (open_element e.types t)) i.typed))
  row_typed whole t u i low r s k place (closed typed known) = absurd (told_closed e whole.opens t known (row_opened e t u low r))
  row_typed whole t u i low r s k place (opened v q same at opening rows lengths variables) =
      subst (λ place. IsTyped p e (Of (Row (desig.rows_of place) E i.typed)) (Some u)) (sym at) (by (whole.opens.elements t u r))
    where
      E : TType
      E = type_as (open_element e.types t)

      deep : AreRows p q (suc (open_dimensions e.types u)) E
      deep =
          subst (λ n. AreRows p q n E) (next_dimensions e.types whole.opens.falls t u r)
          (subst (λ v. AreRows p q (open_dimensions e.types v) (type_as (open_element e.types v))) (sym (same_Some t v same)) rows)

      elements : type_as (open_element e.types u) ≡ E
      elements = ap type_as (sym (next_element e.types whole.opens.falls t u r))

      index : IsOf p i.typed (type.Integer W64)
      index = sound_number p i s k

      by : IsParameterType e u → IsTyped p e (Of (Row q E i.typed)) (Some u)
      by (inl told) =
          let none = told_element e whole.opens u told in
          let is : type_as u ≡ E = ap type_as (sym (closed_element e.types u none)) ∙ elements in
          closed ((subst (λ T. AreRows p q 1 T) (sym is) (subst (λ n. AreRows p q (suc n) E) (closed_dimensions e.types u none) deep), index, is), variables) told
      by (inr more) = opened u (Row q E i.typed) refl refl more (subst (λ T. AreRows p q (suc (open_dimensions e.types u)) T) (sym elements) deep, index, elements) lengths variables

  element_in : (t : TypeId) (c : Class) (held : Held) (at : Pos) → Denoted (record { known = record { of = Some t; class = c }; held = held; at = at }) → (q : Pos) (i : Answer) → Part i →
      Holds Denoted (desig.element_of e q (record { known = record { of = Some t; class = c }; held = held; at = at }) i)
  element_in t c held at x q i y = by (is_basic t) refl
    where
      a : Entity
      a = record { known = record { of = Some t; class = c }; held = held; at = at }

      tested : is_basic t ≡ false → (m : ℕ) (u : TypeId) → env.row_of e (Some t) ≡ Some (row.Array m u) → (b : Bool) → is_number i.known.of ≡ b →
          Holds Denoted (if b then kept (desig.element_entity m u i a) else desig.denoted q (desig.refused_variable 42 q))
      tested other m u r true k =
          λ none. part_fine true (Some u) (λ place. Index place m (type_as u) i.typed) at a x t refl (other, λ whole. (row.Array m u, r, tt)) (λ whole. element_typed whole t u m i r (y.sound whole) k)
      tested other m u r false k = denoted q (desig.refused_variable 42 q) (refused_variable_part 42 q)

      row_tested : is_basic t ≡ false → (u : TypeId) → env.row_of e (Some t) ≡ Some (row.Open u) → (b : Bool) → is_number i.known.of ≡ b →
          Holds Denoted (if b then kept (desig.row_entity (open_element e.types t) u i a) else desig.denoted q (desig.refused_variable 42 q))
      row_tested other u r true k =
          λ none. part_fine true (Some u) (λ place. Of (Row (desig.rows_of place) (type_as (open_element e.types t)) i.typed)) at a x t refl (other, λ whole. (row.Open u, r, tt))
          (λ whole. row_typed whole t u i other r (y.sound whole) k)
      row_tested other u r false k = denoted q (desig.refused_variable 42 q) (refused_variable_part 42 q)

      in_row : is_basic t ≡ false → (r : Option TypeRow) → env.row_of e (Some t) ≡ r → Holds Denoted (desig.element_in_row e q a i t r)
      in_row other (Some (row.Array m u)) r = tested other m u r (is_number i.known.of) refl
      in_row other (Some (row.Open u)) r = row_tested other u r (is_number i.known.of) refl
      in_row other w r = lacking_fine t q

      by : (b : Bool) → is_basic t ≡ b → Holds Denoted (if b then desig.lacking e t q else desig.element_in_row e q a i t (env.row_of e (Some t)))
      by true low = lacking_fine t q
      by false other = in_row other (env.row_of e (Some t)) refl

  element_typed_of : (of : Option TypeId) (c : Class) (held : Held) (at : Pos) → Denoted (record { known = record { of = of; class = c }; held = held; at = at }) → (q : Pos) (i : Answer) → Part i →
      Holds Denoted (desig.element_of e q (record { known = record { of = of; class = c }; held = held; at = at }) i)
  element_typed_of None c held at x q i y = λ none. unknown_fine (record { known = record { of = None; class = c }; held = held; at = at }) x refl at
  element_typed_of (Some t) c held at x q i y = element_in t c held at x q i y

  pub element_part : (a : Entity) → Denoted a → (q : Pos) (i : Answer) → Part i → Holds Denoted (desig.element e q a i)
  element_part a x q i y =
      let b = desig.through e a in element_typed_of b.known.of b.known.class b.held b.at (through_fine a x) q i y

  followed_of : (of : Option TypeId) (c : Class) (h : Held) (at : Pos) → Denoted (entity of c h at) → (q : Pos) → Holds Denoted (desig.followed e (entity of c h at) q)
  followed_of None c h at x q = λ none. unknown_fine (entity None c h at) x refl at
  followed_of (Some t) c h at x q = by (desig.pointed e t) refl
    where
      by : (o : Option TypeId) → desig.pointed e t ≡ o → Holds Denoted (desig.followed_type e (entity (Some t) c h at) q t o)
      by None is = lacking_fine t q
      by (Some u) is = λ none. followed_fine (entity (Some t) c h at) x t u refl is

  pub followed_part : (a : Entity) → Denoted a → (q : Pos) → Holds Denoted (desig.followed e a q)
  followed_part a x q = followed_of a.known.of a.known.class a.held a.at x q

  is_read : (c : Class) (of : Option TypeId) (x : Held) → IsStoredHeld x c → IsStored c → (place : Place) × (read_from of x ≡ Read (type_of of) place)
  is_read c of (Stands place) stored s = (place, refl)
  is_read c of (Value x) made s = absurd (made s)

  pub read_part : (a : Entity) → Denoted a → Holds Part (desig.read e a)
  read_part a x none = record {
    class = x.class;
    valued = x.valued;
    read = is_read a.known.class a.known.of a.held x.stored;
    sound = λ whole. read_sound whole a.known a.held (x.sound whole);
    named = λ whole. naming_read a.known a.held x.stored (x.sound whole);
  }
    where
      naming_read : (k : Known) (h : Held) → IsStoredHeld h k.class → IsSoundHeld p e k h → IsNaming p e k.class (read_from k.of h)
      naming_read k (Stands place) stored s = naming_stored p e k.class (Read (type_of k.of) place) stored
      naming_read k (Value y) stored s = s.1
