-- What an expression asks in a frame of a routine, with true answers: a place that it finds is of the variable that its designator names, a
-- value is one of its type, and no VAR parameter is handed a guarded variable.
use Rattle.std.proofs.Common.{◌≡◌, ◌⊎◌, inl, inr, ℕ, ℤ, zero, suc, ◌+◌, List, [], ◌∷◌, ◌++◌, length, map, drop, Bool, true, false, Option, Some, None, refl, sym, ap, ◌∙◌, subst, arith, length-append}
use Rattle.std.specs.Prelude.{not, pos, slice_get, option_map, option_and_then, if◌then◌else◌, is_some, unsigned_abs}
use Rattle.std.specs.Option.{unwrap_or}
use Rattle.std.proofs.lemmas.List.{length-map}
use Rattle.std.proofs.lemmas.Option.{slice_get_within}
use Rattle.aos_base.specs.declared.number.Width.TheVariants.{W64}
use Rattle.aos_base.specs.declared.operator.Given.{Given}
use Rattle.aos_base.specs.declared.operator.Given.TheVariants.{Number, Trap, Undefined}
use Rattle.aos_base.specs.declared.root.Root.{Root}
use Rattle.aos_base.specs.declared.root.Root.TheVariants as root
use Rattle.aos_base.specs.Operators.{natural, unary as unary_of, binary as binary_of}
use Rattle.aos_base.specs.declared.operator.Binary.TheVariants as operator
use Rattle.aos_base.specs.declared.operator.Unary.TheVariants.{Range}
use Rattle.aos_base.specs.Question.{Val, Asks, Traps, bind, ask, ByName, ByType, Upward, ByValue, Reads, Stores, Copies, PutsText, ComparesTexts, Calls, Ends, Makes, Starts, Enters, Leaves, Awaits, PutsInt, PutsChar, PutsString, PutsNothing, PutsLn, Places, Lengths, Opens, Sizes, Tests}
use Rattle.aos_base.specs.Rooted.{Made, by_number}
use Rattle.aos_types.specs.declared.row.TypeId.{TypeId}
use Rattle.aos_types.specs.declared.row.TypeRow.{TypeRow}
use Rattle.aos_types.specs.declared.row.TypeRow.TheVariants as row
use Rattle.aos_types.specs.Extension.{comes_to}
use Rattle.aos_types.specs.Table.{row_of, is_object, is_open, is_record}
use Rattle.aos_types.proofs.Tables.{comes_on}
use Rattle.aos_typed.specs.declared.tree.Literal.{Literal}
use Rattle.aos_typed.specs.declared.tree.Literal.TheVariants as literal
use Rattle.aos_typed.specs.declared.tree.TType.{TType}
use Rattle.aos_typed.specs.declared.tree.TType.TheVariants as type
use Rattle.aos_typed.specs.Fields.{declarer, declared_as, field_types}
use Rattle.aos_typed.specs.Conditions.{Condition, conditions}
use Rattle.aos_typed.specs.Formals.{Agree, AreSame, HasFormals, pattern_of}
use Rattle.aos_typed.specs.Methods.{method_in, method_number}
use Rattle.aos_typed.specs.Numbers.{body_number, id_of, id_of_made, procedure_number}
use Rattle.aos_typed.specs.Open.{open_dimensions}
use Rattle.aos_typed.specs.Program.{Place, ModuleVar, Local, Passed, Field, Index, Of, Deref, Typed, Guarded, Rows, Known, Opened, Row, Spread, Longer, Arguments, NoMore, Scalar, Whole, Opening, Callee, Plain, Dispatched, Upper, Through, Expr, Lit, SelfRef, Read, Unary, Binary, And, Or, Element, Ord, Chr, CompareTexts, Len, LenBehind, Function, Same, Is, IsRecord, Guard, ProcedureOf, MethodOf, SameProcedure, Had, Parameter, Procedure, Program}
use Rattle.aos_typed.specs.Routines.{Routine, has_self, parameters_at, parameters_of, routine_of, routines, self_type}
use Rattle.aos_typed.specs.Location.{Location, Declared}
use Rattle.aos_typed.specs.Value.{number_of, Value, Int, Flag, Char, Set, Object, Callable, Place as PlaceValue, Sort, Integer, Boolean, Character, Elements, literal_value, value_as, given, is_true, unary_sort, binary_sort}
use Rattle.aos_typed.specs.WellTyped.{Includes, IsArrayOf, IsCalled, IsConstantText, IsFilled, IsGiven, IsNamed, IsObjectAt, IsOf, IsParameter, IsPlaceOf, AreArguments, AreRows, is_basic, is_procedural, is_reference, procedure_in as procedure_of, taken, target}
use Rattle.aos_typed.specs.Meaning.{field_of as field_in, Here, Question, Doing, Found, found, place_in, object_in, instance_in, procedure_in, on_instance, element_of, row_at, dereferenced, sizes_from, lengths_from, is_instance, guarded, has_type, sent, dispatched, bound, bound_to, applied, calls, place_of, rows_of, arguments_of, receiver_of, value_of, called, by_number as by_object}
use Rattle.aos_typed.specs.Source.{arguments_in}
use Rattle.aos_sim.proofs.Does.{HasTypes, IsSelf}
use Rattle.aos_sim.proofs.Methods.{formals_twice}
use Rattle.aos_sim.proofs.Objects.{object_target}
use Rattle.aos_sim.proofs.Operators.{operands_suit}
use Rattle.aos_sim.proofs.References.{pattern_object}
use Rattle.aos_sim.proofs.Routines.{object_there, routine_there}
use Rattle.aos_uses.specs.declared.uses.Target.{Target}
use Rattle.aos_uses.specs.declared.uses.Use.{Use}
use Rattle.aos_uses.specs.declared.uses.Use.TheVariants as used
use Rattle.aos_uses.specs.declared.uses.Variable.{Variable}
use Rattle.aos_uses.specs.declared.uses.Variable.TheVariants as variable
use Rattle.aos_uses.specs.Guarded.{Each, IsGuarded, Spares, is_by_value}
use Rattle.aos_uses.specs.Uses.{is_self, is_own, place_uses, rows_uses, arguments_uses, receiver_uses, expr_uses, call_uses, called as called_uses, callee_number, follows, is_variable, rows_target, target as target_of, varies}
use Rattle.aos_escape.specs.Naming.{AllAre}
use Rattle.aos_escape.proofs.Items.{part}
use Rattle.aos_escape.proofs.Telling.{self_or}
use Rattle.aos_escape.proofs.Values.{all_more}
use Rattle.aos_stability.specs.Locations.{Begins, HasCopy, StartsWith, IsAt, IsFree, IsFreeAt, IsMadeFor, IsTold, AreFreeFor, Serves, StandsFor, field_of}
use Rattle.aos_stability.proofs.Fields.{declarer_on, object_extended, object_extends, whole_object}
use Rattle.aos_stability.proofs.Serving.{basic_serves, fits_serves, pattern_target, plain_serves, any_target}

-- Parts of places.

begins_part : (k i : ℕ) (path : List ℕ) → Begins k (path ++ i ∷ []) → Begins k path
begins_part k i [] h = tt
begins_part k i (j ∷ js) h = h

starts_part : (k i : ℕ) (path : List ℕ) → StartsWith k path → StartsWith k (path ++ i ∷ [])
starts_part k i path h = (h.0 ++ i ∷ [], ap (λ q. q ++ i ∷ []) h.1)

drop_all : {X : Type 0} (xs ys : List X) (n : ℕ) → length xs ≡ n → drop n (xs ++ ys) ≡ ys
drop_all [] ys n e = subst (λ m. drop m ys ≡ ys) e refl
drop_all (x ∷ xs) ys zero e = absurd (cc e)
drop_all (x ∷ xs) ys (suc n) e = let l : length xs ≡ n = cc e in drop_all xs ys n l

module _ (p : Program) (made : ℕ → Option Made) (own : Option Procedure) (self : ℕ) where
  free_part : (r : Root) (path : List ℕ) (i : ℕ) → IsFreeAt p made r path → IsFreeAt p made r (path ++ i ∷ [])
  free_part (root.Frame d) path i h = tt
  free_part (root.Module m) path i h = λ k b g. h k (begins_part k i path b) g
  free_part (root.Object o) path i h = (h.0, h.1, λ f k b g. h.2 f k (begins_part k i path b) g)

  -- a part of a place is of the same variable
  pub part_at : (t : Target) (s : Location) (i type : ℕ) (of : Declared) → IsAt p made own self s t → IsAt p made own self (record { root = s.root; path = s.path ++ i ∷ []; type = type; of = of }) t
  part_at t s i ty d h = by t.of h
    where
      by : (v : Variable) → IsAt p made own self s (record { of = v; through_self = t.through_self }) → IsAt p made own self (record { root = s.root; path = s.path ++ i ∷ []; type = ty; of = d }) (record { of = v; through_self = t.through_self })
      by (variable.Module m k) h = (h.0, starts_part k i s.path h.1)
      by (variable.Field u k) h = (h.0, h.1, h.2, h.3, h.4, h.5, starts_part k i s.path h.6, h.7)
      by variable.Local h = h
      by variable.Passed h = free_part s.root s.path i h
      by (variable.Opened k) h = (free_part s.root s.path i h.0, h.1)
      by variable.Heap h = free_part s.root s.path i h

  -- and so it is as a record of another type
  at_typed : (t : Target) (s : Location) (type : ℕ) → IsAt p made own self s t → IsAt p made own self (record s { type = type }) t
  at_typed t s ty h = by t.of h
    where
      by : (v : Variable) → IsAt p made own self s (record { of = v; through_self = t.through_self }) → IsAt p made own self (record s { type = ty }) (record { of = v; through_self = t.through_self })
      by (variable.Module m k) h = h
      by (variable.Field u k) h = h
      by variable.Local h = h
      by variable.Passed h = h
      by (variable.Opened k) h = h
      by variable.Heap h = h

  begins_with : (k j : ℕ) (path : List ℕ) → StartsWith k path → Begins j path → k ≡ j
  begins_with k j path h b = subst (Begins j) h.1 b

  -- a place of a variable that isn't guarded is free
  pub at_free : (t : Target) (s : Location) → ((v : Variable) → IsGuarded p v → t.of ≡ v → ⊥) → IsAt p made own self s t → IsFreeAt p made s.root s.path
  at_free t s never h = by t.of refl h
    where
      by : (v : Variable) → t.of ≡ v → IsAt p made own self s (record { of = v; through_self = t.through_self }) → IsFreeAt p made s.root s.path
      by (variable.Module m k) e h =
          subst (λ r. IsFreeAt p made r s.path) (sym h.0)
          (λ j b g. let same = begins_with k j s.path h.1 b in never (variable.Module m j) g (e ∙ ap (λ i. variable.Module m i) same))
      by (variable.Field u k) e h =
          subst (λ r. IsFreeAt p made r s.path) (sym h.2)
          (h.1, h.3, λ f j b g. let same = begins_with k j s.path h.6 b in never (field_of p h.1 j) g (e ∙ sym h.5 ∙ ap (λ i. field_of p h.1 i) same))
      by variable.Local e h = subst (λ r. IsFreeAt p made r s.path) (sym h.1) tt
      by variable.Passed e h = h
      by (variable.Opened k) e h = h.0
      by variable.Heap e h = h

  place_free : (v : Value) → IsFree p made v → IsFreeAt p made (place_in v).root (place_in v).path
  place_free (PlaceValue s) h = h
  place_free (Int z) h = tt
  place_free (Flag b) h = tt
  place_free (Char c) h = tt
  place_free (Set x) h = tt
  place_free (Object o) h = tt
  place_free (Callable q o) h = tt

  -- what agrees in its kinds is free alike
  pub agree_free : (as' bs : List Parameter) (vs : List Value) → Agree p.types as' bs → AreFreeFor p made bs vs → AreFreeFor p made as' vs
  agree_free [] [] vs e h = tt
  agree_free [] (b ∷ bs) vs e h = tt
  agree_free (a ∷ as') [] vs e h = absurd e
  agree_free (a ∷ as') (b ∷ bs) vs e h =
      let same : size a ≡ size b = sizes e.1 in
      (λ r. h.0 (sym e.0 ∙ r), agree_free as' bs (drop (size a) vs) e.2 (subst (λ m. AreFreeFor p made bs (drop m vs)) (sym same) h.1))
    where
      size : Parameter → ℕ
      size x = if is_open (row_of p.types (id_of x.of)) then suc (open_dimensions p.types (id_of x.of)) else 1

      sizes : AreSame p.types a.of b.of → size a ≡ size b
      sizes (inl same) = ap (λ t. if is_open (row_of p.types (id_of t)) then suc (open_dimensions p.types (id_of t)) else 1) same
      sizes (inr x) = (λ i. if x.0 i then suc (open_dimensions p.types (id_of a.of)) else 1) ∙ ap suc x.2 ∙ sym (λ i. if x.1 i then suc (open_dimensions p.types (id_of b.of)) else 1)

parameter_there : (own : Option Procedure) (k : ℕ) (a : Parameter) → option_and_then (λ q. slice_get q.parameters k) own ≡ Some a → slice_get (parameters_of own) k ≡ Some a
parameter_there None k a e = absurd (cc e)
parameter_there (Some q) k a e = e

not_true : (b : Bool) → not b ≡ true → b ≡ false
not_true true e = absurd (cc e)
not_true false e = refl

-- In a frame of the routine with this number: x says whether a region is open around the text, and Ok which uses it may make, which spare what
-- is guarded.
module _ (p : Program) (typed : HasTypes p) (made : ℕ → Option Made) (n : ℕ) (r : Routine) (here : Here) (is_self_of : IsSelf p made (self_type r.own) here.self) (x : Bool) (Ok : Use → Type 0) (spares : (u : Use) → Ok u → (v : Variable) → IsGuarded p v → Spares p v n r u) where
  abbrev own : Option Procedure
  own = r.own

  abbrev pub At : Location → Target → Type 0
  At s t = IsAt p made own here.self s t

  abbrev pub Are : TType → Value → Type 0
  Are t v = Serves p made t v

  abbrev pub AreSpared : List Use → Type 0
  AreSpared us = Each Ok us

  -- a place is written that a text may write so
  abbrev pub IsWritten : Location → Type 0
  IsWritten s = (t : Target) × At s t × Ok (used.Writes t x)

  -- or read
  abbrev pub IsRead : Location → Type 0
  IsRead s = (t : Target) × At s t × Ok (used.Reads t)

  abbrev pub IsHanded : ℕ → List Value → Type 0
  IsHanded q vs = (y : Routine) → by_number q (routines p) ≡ Some y → AreFreeFor p made (parameters_of y.own) (arguments_in (has_self y.own) vs)

  abbrev pub IsThere : Value → Type 0
  IsThere u = (m : Made) × (made (object_in u) ≡ Some m)

  abbrev pub MayAsk : Question → Type 0
  MayAsk (Reads t s) = IsRead s
  MayAsk (Stores s v) = IsWritten s × IsFree p made v
  MayAsk (Copies t from to) = IsWritten to
  MayAsk (PutsText strict from k to room) = IsWritten to
  MayAsk (ComparesTexts c a k b j) = IsRead a × IsRead b
  MayAsk (Calls how q vs) = IsHanded q vs
  MayAsk (Ends v) = Unit {0}
  MayAsk (Makes t vs) = Unit {0}
  MayAsk (Starts v) = Unit {0}
  MayAsk Enters = Unit {0}
  MayAsk Leaves = Unit {0}
  MayAsk (Awaits c) = (d : Condition) × (slice_get (conditions p) c ≡ Some d) × (d.home ≡ r.home) × (d.own ≡ r.own)
  MayAsk (PutsInt v k) = Unit {0}
  MayAsk (PutsChar v) = Unit {0}
  MayAsk (PutsString a k) = Unit {0}
  MayAsk PutsNothing = Unit {0}
  MayAsk PutsLn = Unit {0}
  MayAsk (Places s) = Unit {0}
  MayAsk (Lengths s) = Unit {0}
  MayAsk (Opens u) = IsThere u
  MayAsk (Sizes u d) = IsThere u
  MayAsk (Tests u t) = IsThere u

  abbrev pub Law : {T : Type 0} → (T → Type 0) → Doing T → Type 0
  Law R (Val a) = R a
  Law R (Traps k c) = Unit {0}
  Law R (Asks q k) = MayAsk q × ((v : Value) → IsTold p made own q v → Law R (k v))

  pub law_bind : {A B : Type 0} (R : A → Type 0) (S : B → Type 0) (d : Doing A) (k : A → Doing B) → Law R d → ((a : A) → R a → Law S (k a)) → Law S (bind d k)
  law_bind R S (Val a) k h f = f a h
  law_bind R S (Traps j c) k h f = tt
  law_bind R S (Asks q g) k h f = (h.0, λ v c. law_bind R S (g v) k (h.1 v c) f)

  abbrev Any : {T : Type 0} → T → Type 0
  Any a = Unit {0}

  -- Values of basic types.

  pub as_serves : (t : TType) (s : Sort) (z : ℤ) → Are t (value_as s z)
  as_serves t Integer z = plain_serves p typed made t _ refl refl tt
  as_serves t Boolean z = plain_serves p typed made t _ refl refl tt
  as_serves t Character z = plain_serves p typed made t _ refl refl tt
  as_serves t Elements z = plain_serves p typed made t _ refl refl tt

  pub given_law : (t : TType) (s : Sort) (g : Given) → Law (Are t) (given s g)
  given_law t s (Number z) = as_serves t s z
  given_law t s (Trap k) = tt
  given_law t s Undefined = as_serves t s (pos 0)

  literal_serves : (t : TType) (l : Literal) → Are t (literal_value l)
  literal_serves t (literal.Int k) = plain_serves p typed made t _ refl refl tt
  literal_serves t (literal.Bool b) = plain_serves p typed made t _ refl refl tt
  literal_serves t (literal.Char c) = plain_serves p typed made t _ refl refl tt
  literal_serves t (literal.Set s) = plain_serves p typed made t _ refl refl tt
  literal_serves t (literal.Text c) = plain_serves p typed made t _ refl refl tt
  literal_serves t literal.Nil = plain_serves p typed made t _ refl refl tt
  literal_serves t literal.NoProcedure = plain_serves p typed made t _ refl refl tt

  pub flag_serves : (t : TType) (b : Bool) → Are t (Flag b)
  flag_serves t b = plain_serves p typed made t (Flag b) refl refl tt

  basic_included : (t : TType) (w : _) → Includes t (type.Integer w) → is_basic t ≡ true
  basic_included (type.Integer v) w e = refl
  basic_included type.Boolean w e = absurd (cc e)
  basic_included type.Char w e = absurd (cc e)
  basic_included type.Set w e = absurd (cc e)
  basic_included type.Any w e = absurd (cc e)
  basic_included (type.Named k) w e = absurd (cc e)

  -- SELF
  self_made : (s : ℕ) → self_type own ≡ Some s → (k : ℕ) × (m : Made) × (here.self ≡ suc k) × (made (suc k) ≡ Some m) × (comes_to p.types (id_of_made m.type) (id_of_made (suc s)) ≡ true)
  self_made s e = let h = subst (λ t. IsSelf p made t here.self) e is_self_of in (h.0, h.1, h.2, h.3, h.5)

  self_serves : (s : ℕ) → self_type own ≡ Some s → is_object (row_of p.types (id_of (type.Named s))) ≡ true → Are (type.Named s) (Object here.self)
  self_serves s e object =
      let h = self_made s e in
      let to = object_target p.types (id_of (type.Named s)) (row_of p.types (id_of (type.Named s))) object in
      record {
        points = λ is. inr (h.1, ap made h.2 ∙ h.3, λ b f. let both : Some (id_of (type.Named s)) ≡ Some b = sym to ∙ f in let same : id_of (type.Named s) ≡ b = cc both in subst (λ z. comes_to p.types (id_of_made h.1.type) z ≡ true) same h.4);
        calls = λ q f. absurd (pattern_target p typed (type.Named s) q (id_of (type.Named s)) f to);
        free = tt;
      }

  -- Objects that are followed.

  record IsOpened (t : TType) (v : Value) (s : Location) : Type 0 where
    number : ℕ
    is : object_in v ≡ suc number
    of : Made
    there : made (suc number) ≡ Some of
    leads : (b : TypeId) → target p.types t ≡ Some b → comes_to p.types (id_of_made of.type) b ≡ true
    at : s.root ≡ root.Object (suc number)
    path : s.path ≡ []

  pointed : (t : TType) (v : Value) → is_reference p.types t ≡ true → Are t v → (k : ℕ) → object_in v ≡ suc k → IsMadeFor p made t (object_in v)
  pointed t v ref s k e = by (s.points ref)
    where
      by : (object_in v ≡ 0) ⊎ IsMadeFor p made t (object_in v) → IsMadeFor p made t (object_in v)
      by (inl nil) = let no : 0 ≡ suc k = sym nil ∙ e in absurd (cc no)
      by (inr x) = x

  opened_location : (t : TType) (v : Value) (k : ℕ) (e : object_in v ≡ suc k) → IsMadeFor p made t (object_in v) → (y : Value) → IsTold p made own (Opens v) y → (ty : ℕ) → IsOpened t v (record (place_in y) { type = ty })
  opened_location t v k e x y told ty =
      let place = ap place_in told.2 in
      record {
        number = k;
        is = e;
        of = x.0;
        there = ap made (sym e) ∙ x.1;
        leads = x.2;
        at = ap (λ (z : Location). z.root) place ∙ ap (λ o. root.Object o) e;
        path = ap (λ (z : Location). z.path) place;
      }

  opened_law : (t : TType) (v : Value) → is_reference p.types t ≡ true → Are t v → Law (IsOpened t v) (dereferenced v)
  opened_law t v ref s = by (object_in v) refl
    where
      by : (o : ℕ) → object_in v ≡ o → Law (IsOpened t v) (by_object o (Traps 1 0) (bind (ask (Opens v)) (λ y. Val (place_in y))))
      by zero e = tt
      by (suc k) e = let y = pointed t v ref s k e in ((y.0, y.1), λ z told. opened_location t v k e y z told (place_in z).type)

  -- what leads somewhere is a reference
  leads_reference : (t : TType) (b : TypeId) → target p.types t ≡ Some b → is_reference p.types t ≡ true
  leads_reference (type.Integer w) b e = ap is_some e
  leads_reference type.Boolean b e = ap is_some e
  leads_reference type.Char b e = ap is_some e
  leads_reference type.Set b e = ap is_some e
  leads_reference type.Any b e = refl
  leads_reference (type.Named k) b e = ap is_some e

  -- what a pointer leads to that is no object is of no variable
  heap_free : (t : TType) (b : TypeId) (v : Value) (s : Location) → target p.types t ≡ Some b → (is_object (row_of p.types b) ≡ true → ⊥) → IsOpened t v s → IsFreeAt p made s.root s.path
  heap_free t b v s to none h =
      subst (λ z. IsFreeAt p made z s.path) (sym h.at)
      (h.of, h.there, λ f k g. absurd (none (object_extended p.types typed.ranked typed.bases typed.record_bases (id_of_made h.of.type) b (h.leads b to) f)))

  -- a field of an object
  object_field : (t : TType) (v : Value) (s : Location) (k : ℕ) (f : TypeId) (through : Bool) → is_object (row_of p.types (id_of t)) ≡ true → slice_get (field_types p.types (id_of t)) k ≡ Some f → (through ≡ true → object_in v ≡ here.self) → IsOpened t v s → (of : _) →
      At (record { root = s.root; path = s.path ++ k ∷ []; type = 0; of = of }) (record { of = variable.Field (declarer p.types (id_of t) k).0 k; through_self = through })
  object_field t v s k f through object there own_is h of =
      let to = object_target p.types (id_of t) (row_of p.types (id_of t)) object in
      let extends = h.leads (id_of t) to in (
        h.number,
        h.of,
        h.at,
        h.there,
        object_extends p.types typed.ranked typed.bases typed.record_bases (id_of_made h.of.type) (id_of t) extends object,
        ap (λ (z : TypeId). variable.Field z.0 k) (declarer_on p.types typed.ranked (id_of_made h.of.type) (id_of t) k extends (slice_get_within (field_types p.types (id_of t)) k f there)),
        ([], ap (λ q. q ++ k ∷ []) h.path),
        λ e. sym h.is ∙ own_is e,
      )

  -- Pieces of designators.

  element_law : (k : ℕ) (v : Value) (s : Location) (t : Target) → At s t → Law (λ y. At y t) (element_of k v s)
  element_law k v s t h = by (natural k (number_of v)) refl
    where
      by : (o : Option ℕ) → natural k (number_of v) ≡ o → Law (λ y. At y t) (element_of k v s)
      by None e = rw e tt
      by (Some i) e = rw e (part_at p made own here.self t s i 0 s.of h)

  -- an array at a place, with so many lengths, which are no places
  abbrev pub RowsAt : Target → ℕ → Found → Type 0
  RowsAt t k y = At y.place t × (length y.lengths ≡ k) × AllAre (IsFree p made) y.lengths

  row_law : (s : Location) (ls : List Value) (v : Value) (t : Target) (k : ℕ) → At s t → length ls ≡ suc k → AllAre (IsFree p made) ls → Law (RowsAt t k) (row_at (record { place = s; lengths = ls }) v)
  row_law s [] v t k h e f = absurd (cc e)
  row_law s (l ∷ ls) v t k h e f =
      law_bind (λ y. At y t) (RowsAt t k) (element_of (unsigned_abs (number_of l)) v s) _ (element_law (unsigned_abs (number_of l)) v s t h) (λ y a. (a, cc e, f.1))

  numbers_free : (ns : List ℕ) → AllAre (IsFree p made) (map (λ k. Int (pos k)) ns)
  numbers_free [] = tt
  numbers_free (k ∷ ns) = (tt, numbers_free ns)

  one_free : (d : ℕ) (vs : List Value) → AllAre (IsFree p made) vs → IsFree p made (unwrap_or (slice_get vs d) (Int (pos 0)))
  one_free d [] h = tt
  one_free zero (v ∷ vs) h = h.0
  one_free (suc d) (v ∷ vs) h = one_free d vs h.1

  abbrev SoMany : ℕ → List Value → Type 0
  SoMany k ls = (length ls ≡ k) × AllAre (IsFree p made) ls

  sizes_law : (v : Value) → IsThere v → (d k : ℕ) → Law (SoMany k) (sizes_from v d k)
  sizes_law v there d zero = (refl, tt)
  sizes_law v there d (suc k) = (there, λ y c. law_bind (SoMany k) (SoMany (suc k)) (sizes_from v (suc d) k) _ (sizes_law v there (suc d) k) (λ ls h. (ap suc h.0, (c, h.1))))

  lengths_law : (i d k : ℕ) → Law (SoMany k) (lengths_from p here i d k)
  lengths_law i d zero = (refl, tt)
  lengths_law i d (suc k) = (tt, λ y c. law_bind (SoMany k) (SoMany (suc k)) (lengths_from p here i (suc d) k) _ (lengths_law i (suc d) k) (λ ls h. (ap suc h.0, (c, h.1))))

  -- an open array parameter by value has a copy
  has_copy : (i : ℕ) (a : Parameter) → IsParameter p own i a → is_open (row_of p.types (id_of a.of)) ≡ true → is_by_value own i ≡ true → HasCopy p own i
  has_copy i a there opens by_value =
      let at : slice_get (parameters_of own) i ≡ Some a = parameter_there own i a there in
      let known : not a.by_reference ≡ true = ap (λ o. unwrap_or (option_map (λ (z : Parameter). not z.by_reference) o) false) (sym at) ∙ by_value in
      record { parameter = a; there = at; is_opened = opens; by_value = not_true a.by_reference known }

  record_no_object : (o : Option TypeRow) → is_record o ≡ true → is_object o ≡ false
  record_no_object None e = refl
  record_no_object (Some (row.Basic b)) e = refl
  record_no_object (Some (row.Array k t)) e = refl
  record_no_object (Some (row.Open t)) e = refl
  record_no_object (Some (row.Record base fields)) e = refl
  record_no_object (Some (row.Pointer t)) e = refl
  record_no_object (Some (row.Object base fields)) e = absurd (cc e)
  record_no_object (Some (row.Procedure fs t)) e = refl
  record_no_object (Some row.Any) e = refl

  open_no_object : (o : Option TypeRow) → is_open o ≡ true → is_object o ≡ true → ⊥
  open_no_object None e f = cc e
  open_no_object (Some (row.Basic b)) e f = cc e
  open_no_object (Some (row.Array k t)) e f = cc e
  open_no_object (Some (row.Open t)) e f = cc f
  open_no_object (Some (row.Record base fields)) e f = cc e
  open_no_object (Some (row.Pointer t)) e f = cc e
  open_no_object (Some (row.Object base fields)) e f = cc e
  open_no_object (Some (row.Procedure fs t)) e f = cc e
  open_no_object (Some row.Any) e f = cc e

  -- Calls.

  -- a method, and what overrides it
  pub method_stands : (t k : ℕ) (q : Procedure) → method_in p t k ≡ Some q → (home : ℕ) × (by_number (method_number p t k) (routines p) ≡ Some (routine_of home q)) × (has_self (Some q) ≡ true)
  method_stands t k q e = let m = typed.methods.found t k q e in (m.home, m.there, ap is_some m.is)

  -- what is called is this procedure
  pub handed_to : (num home : ℕ) (q s : Procedure) (vs us : List Value) → by_number num (routines p) ≡ Some (routine_of home q) → arguments_in (has_self (Some q)) vs ≡ us → Agree p.types q.parameters s.parameters → AreFreeFor p made s.parameters us → IsHanded num vs
  handed_to num home q s vs us there args agree free y e =
      let both : Some (routine_of home q) ≡ Some y = sym there ∙ e in
      let same : routine_of home q ≡ y = cc both in
      subst (λ z. AreFreeFor p made (parameters_of z.own) (arguments_in (has_self z.own) vs)) same
      (subst (AreFreeFor p made q.parameters) (sym args) (agree_free p made own here.self q.parameters s.parameters us agree free))

  -- its result is of the type
  abbrev pub Gives : Procedure → Value → Type 0
  Gives q v = (u : TType) → q.result ≡ Some u → Are u v

  pub told_gives : (num home : ℕ) (q s : Procedure) (how : _) (vs : List Value) (v : Value) → by_number num (routines p) ≡ Some (routine_of home q) → q.result ≡ s.result → IsTold p made own (Calls how num vs) v → Gives s v
  told_gives num home q s how vs v there same told u e = told (routine_of home q) u there (same ∙ e)

  pub agree_same : (as' : List Parameter) → Agree p.types as' as'
  agree_same [] = tt
  agree_same (a ∷ as') = (refl, inl refl, agree_same as')

  dispatched_law : (v : Value) (t k : ℕ) (q : Procedure) (vs : List Value) (d : ℕ) → method_in p t k ≡ Some q → AreFreeFor p made q.parameters vs → Law (Gives q) (dispatched p v t k vs d)
  dispatched_law v t k q vs zero is free = tt
  dispatched_law v t k q vs (suc d) is free = by (comes_to p.types (id_of_made (suc d)) (id_of_made (suc t))) refl
    where
      by : (b : Bool) → comes_to p.types (id_of_made (suc d)) (id_of_made (suc t)) ≡ b → Law (Gives q) (if b then ask (Calls ByType (method_number p d k) (v ∷ vs)) else Traps 1 0)
      by false e = tt
      by true e =
          let o = typed.methods.overridden d t k q e is in
          let m = method_stands d k o.0 o.1 in (
            handed_to (method_number p d k) m.0 o.0 q (v ∷ vs) vs m.1 (ap (λ b. arguments_in b (v ∷ vs)) m.2) o.2.0.0 free,
            λ y told. told_gives (method_number p d k) m.0 o.0 q ByType (v ∷ vs) y m.1 o.2.0.1 told,
          )

  sent_law : (v : Value) (t k : ℕ) (q : Procedure) (vs : List Value) → Are (type.Named t) v → is_object (row_of p.types (id_of (type.Named t))) ≡ true → method_in p t k ≡ Some q → AreFreeFor p made q.parameters vs → Law (Gives q) (sent p v t k vs)
  sent_law v t k q vs s object is free = by (object_in v) refl
    where
      ref : is_reference p.types (type.Named t) ≡ true
      ref = leads_reference (type.Named t) (id_of (type.Named t)) (object_target p.types (id_of (type.Named t)) (row_of p.types (id_of (type.Named t))) object)

      by : (o : ℕ) → object_in v ≡ o → Law (Gives q) (by_object o (Traps 1 0) (bind (ask (Opens v)) (λ y. dispatched p v t k vs (place_in y).type)))
      by zero e = tt
      by (suc i) e = let y = pointed (type.Named t) v ref s i e in ((y.0, y.1), λ z told. dispatched_law v t k q vs (place_in z).type is free)

  bound_law : (v : Value) (j k : ℕ) (q : Procedure) (R : Value → Type 0) → Are (type.Named j) v → is_object (row_of p.types (id_of (type.Named j))) ≡ true → method_in p j k ≡ Some q →
      ((d home : ℕ) (o : Procedure) → by_number (method_number p d k) (routines p) ≡ Some (routine_of home o) → HasFormals p.types o q → has_self (Some o) ≡ true → (i : ℕ) → object_in v ≡ suc i → R (Callable (method_number p d k) (object_in v))) → Law R (bound p v j k)
  bound_law v j k q R s object is of = by (object_in v) refl
    where
      ref : is_reference p.types (type.Named j) ≡ true
      ref = leads_reference (type.Named j) (id_of (type.Named j)) (object_target p.types (id_of (type.Named j)) (row_of p.types (id_of (type.Named j))) object)

      to : (i : ℕ) → object_in v ≡ suc i → (d : ℕ) → Law R (bound_to p v j k d)
      to i at zero = tt
      to i at (suc d) = tested (comes_to p.types (id_of_made (suc d)) (id_of_made (suc j))) refl
        where
          tested : (b : Bool) → comes_to p.types (id_of_made (suc d)) (id_of_made (suc j)) ≡ b → Law R (if b then Val (Callable (method_number p d k) (object_in v)) else Traps 1 0)
          tested false e = tt
          tested true e = let o = typed.methods.overridden d j k q e is in let m = method_stands d k o.0 o.1 in of d m.0 o.0 m.1 o.2.0 m.2 i at

      by : (o : ℕ) → object_in v ≡ o → Law R (by_object o (Traps 1 0) (bind (ask (Opens v)) (λ y. bound_to p v j k (place_in y).type)))
      by zero e = tt
      by (suc i) e = let y = pointed (type.Named j) v ref s i e in ((y.0, y.1), λ z told. to i e (place_in z).type)

  applied_law : (v : Value) (t : TType) (q : Procedure) (vs : List Value) → pattern_of p t ≡ Some q → Are t v → AreFreeFor p made q.parameters vs → Law (Gives q) (applied v vs)
  applied_law v t q vs pattern s free = by (procedure_in v) refl (s.calls q pattern)
    where
      by : (k : ℕ) → procedure_in v ≡ k → (procedure_in v ≡ 0) ⊎ StandsFor p made q v → Law (Gives q) (by_object k (Traps 1 0) (ask (Calls ByValue (procedure_in v) (on_instance (instance_in v) vs))))
      by zero e c = tt
      by (suc k) e (inl nil) = let no : 0 ≡ suc k = sym nil ∙ e in absurd (cc no)
      by (suc k) e (inr c) = (
        handed_to (procedure_in v) c.home c.procedure q (on_instance (instance_in v) vs) vs c.there (c.handed vs) c.formals.0 free,
        λ y told. told_gives (procedure_in v) c.home c.procedure q ByValue (on_instance (instance_in v) vs) y c.there c.formals.1 told,
      )

  abbrev ReceiverIs : Callee → Value → Type 0
  ReceiverIs (Plain m k) v = Unit {0}
  ReceiverIs (Dispatched e t k) v = Are (type.Named t) v
  ReceiverIs (Upper t k) v = Unit {0}
  ReceiverIs (Through e t) v = Are (type.Named t) v

  calls_law : (c : Callee) (q : Procedure) → IsCalled p own c q → (o : Value) (vs : List Value) → ReceiverIs c o → AreFreeFor p made q.parameters vs → Law (Gives q) (calls p c o vs)
  calls_law (Plain m k) q h o vs s free =
      let there = routine_there p m k q h in
      let none = typed.plain m k q h in (
        handed_to (procedure_number p m k) m q q vs vs there (ap (λ z. arguments_in (is_some z) vs) none) (agree_same q.parameters) free,
        λ y told. told_gives (procedure_number p m k) m q q ByName vs y there refl told,
      )
  calls_law (Dispatched e t k) q h o vs s free = sent_law o t k q vs s h.1 h.2 free
  calls_law (Upper t k) q h o vs s free =
      let m = method_stands t k q h.3 in (
        handed_to (method_number p t k) m.0 q q (o ∷ vs) vs m.1 (ap (λ b. arguments_in b (o ∷ vs)) m.2) (agree_same q.parameters) free,
        λ y told. told_gives (method_number p t k) m.0 q q Upward (o ∷ vs) y m.1 refl told,
      )
  calls_law (Through e t) q h o vs s free = applied_law o (type.Named t) q vs h.1 s free

  -- the parameters under the number that a call names
  pub at_number : (num home : ℕ) (q : Procedure) → by_number num (routines p) ≡ Some (routine_of home q) → parameters_at p num ≡ q.parameters
  at_number num home q e = ap (λ o. parameters_of (option_and_then (λ y. y.own) o)) e

  pub called_parameters : (c : Callee) (q : Procedure) → IsCalled p own c q → parameters_at p (callee_number p c) ≡ q.parameters
  called_parameters (Plain m k) q h = at_number (procedure_number p m k) m q (routine_there p m k q h)
  called_parameters (Dispatched e t k) q h = let m = method_stands t k q h.2 in at_number (method_number p t k) m.0 q m.1
  called_parameters (Upper t k) q h = let m = method_stands t k q h.3 in at_number (method_number p t k) m.0 q m.1
  called_parameters (Through e t) q h =
      let o = pattern_object p t q h.1 in
      at_number (body_number p t) o.0.home o.0.body (object_there p t o.0 o.1) ∙ ap (λ (z : Procedure). z.parameters) o.2

  -- flags of parameters from one on
  abbrev pub AreFlags : (num i : ℕ) → List Parameter → Type 0
  AreFlags num i ps = (j : ℕ) (a : Parameter) → slice_get ps j ≡ Some a → is_variable p num (i + j) ≡ a.by_reference

  pub flags_of : (num : ℕ) (ps : List Parameter) → parameters_at p num ≡ ps → AreFlags num 0 ps
  flags_of num ps e j a there = let z : 0 + j ≡ j = omega arith in ap (is_variable p num) z ∙ ap (λ l. unwrap_or (option_map (λ (z : Parameter). z.by_reference) (slice_get l j)) false) e ∙ ap (λ o. unwrap_or (option_map (λ (z : Parameter). z.by_reference) o) false) there

  first_flag : (num i : ℕ) (a : Parameter) (ps : List Parameter) → AreFlags num i (a ∷ ps) → is_variable p num i ≡ a.by_reference
  first_flag num i a ps f = let z : i + 0 ≡ i = omega arith in ap (is_variable p num) (sym z) ∙ f 0 a refl

  later_flags : (num i : ℕ) (a : Parameter) (ps : List Parameter) → AreFlags num i (a ∷ ps) → AreFlags num (suc i) ps
  later_flags num i a ps f j b e = let z : suc i + j ≡ i + suc j = omega arith in ap (is_variable p num) z ∙ f (suc j) b e

  -- what is handed over for a VAR parameter isn't guarded
  varied_free : (num i : ℕ) (a : Parameter) (t : Target) (s : Location) → is_variable p num i ≡ a.by_reference → AreSpared (varies (is_variable p num i) t) → At s t → a.by_reference ≡ true → IsFreeAt p made s.root s.path
  varied_free num i a t s flag us at ref =
      let spared = subst (λ b. AreSpared (varies b t)) (flag ∙ ref) us in at_free p made own here.self t s (λ v g e. spares (used.Varies t) spared.0 v g e) at

  -- the result of a call that a value of a procedure type stands for
  procedure_serves : (t : TType) (m k : ℕ) (q : Procedure) → procedure_of p m k ≡ Some q → (c : Procedure) → pattern_of p t ≡ Some c → HasFormals p.types q c → Are t (Callable (procedure_number p m k) 0)
  procedure_serves t m k q there c pattern formals =
      record {
        points = λ e. inl refl;
        calls = λ d e.
            let both : Some c ≡ Some d = sym pattern ∙ e in
            let same : c ≡ d = cc both in
            inr (record {
              home = m;
              procedure = q;
              there = routine_there p m k q there;
              formals = subst (HasFormals p.types q) same formals;
              handed = λ vs. ap (λ z. arguments_in (is_some z) vs) (typed.plain m k q there);
            });
        free = tt;
      }

  method_serves : (t : TType) (v : Value) (q c : Procedure) → pattern_of p t ≡ Some c → HasFormals p.types q c → (d k home : ℕ) (o : Procedure) → by_number (method_number p d k) (routines p) ≡ Some (routine_of home o) → HasFormals p.types o q → has_self (Some o) ≡ true → (i : ℕ) → object_in v ≡ suc i → Are t (Callable (method_number p d k) (object_in v))
  method_serves t v q c pattern formals d k home o there own_formals method i at =
      record {
        points = λ e. inl refl;
        calls = λ z e.
            let both : Some c ≡ Some z = sym pattern ∙ e in
            let same : c ≡ z = cc both in
            inr (record {
              home = home;
              procedure = o;
              there = there;
              formals = subst (HasFormals p.types o) same (formals_twice p o q c own_formals formals);
              handed = λ vs. ap (λ b. arguments_in b (on_instance (object_in v) vs)) method ∙ ap (λ z. arguments_in true (on_instance z vs)) at;
            });
        free = tt;
      }

  -- a test of an object's type
  tests_law : (R : Value → Type 0) (t : TType) (v : Value) (k : ℕ) (a : Doing Value) (on : Value → Doing Value) → is_reference p.types t ≡ true → Are t v → Law R a → ((x : IsMadeFor p made t (object_in v)) (y : Value) → IsTold p made own (Tests v (suc k)) y → Law R (on y)) → Law R (by_object (object_in v) a (bind (ask (Tests v (suc k))) on))
  tests_law R t v k a on ref s none f = by (object_in v) refl
    where
      by : (o : ℕ) → object_in v ≡ o → Law R (by_object o a (bind (ask (Tests v (suc k))) on))
      by zero e = none
      by (suc i) e = let y = pointed t v ref s i e in ((y.0, y.1), λ z told. f y z told)

  told_flag : (t : TType) (v : Value) (k : ℕ) (y : Value) → IsTold p made own (Tests v (suc k)) y → Are t y
  told_flag t v k y told = subst (Are t) (sym told.2) (flag_serves t _)

  is_law : (t : TType) (u : TType) (v : Value) (k : ℕ) → is_reference p.types u ≡ true → Are u v → Law (Are t) (is_instance v k)
  is_law t u v k ref s = by (object_in v) refl
    where
      by : (o : ℕ) → object_in v ≡ o → Law (Are t) (by_object o (Val (Flag false)) (ask (Tests v (suc k))))
      by zero e = flag_serves t false
      by (suc i) e = let y = pointed u v ref s i e in ((y.0, y.1), λ z told. told_flag t v k z told)

  -- behind a guard the object's type extends the one tested
  guard_serves : (t : TType) (v : Value) (k : ℕ) → (t ≡ type.Any) ⊎ ((b : TypeId) × (target p.types t ≡ Some b) × (comes_to p.types (id_of (type.Named k)) b ≡ true)) → IsFree p made v → (m : Made) → made (object_in v) ≡ Some m → comes_to p.types (id_of_made m.type) (id_of_made (suc k)) ≡ true → Are t v
  guard_serves t v k fits free m there extends = record { points = λ e. inr (m, there, λ b e. leads b e fits); calls = λ q e. absurd (none q e fits); free = free }
    where
      leads : (b : TypeId) → target p.types t ≡ Some b → (t ≡ type.Any) ⊎ ((c : TypeId) × (target p.types t ≡ Some c) × (comes_to p.types (id_of (type.Named k)) c ≡ true)) → comes_to p.types (id_of_made m.type) b ≡ true
      leads b e (inl any) = absurd (any_target p typed b (subst (λ z. target p.types z ≡ Some b) any e))
      leads b e (inr g) =
          let both : Some g.0 ≡ Some b = sym g.1 ∙ e in
          let same : g.0 ≡ b = cc both in
          comes_on p.types typed.ranked (id_of_made m.type) (id_of (type.Named k)) b extends (subst (λ z. comes_to p.types (id_of (type.Named k)) z ≡ true) same g.2)

      none : (q : Procedure) → pattern_of p t ≡ Some q → (t ≡ type.Any) ⊎ ((c : TypeId) × (target p.types t ≡ Some c) × (comes_to p.types (id_of (type.Named k)) c ≡ true)) → ⊥
      none q e (inl any) = let no : None ≡ Some q = subst (λ z. pattern_of p z ≡ Some q) any e in cc no
      none q e (inr g) = pattern_target p typed t q g.0 e g.1

  guarded_law : (t u : TType) (v : Value) (k : ℕ) → is_reference p.types u ≡ true → Are u v → (t ≡ type.Any) ⊎ ((b : TypeId) × (target p.types t ≡ Some b) × (comes_to p.types (id_of (type.Named k)) b ≡ true)) → Law (Are t) (guarded v k)
  guarded_law t u v k ref s fits =
      tests_law (Are t) u v k (Traps 3 0) (λ b. if is_true b then Val v else Traps 3 0) ref s tt
      (λ x y told. let m = told.0 in
      subst (λ z. Law (Are t) (if is_true z then Val v else Traps 3 0)) (sym told.2) (by m told.1 (comes_to p.types (id_of_made m.type) (id_of_made (suc k))) refl))
    where
      by : (m : Made) → made (object_in v) ≡ Some m → (b : Bool) → comes_to p.types (id_of_made m.type) (id_of_made (suc k)) ≡ b → Law (Are t) (if is_true (Flag b) then Val v else Traps 3 0)
      by m there true e = guard_serves t v k fits s.free m there e
      by m there false e = tt

  pub weaken : {A : Type 0} (R : A → Type 0) (d : Doing A) → Law R d → Law Any d
  weaken R (Val a) h = tt
  weaken R (Traps j c) h = tt
  weaken R (Asks q k) h = (h.0, λ v c. weaken R (k v) (h.1 v c))

  -- the variable of a field
  field_target : (q : Place) (t : TType) (k : ℕ) (s : Location) (b : Bool) → is_object (row_of p.types (id_of t)) ≡ b → (b ≡ false → At s (target_of p q)) → (b ≡ true → At s (record { of = variable.Field (declarer p.types (id_of t) k).0 k; through_self = is_own q })) → At s (target_of p (Field q t k))
  field_target q t k s true e f g =
      subst (λ b. At s (if b then record { of = variable.Field (declarer p.types (id_of t) k).0 k; through_self = is_own q } else target_of p q)) (sym e) (g refl)
  field_target q t k s false e f g =
      subst (λ b. At s (if b then record { of = variable.Field (declarer p.types (id_of t) k).0 k; through_self = is_own q } else target_of p q)) (sym e) (f refl)

  constant_law : (q : Place) (m : ℕ) → IsConstantText p q m → Law (λ s. At s (target_of p q)) (place_of p here q)
  constant_law (ModuleVar m k) i h = (refl, ([], refl))
  constant_law (Local k) i h = absurd h
  constant_law (Passed k) i h = absurd h
  constant_law (Field q t k) i h = absurd h
  constant_law (Index q j t e) i h = absurd h
  constant_law (Of a) i h = absurd h
  constant_law (Deref e t) i h = absurd h
  constant_law (Typed q t) i h = absurd h
  constant_law (Guarded q t) i h = absurd h

  pub law_more : {A : Type 0} (R S : A → Type 0) (d : Doing A) → Law R d → ((a : A) → R a → Law S (Val a)) → Law S d
  law_more R S (Val a) h f = f a h
  law_more R S (Traps j c) h f = tt
  law_more R S (Asks q k) h f = (h.0, λ v c. law_more R S (k v) (h.1 v c) f)

  self_value : (t : TType) → IsOf p own SelfRef t → Are t (Object here.self)
  self_value t h = fits_serves p typed made t (type.Named h.0) (Object here.self) h.3 (self_serves h.0 h.1 h.2)

  given_closed : (a : Parameter) (q : Place) (u : TType) → IsGiven p own a q u → is_open (row_of p.types (id_of a.of)) ≡ false
  given_closed a q u (inl h) = h.0.0
  given_closed a q u (inr (inl h)) = h.0
  given_closed a q u (inr (inr h)) = h.0.0

  abbrev IsHandedWhole : Parameter → Place → Type 0
  IsHandedWhole a q = ((u : TType) × IsPlaceOf p own q u × IsGiven p own a q u) ⊎ IsFilled p own a q

  whole_closed : (a : Parameter) (q : Place) → IsHandedWhole a q → is_open (row_of p.types (id_of a.of)) ≡ false
  whole_closed a q (inl h) = given_closed a q h.0 h.2
  whole_closed a q (inr f) = f.2.0

  whole_law : (a : Parameter) (q : Place) → IsHandedWhole a q → ((u : TType) → IsPlaceOf p own q u → Law (λ s. At s (target_of p q)) (place_of p here q)) → Law (λ s. At s (target_of p q)) (place_of p here q)
  whole_law a q (inl h) place = place h.0 h.1
  whole_law a q (inr f) place = constant_law q f.1 f.5

  and_law : (t : TType) (b : Bool) (e : Expr) → Law (Are t) (value_of p here e) → Law (Are t) (if b then value_of p here e else Val (Flag false))
  and_law t true e h = h
  and_law t false e h = flag_serves t false

  or_law : (t : TType) (b : Bool) (e : Expr) → Law (Are t) (value_of p here e) → Law (Are t) (if b then Val (Flag true) else value_of p here e)
  or_law t true e h = flag_serves t true
  or_law t false e h = h

  -- through a pointer
  deref_law : (e : Expr) (u t : TType) (h : IsPlaceOf p own (Deref e u) t) → Law (Are h.0) (value_of p here e) → Law (λ s. At s (target_of p (Deref e u))) (place_of p here (Deref e u))
  deref_law e u t h value =
      law_bind (Are h.0) (λ s. At s (target_of p (Deref e u))) (value_of p here e) _ value (λ v s.
      law_more (IsOpened h.0 v) (λ z. At z (target_of p (Deref e u))) (dereferenced v) (opened_law h.0 v (leads_reference h.0 (id_of u) h.2) s)
      (λ z o. heap_free h.0 (id_of u) v z h.2 (whole_object p.types typed.ranked (row_of p.types (id_of u)) h.3) o))

  -- a place whose field is meant, where SELF is no value
  record_place : (q : Place) (of : TType) → IsPlaceOf p own q of → AreSpared (if is_own q then [] else place_uses p q) → (AreSpared (place_uses p q) → Law (λ s. At s (target_of p q)) (place_of p here q)) → Law (λ s. At s (target_of p q)) (place_of p here q)
  record_place (Deref e u) of h us place = elim (self_or e) [
    | inl same ↦
        subst (λ z. Law (λ s. At s (target_of p (Deref z u))) (place_of p here (Deref z u))) (sym same)
        (let is : IsPlaceOf p own (Deref SelfRef u) of = subst (λ z. IsPlaceOf p own (Deref z u) of) same h in deref_law SelfRef u of is (self_value is.0 is.1))
    | inr other ↦ place (subst (λ b. AreSpared (if b then [] else used.Follows ∷ expr_uses p e)) other us)
  ]
  record_place (ModuleVar m k) of h us place = place us
  record_place (Local k) of h us place = place us
  record_place (Passed k) of h us place = place us
  record_place (Field q t k) of h us place = place us
  record_place (Index q i t e) of h us place = place us
  record_place (Of a) of h us place = place us
  record_place (Typed q t) of h us place = place us
  record_place (Guarded q t) of h us place = place us

  -- a field of a record, or of an object
  field_from : (q : Place) (of : TType) (k : ℕ) (f : TypeId) → (IsPlaceOf p own q of × (is_record (row_of p.types (id_of of)) ≡ true)) ⊎ IsObjectAt p own q of → slice_get (field_types p.types (id_of of)) k ≡ Some f → AreSpared (if is_own q then [] else place_uses p q)
      → (IsPlaceOf p own q of → AreSpared (place_uses p q) → Law (λ s. At s (target_of p q)) (place_of p here q)) → (IsObjectAt p own q of → Law (λ s. At s (target_of p (Field q of k))) (place_of p here (Field q of k))) → Law (λ s. At s (target_of p (Field q of k))) (place_of p here (Field q of k))
  field_from q of k f (inl h) there us place object =
      law_bind (λ s. At s (target_of p q)) (λ s. At s (target_of p (Field q of k))) (place_of p here q) _ (record_place q of h.0 us (place h.0))
      (λ s a. field_target q of k (field_in p.types (id_of of) k s) false (record_no_object (row_of p.types (id_of of)) h.1)
      (λ no. part_at p made own here.self (target_of p q) s k 0 (declared_as p.types (id_of of) k s.of) a) (λ no. let clash : false ≡ true = no in absurd (cc clash)))
  field_from q of k f (inr h) there us place object = object h

  known_law : (q : Place) (ns : List ℕ) (t : TType) → ((u : TType) × IsPlaceOf p own q u × IsArrayOf p.types ns (id_of u) (id_of t)) ⊎ ((m : ℕ) × (ns ≡ m ∷ []) × IsConstantText p q m × (t ≡ type.Char)) → ((u : TType) → IsPlaceOf p own q u → Law (λ s. At s (target_of p q)) (place_of p here q)) → Law (λ s. At s (target_of p q)) (place_of p here q)
  known_law q ns t (inl h) place = place h.0 h.1
  known_law q ns t (inr h) place = constant_law q h.0 h.2

  -- a call, from what it is made of
  call_from : (c : Callee) (more : Arguments) (q : Procedure) → IsCalled p own c q → AreSpared (call_uses p c more) → (AreSpared (receiver_uses p c) → Law (ReceiverIs c) (receiver_of p here c))
      → (AreFlags (callee_number p c) 0 q.parameters → AreSpared (arguments_uses p (callee_number p c) 0 more) → Law (AreFreeFor p made q.parameters) (arguments_of p here more)) → Law (Gives q) (called p here c more)
  call_from c more q h us receiver arguments =
      let uses = part Ok (called_uses c ++ arguments_uses p (callee_number p c) 0 more) (receiver_uses p c) us in
      let all = part Ok (called_uses c) (arguments_uses p (callee_number p c) 0 more) uses.0 in
      law_bind (ReceiverIs c) (Gives q) (receiver_of p here c) _ (receiver uses.1) (λ o s.
      law_bind (AreFreeFor p made q.parameters) (Gives q) (arguments_of p here more) _ (arguments (flags_of (callee_number p c) q.parameters (called_parameters c q h)) all.1)
      (λ vs f. calls_law c q h o vs s f))

  -- what is compared with a procedure value
  side_law : (a : Expr) → ((u : TType) × IsOf p own a u × (is_procedural p.types u ≡ true)) ⊎ IsNamed p own a → ((u : TType) → IsOf p own a u → Law (Are u) (value_of p here a)) → (IsNamed p own a → Law Any (value_of p here a)) → Law Any (value_of p here a)
  side_law a (inl h) value named = weaken (Are h.0) (value_of p here a) (value h.0 h.1)
  side_law a (inr h) value named = named h

  mutual
    pub place_law : (q : Place) (t : TType) → IsPlaceOf p own q t → AreSpared (place_uses p q) → Law (λ s. At s (target_of p q)) (place_of p here q)
    place_law (ModuleVar m k) t h us = (refl, ([], refl))
    place_law (Local k) t h us = (here.below, refl)
    place_law (Passed k) t h us = (tt, λ v c. place_free p made own here.self v c.0)
    place_law (Field q of k) t h us = field_from q of k (id_of t) h.0 h.1 us (λ typed' us'. place_law q of typed' us') (λ o. object_law q of k (id_of t) o h.1 us)
    place_law (Index q i of e) t h us =
        let uses = part Ok (expr_uses p e) (place_uses p q) us in
        law_bind (λ s. At s (target_of p q)) (λ s. At s (target_of p q)) (place_of p here q) _ (place_law q h.0 h.1 uses.1) (λ s a.
        law_bind (Are (type.Integer W64)) (λ s. At s (target_of p q)) (value_of p here e) _ (value_law e (type.Integer W64) h.3 uses.0) (λ v c. element_law i v s (target_of p q) a))
    place_law (Of a) t h us = law_bind (RowsAt (rows_target p a) 0) (λ s. At s (rows_target p a)) (rows_of p here a) _ (rows_law a 0 t h.0 us) (λ y f. f.0)
    place_law (Deref e u) t h us = deref_law e u t h (value_law e h.0 h.1 us.1)
    place_law (Typed q k) t h us = law_bind (λ s. At s (target_of p q)) (λ s. At s (target_of p q)) (place_of p here q) _ (place_law q (type.Named k) h.0 us) (λ s a. at_typed p made own here.self (target_of p q) s (suc k) a)
    place_law (Guarded q k) t h us =
        law_bind (λ s. At s (target_of p q)) (λ s. At s (target_of p q)) (place_of p here q) _ (place_law q h.0 h.1 us) (λ s a. by s a (has_type p.types s k))
      where
        by : (s : Location) → At s (target_of p q) → (b : Bool) → Law (λ s. At s (target_of p q)) (if b then Val s else Traps 3 0)
        by s a true = a
        by s a false = tt

    -- a field of an object
    object_law : (q : Place) (of : TType) (k : ℕ) (f : TypeId) → IsObjectAt p own q of → slice_get (field_types p.types (id_of of)) k ≡ Some f → AreSpared (if is_own q then [] else place_uses p q) → Law (λ s. At s (target_of p (Field q of k))) (place_of p here (Field q of k))
    object_law (Deref e u) of k f h there us =
        let same : of ≡ u = h.2 in
        let object : is_object (row_of p.types (id_of of)) ≡ true = subst (λ z. is_object (row_of p.types (id_of z)) ≡ true) (sym same) h.1 in
        let is : IsOf p own e of = subst (λ z. IsOf p own e z) (sym same) h.0 in
        let ref = leads_reference of (id_of of) (object_target p.types (id_of of) (row_of p.types (id_of of)) object) in
        elim (self_or e) [
          | inl self ↦
              subst (λ z. Law (λ s. At s (target_of p (Field (Deref z u) of k))) (place_of p here (Field (Deref z u) of k))) (sym self)
              (law_bind (IsOpened of (Object here.self)) (λ s. At s (target_of p (Field (Deref SelfRef u) of k))) (dereferenced (Object here.self)) _
              (opened_law of (Object here.self) ref (self_value of (subst (λ z. IsOf p own z of) self is)))
              (λ s o. field_target (Deref SelfRef u) of k (field_in p.types (id_of of) k s) true object (λ no. let clash : true ≡ false = no in absurd (cc clash)) (λ yes_. object_field of (Object here.self) s k f true object there (λ z. refl) o (declared_as p.types (id_of of) k s.of))))
          | inr other ↦
              law_bind (λ z. (v : Value) × IsOpened of v z) (λ s. At s (target_of p (Field (Deref e u) of k))) (place_of p here (Deref e u)) _
              (law_bind (Are of) (λ z. (v : Value) × IsOpened of v z) (value_of p here e) _ (value_law e of is (subst (λ b. AreSpared (if b then [] else used.Follows ∷ expr_uses p e)) other us).1)
              (λ v s. law_more (IsOpened of v) (λ z. (v : Value) × IsOpened of v z) (dereferenced v) (opened_law of v ref s) (λ z o. (v, o))))
              (λ z o. field_target (Deref e u) of k (field_in p.types (id_of of) k z) true object (λ no. let clash : true ≡ false = no in absurd (cc clash))
              (λ yes_. object_field of o.0 z k f (is_self e) object there (λ i. let no : true ≡ false = sym i ∙ other in absurd (cc no)) o.1 (declared_as p.types (id_of of) k z.of)))
        ]
    object_law (ModuleVar m j) of k f h there us = absurd h
    object_law (Local j) of k f h there us = absurd h
    object_law (Passed j) of k f h there us = absurd h
    object_law (Field q t j) of k f h there us = absurd h
    object_law (Index q j t e) of k f h there us = absurd h
    object_law (Of a) of k f h there us = absurd h
    object_law (Typed q t) of k f h there us = absurd h
    object_law (Guarded q t) of k f h there us = absurd h

    pub rows_law : (a : Rows) (k : ℕ) (t : TType) → AreRows p own a k t → AreSpared (rows_uses p a) → Law (RowsAt (rows_target p a) k) (rows_of p here a)
    rows_law (Known q ns) k t h us =
        law_bind (λ s. At s (target_of p q)) (RowsAt (target_of p q) k) (place_of p here q) _ (known_law q ns t h.1 (λ u typed'. place_law q u typed' us)) (λ s a. (a, length-map ns (λ j. Int (pos j)) ∙ sym h.0, numbers_free ns))
    rows_law (Opened i j) k t h us =
        (tt, λ v c. law_bind (SoMany j) (RowsAt (rows_target p (Opened i j)) k) (lengths_from p here i 0 j) _ (lengths_law i 0 j) (λ ls f. ((place_free p made own here.self v c.0, λ by_value. c.1 i (has_copy i h.1.0 h.1.1 h.1.2.0 by_value) refl), f.0 ∙ sym h.0, f.1)))
    rows_law (Row a of e) k t h us =
        let uses = part Ok (expr_uses p e) (rows_uses p a) us in
        law_bind (RowsAt (rows_target p a) (suc k)) (RowsAt (rows_target p a) k) (rows_of p here a) _ (rows_law a (suc k) t h.0 uses.1) (λ y f.
        law_bind (Are (type.Integer W64)) (RowsAt (rows_target p a) k) (value_of p here e) _ (value_law e (type.Integer W64) h.1 uses.0) (λ v c. row_law y.place y.lengths v (rows_target p a) k f.0 f.1 f.2))
    rows_law (Spread e j) k t h us =
        law_bind (Are h.1.0) (RowsAt (rows_target p (Spread e j)) k) (value_of p here e) _ (value_law e h.1.0 h.1.2 us.1) (λ v s. spread_law v s (object_in v) refl)
      where
        spread_law : (v : Value) → Are h.1.0 v → (o : ℕ) → object_in v ≡ o → Law (RowsAt (rows_target p (Spread e j)) k) (by_object o (Traps 1 0) (bind (ask (Opens v)) (λ y. bind (sizes_from v 0 j) (λ ns. found (record (place_in y) { type = 0 }) ns))))
        spread_law v s zero e' = tt
        spread_law v s (suc i) e' =
            let y = pointed h.1.0 v (leads_reference h.1.0 h.1.1 h.1.3) s i e' in (
              (y.0, y.1),
              λ z told. law_bind (SoMany j) (RowsAt (rows_target p (Spread e j)) k) (sizes_from v 0 j) _ (sizes_law v (y.0, y.1) 0 j)
                  (λ ls f. (heap_free h.1.0 h.1.1 v (record (place_in z) { type = 0 }) h.1.3 (open_no_object (row_of p.types h.1.1) h.1.4) (opened_location h.1.0 v i e' y z told 0), f.0 ∙ sym h.0, f.1)),
            )
    rows_law (Longer a ns) k t h us =
        law_bind (RowsAt (rows_target p a) h.0) (RowsAt (rows_target p a) k) (rows_of p here a) _ (rows_law a h.0 h.1 h.3 us)
        (λ y f. (f.0, length-append y.lengths (map (λ j. Int (pos j)) ns) ∙ (λ i. f.1 i + length-map ns (λ j. Int (pos j)) i) ∙ sym h.2, all_more (IsFree p made) y.lengths _ f.2 (numbers_free ns)))

    pub arguments_law : (more : Arguments) (ps : List Parameter) (num i : ℕ) → AreArguments p own more ps → AreFlags num i ps → AreSpared (arguments_uses p num i more) → Law (AreFreeFor p made ps) (arguments_of p here more)
    arguments_law NoMore ps num i h flags us = subst (λ l. AreFreeFor p made l []) (sym h) tt
    arguments_law (Scalar e more) ps num i h flags us =
        let uses = part Ok (expr_uses p e) (arguments_uses p num (suc i) more) us in
        let a = h.0 in
        let rest = h.1 in
        subst (λ l. Law (AreFreeFor p made l) (arguments_of p here (Scalar e more))) (sym h.2)
        (law_bind (Are a.of) (AreFreeFor p made (a ∷ rest)) (value_of p here e) _ (value_law e a.of h.5 uses.0) (λ v c.
        law_bind (AreFreeFor p made rest) (AreFreeFor p made (a ∷ rest)) (arguments_of p here more) _ (arguments_law more rest num (suc i) h.6 (later_flags num i a rest (subst (AreFlags num i) h.2 flags)) uses.1)
        (λ vs f. (λ ref. c.free, subst (λ b. AreFreeFor p made rest (drop (if b then suc (open_dimensions p.types (id_of a.of)) else 1) (v ∷ vs))) (sym h.3.0) f))))
    arguments_law (Whole q more) ps num i h flags us =
        let uses = part Ok (varies (is_variable p num i) (target_of p q) ++ place_uses p q) (arguments_uses p num (suc i) more) us in
        let own_uses = part Ok (varies (is_variable p num i) (target_of p q)) (place_uses p q) uses.0 in
        let a = h.0 in
        let rest = h.1 in
        let all = subst (AreFlags num i) h.2 flags in
        subst (λ l. Law (AreFreeFor p made l) (arguments_of p here (Whole q more))) (sym h.2)
        (law_bind (λ s. At s (target_of p q)) (AreFreeFor p made (a ∷ rest)) (place_of p here q) _ (whole_law a q h.3 (λ u typed'. place_law q u typed' own_uses.1)) (λ s at.
        law_bind (AreFreeFor p made rest) (AreFreeFor p made (a ∷ rest)) (arguments_of p here more) _ (arguments_law more rest num (suc i) h.4 (later_flags num i a rest all) uses.1)
        (λ vs f. (varied_free num i a (target_of p q) s (first_flag num i a rest all) own_uses.0 at, subst (λ b. AreFreeFor p made rest (drop (if b then suc (open_dimensions p.types (id_of a.of)) else 1) (PlaceValue s ∷ vs))) (sym (whole_closed a q h.3)) f))))
    arguments_law (Opening b more) ps num i h flags us =
        let uses = part Ok (varies (is_variable p num i) (rows_target p b) ++ rows_uses p b) (arguments_uses p num (suc i) more) us in
        let own_uses = part Ok (varies (is_variable p num i) (rows_target p b)) (rows_uses p b) uses.0 in
        let a = h.0 in
        let rest = h.1 in
        let all = subst (AreFlags num i) h.4 flags in
        subst (λ l. Law (AreFreeFor p made l) (arguments_of p here (Opening b more))) (sym h.4)
        (law_bind (RowsAt (rows_target p b) h.2) (AreFreeFor p made (a ∷ rest)) (rows_of p here b) _ (rows_law b h.2 h.3 h.6 own_uses.1) (λ y at.
        law_bind (AreFreeFor p made rest) (AreFreeFor p made (a ∷ rest)) (arguments_of p here more) _ (arguments_law more rest num (suc i) h.8 (later_flags num i a rest all) uses.1)
        (λ vs f. (
          varied_free num i a (rows_target p b) y.place (first_flag num i a rest all) own_uses.0 at.0,
          subst (λ c. AreFreeFor p made rest (drop (if c then suc (open_dimensions p.types (id_of a.of)) else 1) (PlaceValue y.place ∷ (y.lengths ++ vs)))) (sym h.5.0)
              (subst (AreFreeFor p made rest) (sym (drop_all y.lengths vs (open_dimensions p.types (id_of a.of)) (at.1 ∙ h.5.1))) f),
        ))))

    receiver_law : (c : Callee) (q : Procedure) → IsCalled p own c q → AreSpared (receiver_uses p c) → Law (ReceiverIs c) (receiver_of p here c)
    receiver_law (Plain m k) q h us = tt
    receiver_law (Dispatched e t k) q h us = value_law e (type.Named t) h.0 us
    receiver_law (Upper t k) q h us = tt
    receiver_law (Through e t) q h us = value_law e (type.Named t) h.0 us

    pub value_law : (e : Expr) (t : TType) → IsOf p own e t → AreSpared (expr_uses p e) → Law (Are t) (value_of p here e)
    value_law (Lit l) t h us = literal_serves t l
    value_law SelfRef t h us = self_value t h
    value_law (Read u q) t h us = law_bind (λ s. At s (target_of p q)) (Are t) (place_of p here q) _ (place_law q u h.0 us.1) (λ s a. ((target_of p q, a, us.0), λ v c. fits_serves p typed made t u v h.2 c))
    value_law (Unary op a) t h us = law_bind (Are (taken op)) (Are t) (value_of p here a) _ (value_law a (taken op) h.0 us) (λ y c. given_law t (unary_sort op) (unary_of op (number_of y)))
    value_law (Binary op a b) t h us =
        let uses = part Ok (expr_uses p b) (expr_uses p a) us in
        let o = operands_suit op (IsOf p own a) (IsOf p own b) h.0 in
        law_bind (Are o.0) (Are t) (value_of p here a) _ (value_law a o.0 o.2 uses.1) (λ y c.
        law_bind (Are o.1) (Are t) (value_of p here b) _ (value_law b o.1 o.3 uses.0) (λ z d. given_law t (binary_sort op) (binary_of op (number_of y) (number_of z))))
    value_law (And a b) t h us =
        let uses = part Ok (expr_uses p b) (expr_uses p a) us in
        let second = subst (λ u. Law (Are u) (value_of p here b)) (sym h.2) (value_law b type.Boolean h.1 uses.0) in
        law_bind (Are type.Boolean) (Are t) (value_of p here a) _ (value_law a type.Boolean h.0 uses.1) (λ y c. and_law t (is_true y) b second)
    value_law (Or a b) t h us =
        let uses = part Ok (expr_uses p b) (expr_uses p a) us in
        let second = subst (λ u. Law (Are u) (value_of p here b)) (sym h.2) (value_law b type.Boolean h.1 uses.0) in
        law_bind (Are type.Boolean) (Are t) (value_of p here a) _ (value_law a type.Boolean h.0 uses.1) (λ y c. or_law t (is_true y) b second)
    value_law (Element a) t h us = law_bind (Are (type.Integer W64)) (Are t) (value_of p here a) _ (value_law a (type.Integer W64) h.0 us) (λ y c. given_law t (binary_sort operator.SetSpan) (binary_of operator.SetSpan (number_of y) (number_of y)))
    value_law (Ord a) t h us = law_bind (Are type.Char) (Are t) (value_of p here a) _ (value_law a type.Char h.0 us) (λ y c. plain_serves p typed made t _ refl refl tt)
    value_law (Chr a) t h us = law_bind (Are (type.Integer W64)) (Are t) (value_of p here a) _ (value_law a (type.Integer W64) h.0 us) (λ y c. given_law t Character (unary_of (Range (pos 0) (pos 255)) (number_of y)))
    value_law (CompareTexts c a b) t h us =
        let uses = part Ok (used.Reads (rows_target p b) ∷ rows_uses p b) (used.Reads (rows_target p a) ∷ rows_uses p a) us in
        law_bind (RowsAt (rows_target p a) 1) (Are t) (rows_of p here a) _ (rows_law a 1 type.Char h.0 uses.1.1) (λ y f.
        law_bind (RowsAt (rows_target p b) 1) (Are t) (rows_of p here b) _ (rows_law b 1 type.Char h.1 uses.0.1) (λ z g. (((rows_target p a, f.0, uses.1.0), (rows_target p b, g.0, uses.0.0)), λ v told. subst (Are t) (sym told.1) (flag_serves t told.0))))
    value_law (Len a d) t h us =
        law_bind (RowsAt (rows_target p a) h.0) (Are t) (rows_of p here a) _ (rows_law a h.0 h.1 h.2 us) (λ y f. basic_serves p typed made t _ (basic_included t _ h.5) (one_free d y.lengths f.2))
    value_law (LenBehind a k) t h us = law_bind (RowsAt (rows_target p a) h.0) (Are t) (rows_of p here a) _ (rows_law a h.0 h.1 h.2 us) (λ y f. plain_serves p typed made t _ refl refl tt)
    value_law (Function c more) t h us =
        let q = h.0 in
        law_more (Gives q) (Are t) (called p here c more) (call_from c more q h.2 us (λ us'. receiver_law c q h.2 us') (λ flags us'. arguments_law more q.parameters (callee_number p c) 0 h.6 flags us')) (λ v g. fits_serves p typed made t h.1 v h.5 (g h.1 h.3))
    value_law (Same a b) t h us =
        let uses = part Ok (expr_uses p b) (expr_uses p a) us in
        law_bind (Are h.0.0) (Are t) (value_of p here a) _ (value_law a h.0.0 h.0.1 uses.1) (λ y c.
        law_bind (Are h.1.0) (Are t) (value_of p here b) _ (value_law b h.1.0 h.1.1 uses.0) (λ z d. flag_serves t _))
    value_law (Is a k) t h us = law_bind (Are h.0.0) (Are t) (value_of p here a) _ (value_law a h.0.0 h.0.1 us) (λ v s. is_law t h.0.0 v k h.0.2 s)
    value_law (IsRecord q k) t h us = law_bind (λ s. At s (target_of p q)) (Are t) (place_of p here q) _ (place_law q h.0 h.1 us.1) (λ s a. flag_serves t _)
    value_law (Guard a k) t h us = law_bind (Are h.0.0) (Are t) (value_of p here a) _ (value_law a h.0.0 h.0.1 us) (λ v s. guarded_law t h.0.0 v k h.0.2 s h.2)
    value_law (ProcedureOf m k) t h us = procedure_serves t m k h.0 h.1 h.2.0 h.2.1 h.2.2
    value_law (MethodOf a j k) t h us =
        let uses = part Ok (used.Binds ∷ used.Finds j k ∷ follows a) (expr_uses p a) us in
        law_bind (Are (type.Named j)) (Are t) (value_of p here a) _ (value_law a (type.Named j) h.0 uses.1) (λ v s.
        bound_law v j k h.2.0 (Are t) s h.1 h.2.1 (λ d home o there formals method i at. method_serves t v h.2.0 h.2.2.0 h.2.2.1 h.2.2.2 d k home o there formals method i at))
    value_law (SameProcedure a b) t h us =
        let uses = part Ok (expr_uses p b) (expr_uses p a) us in
        law_bind Any (Are t) (value_of p here a) _ (side_law a h.0 (λ u typed'. value_law a u typed' uses.1) (λ named. named_law a named uses.1)) (λ y c.
        law_bind Any (Are t) (value_of p here b) _ (side_law b h.1 (λ u typed'. value_law b u typed' uses.0) (λ named. named_law b named uses.0)) (λ z d. flag_serves t _))
    value_law (Had v) t h us = absurd h

    -- a procedure or a method that is named
    named_law : (a : Expr) → IsNamed p own a → AreSpared (expr_uses p a) → Law Any (value_of p here a)
    named_law (Lit l) h us = tt
    named_law (ProcedureOf m k) h us = tt
    named_law (MethodOf e j k) h us =
        let uses = part Ok (used.Binds ∷ used.Finds j k ∷ follows e) (expr_uses p e) us in
        law_bind (Are (type.Named j)) Any (value_of p here e) _ (value_law e (type.Named j) h.0 uses.1) (λ v s. bound_law v j k h.2.0 Any s h.1 h.2.1 (λ d home o there formals method i at. tt))
    named_law SelfRef h us = absurd h
    named_law (Read u q) h us = absurd h
    named_law (Unary op e) h us = absurd h
    named_law (Binary op e f) h us = absurd h
    named_law (And e f) h us = absurd h
    named_law (Or e f) h us = absurd h
    named_law (Element e) h us = absurd h
    named_law (Ord e) h us = absurd h
    named_law (Chr e) h us = absurd h
    named_law (CompareTexts c e f) h us = absurd h
    named_law (Len a d) h us = absurd h
    named_law (LenBehind a k) h us = absurd h
    named_law (Function c more) h us = absurd h
    named_law (Same e f) h us = absurd h
    named_law (Is e k) h us = absurd h
    named_law (IsRecord q k) h us = absurd h
    named_law (Guard e k) h us = absurd h
    named_law (SameProcedure e f) h us = absurd h
    named_law (Had v) h us = absurd h

  pub call_law : (c : Callee) (more : Arguments) (q : Procedure) → IsCalled p own c q → AreArguments p own more q.parameters → AreSpared (call_uses p c more) → Law (Gives q) (called p here c more)
  call_law c more q h k us = call_from c more q h us (λ us'. receiver_law c q h us') (λ flags us'. arguments_law more q.parameters (callee_number p c) 0 k flags us')
