-- A well-typed designator, array, row of arguments or expression is typed in a frame of its procedure: it finds a variable of its type, or comes
-- to a value of it, and asks only what is valid.
use Rattle.std.proofs.Common.{◌≡◌, ◌⊎◌, inl, inr, ℕ, zero, suc, ◌+◌, ◌<◌, Bool, true, false, List, [], ◌∷◌, ◌++◌, length, map, Option, Some, if◌then◌else◌, refl, sym, ap, ◌∙◌, subst, arith}
use Rattle.std.specs.Prelude.{All, is_some, option_map, pos, slice_get}
use Rattle.std.specs.Option.{unwrap_or}
use Rattle.std.proofs.lemmas.Option.{slice_get-map}
use Rattle.aos_base.specs.declared.number.Width.TheVariants.{W16, W32, W64}
use Rattle.aos_base.specs.declared.operator.Binary.TheVariants.{SetSpan}
use Rattle.aos_base.specs.declared.root.Root.TheVariants.{Module as ModuleRoot}
use Rattle.aos_base.specs.declared.operator.Unary.TheVariants.{Range}
use Rattle.aos_base.specs.Operators.{binary as binary_of, unary as unary_of}
use Rattle.aos_base.specs.Question.{Val, Traps, bind, ByName, Upward}
use Rattle.aos_types.specs.declared.row.TypeId.{TypeId}
use Rattle.aos_types.specs.Content.{EachSort}
use Rattle.aos_types.specs.Extension.{comes_to}
use Rattle.aos_types.specs.Shape.{Shape}
use Rattle.aos_types.specs.Table.{is_object, is_open, is_record, is_scalar, row_of}
use Rattle.aos_types.specs.World.{World}
use Rattle.aos_types.proofs.Tables.{comes_on}
use Rattle.aos_typed.specs.declared.tree.Literal.{Literal}
use Rattle.aos_typed.specs.declared.tree.TType.{TType}
use Rattle.aos_typed.specs.declared.tree.TType.TheVariants as type
use Rattle.aos_typed.specs.Methods.{method_in, method_number}
use Rattle.aos_typed.specs.Numbers.{id_of, id_of_made, procedure_number}
use Rattle.aos_typed.specs.Open.{open_dimensions}
use Rattle.aos_typed.specs.Program.{Place, ModuleVar, Local, Passed, Field, Index, Of as Behind, Deref, Typed as Named, Guarded, Rows, Known, Opened, Row, Spread, Longer, Arguments, NoMore, Scalar, Whole, Opening, Callee, Plain as PlainCall, Dispatched, Upper, Through, Expr, Lit, SelfRef, Read, Unary, Binary, And, Or, Element, Ord, Chr, CompareTexts, Len, LenBehind, Function, Same, Is as IsOfType, IsRecord, Guard, ProcedureOf, MethodOf, SameProcedure, Had, Parameter, Procedure, Program}
use Rattle.aos_typed.specs.Routines.{self_type}
use Rattle.aos_typed.specs.Sort.{Sort, Plain, Variable, Alias, variable_shape}
use Rattle.aos_typed.specs.Location.{Location, OfModule}
use Rattle.aos_typed.specs.Typing.{Extends, Is, IsPlain, nested}
use Rattle.aos_typed.specs.Value.{Value, Int, Flag, Object, Place as PlaceValue, Character, binary_sort, is_true, literal_value, number_of, ord, unary_sort}
use Rattle.aos_typed.specs.WellTyped.{AreArguments, AreRows, Fits, HaveLengths, Includes, IsArrayOf, IsByValue, IsCalled, IsConstantText, IsFilled, IsGiven, IsLength, IsNamed, IsObjectAt, IsOf, IsOpening, IsPlaceOf, NamesType, is_basic, is_procedural, is_value, is_whole, taken}
use Rattle.aos_typed.specs.Meaning.{Found, Here, Doing, arguments_of, called, calls, found, has_type, length_at, own_place, place_of, record_guarded, rows_of, value_of}
use Rattle.aos_typed.specs.Source.{arguments_in}
use Rattle.aos_sim.proofs.Designators.{RowsHold, filled_begins, holds_exactly, holds_extension}
use Rattle.aos_sim.proofs.Does.{Given, Handles, HandlesFor, HasScalar, HasTypes, IsAnswer, IsCalledOn, IsObject, IsSelf, Knows, alias_sort}
use Rattle.aos_sim.proofs.Exprs.{given_basic, included_basic, literal_basic, no_scalar, ord_is, taken_basic, two_basic}
use Rattle.aos_sim.proofs.Extended.{open_some, record_base}
use Rattle.aos_sim.proofs.Parts.{each_rest}
use Rattle.aos_sim.proofs.First.{all_get}
use Rattle.aos_sim.proofs.Objects.{object_target}
use Rattle.aos_sim.proofs.Operators.{binary_agrees, operands_suit, unary_agrees}
use Rattle.aos_sim.proofs.References.{fitting_value, made_reference, nil_value, no_procedure, to_target, value_is_one, value_no_record, value_scalar}
use Rattle.aos_sim.proofs.Results.{chr_agrees}
use Rattle.aos_sim.proofs.Routines.{routine_there}
use Rattle.aos_sim.proofs.Types.{IsValueOf, flag_is, included, literal_is}
use Rattle.aos_sim.proofs.Variables.{constant_there, local_there, value_to, variable_there}
use Rattle.aos_preservation.proofs.Pieces.{applied_typed, asked_typed, basically, bound_typed, dereferenced_typed, element_typed, given_typed, guarded_typed, instance_typed, method_given, method_on, method_value, opened_typed, passed_typed, procedure_value, row_typed, sent_typed, sorted, spread_typed}
use Rattle.aos_preservation.proofs.Places.{AreFound, HasFields, IsFound, array_rows, element_found, exact_found, field_found, fields_found, guarded_found, longer_found, none_found, object_found, pointed_found, text_found, text_rows, typed_found}
use Rattle.aos_preservation.proofs.Trees.{Typed, typed_bind, typed_more}

-- a dimension that there is has a length
length_there : (ls : List ℕ) (d : ℕ) → d < length ls → (n : ℕ) × (slice_get ls d ≡ Some n)
length_there [] d l = absurd (omega (arith, l))
length_there (n ∷ ls) zero l = (n, refl)
length_there (n ∷ ls) (suc d) l = length_there ls d (omega (arith, l))

module _ (p : Program) (typed : HasTypes p) (w : World Sort) (own : Option Procedure) (here : Here) (known : Knows p own here w) where
  abbrev Of : TType → Value → Type 0
  Of t v = Is p w (Plain (id_of t)) v

  abbrev Ok : {A : Type 0} → (A → Type 0) → Doing A → Type 0
  Ok R d = Typed p w here R d

  abbrev Any : Value → Type 0
  Any v = Unit {0}

  abbrev Names : Place → TType → Type 0
  Names q t = NamesType p own q t

  -- a variable of a scalar is one
  pub scalar_found : (named : Type 0) (t : TType) (s : Location) → is_value p.types t ≡ true → IsFound p w named t s → HasScalar p w s (Plain (id_of t))
  scalar_found named t s value f =
      f.there ∙ ap (λ z. Some z) (holds_exactly p typed (id_of t) f.shape (value_no_record p typed.predeclared t value) f.holds ∙ value_is_one p typed.predeclared t value)

  -- where a place names the type of a record there is one
  names_record : (q : Place) (t : TType) → Names q t → is_record (row_of p.types (id_of t)) ≡ true
  names_record (ModuleVar m k) t h = absurd h
  names_record (Local k) t h = absurd h
  names_record (Passed k) t h = h
  names_record (Field q u k) t h = absurd h
  names_record (Index q n u e) t h = absurd h
  names_record (Behind r) t h = absurd h
  names_record (Deref e u) t h = h
  names_record (Named q k) t h = h
  names_record (Guarded q k) t h = h

  -- a record whose type is tested
  guard_place : (named : Type 0) (u : TType) (k : ℕ) (s : Location) → named → is_record (row_of p.types (id_of (type.Named k))) ≡ true → IsFound p w named u s → Ok (IsFound p w (is_record (row_of p.types (id_of (type.Named k))) ≡ true) (type.Named k)) (record_guarded p.types s k)
  guard_place named u k s name is f = by (has_type p.types s k) refl
    where
      by : (b : Bool) → has_type p.types s k ≡ b → Ok (IsFound p w (is_record (row_of p.types (id_of (type.Named k))) ≡ true) (type.Named k)) (record_guarded p.types s k)
      by false e = subst (λ b. Ok (IsFound p w (is_record (row_of p.types (id_of (type.Named k))) ≡ true) (type.Named k)) (if b then Val s else Traps 3 0)) (sym e) tt
      by true e =
          subst (λ b. Ok (IsFound p w (is_record (row_of p.types (id_of (type.Named k))) ≡ true) (type.Named k)) (if b then Val s else Traps 3 0)) (sym e) (guarded_found p w typed named u k s name is e f)

  constant_rows : (q : Place) (m : ℕ) → IsConstantText p q m → Ok (AreFound p w (All IsLength (m ∷ [])) 1 type.Char) (bind (place_of p here q) (λ s. found s (map (λ n. Int (pos n)) (m ∷ []))))
  constant_rows (ModuleVar h k) m of =
      record { lengths = m ∷ []; are = refl; many = refl; at = text_rows p w typed m _ (constant_there p w known.modules h k m of); bound = λ b. b }
  constant_rows (Local k) m of = absurd of
  constant_rows (Passed k) m of = absurd of
  constant_rows (Field q u k) m of = absurd of
  constant_rows (Index q n u e) m of = absurd of
  constant_rows (Behind r) m of = absurd of
  constant_rows (Deref e u) m of = absurd of
  constant_rows (Named q k) m of = absurd of
  constant_rows (Guarded q k) m of = absurd of

  known_rows : (q : Place) (ns : List ℕ) (t : TType) → ((u : TType) → IsPlaceOf p own q u → Ok (IsFound p w (Names q u) u) (place_of p here q)) → ((u : TType) × IsPlaceOf p own q u × IsArrayOf p.types ns (id_of u) (id_of t)) ⊎ ((m : ℕ) × (ns ≡ m ∷ []) × IsConstantText p q m × (t ≡ type.Char)) →
      Ok (AreFound p w (All IsLength ns) (length ns) t) (bind (place_of p here q) (λ s. found s (map (λ n. Int (pos n)) ns)))
  known_rows q ns t place (inl h) =
      typed_bind p w here (IsFound p w (Names q h.0) h.0) (AreFound p w (All IsLength ns) (length ns) t) (place_of p here q) _ (place h.0 h.1)
      (λ s f. record { lengths = ns; are = refl; many = refl; at = array_rows p w typed (Names q h.0) h.0 t ns s h.2 f; bound = λ b. b })
  known_rows q ns t place (inr h) =
      subst (λ l. Ok (AreFound p w (All IsLength l) (length l) t) (bind (place_of p here q) (λ s. found s (map (λ n. Int (pos n)) l)))) (sym h.1)
      (subst (λ z. Ok (AreFound p w (All IsLength (h.0 ∷ [])) 1 z) (bind (place_of p here q) (λ s. found s (map (λ n. Int (pos n)) (h.0 ∷ []))))) (sym h.3) (constant_rows q h.0 h.2))

  -- What is handed over.

  is_handled : (o b c : Bool) (o' b' c' : Bool) (t : TypeId) (us : List Value) → o ≡ o' → b ≡ b' → c ≡ c' → Handles p o' b' c' w t us → Handles p o b c w t us
  is_handled o b c o' b' c' t us e f g h = subst (λ x. Handles p x b c w t us) (sym e) (subst (λ x. Handles p o' x c w t us) (sym f) (subst (λ x. Handles p o' b' x w t us) (sym g) h))

  handled_one : (a : Parameter) (rest as' : List Parameter) → as' ≡ a ∷ rest → (us vs : List Value) → HandlesFor p w a us → Given p w rest vs → Given p w as' (us ++ vs)
  handled_one a rest as' e us vs h more = subst (λ x. Given p w x (us ++ vs)) (sym e) (us, vs, refl, h, more)

  -- a value
  scalar_given : (a : Parameter) → IsByValue p a a.of → is_value p.types a.of ≡ true → (v : Value) → Of a.of v → HandlesFor p w a (v ∷ [])
  scalar_given a by_value value v is =
      let t = id_of a.of in
      is_handled (is_open (row_of p.types t)) a.by_reference (is_scalar (row_of p.types t)) false false true t (v ∷ []) by_value.0 by_value.1 (value_scalar p typed.predeclared a.of value) (v, refl, is)

  -- a variable, by its place
  whole_given : (a : Parameter) (q : Place) (u : TType) → IsGiven p own a q u → (s : Location) → IsFound p w (Names q u) u s → HandlesFor p w a (PlaceValue s ∷ [])
  whole_given a q u given s is = by given
    where
      one : Bool
      one = is_scalar (row_of p.types (id_of a.of))

      alias : (b : Bool) → is_record (row_of p.types (id_of a.of)) ≡ b → Is p w (if b then Variable (id_of a.of) else Alias (id_of a.of)) (PlaceValue s) → Is p w (alias_sort p.types (id_of a.of)) (PlaceValue s)
      alias b e h = subst (λ c. Is p w (if c then Variable (id_of a.of) else Alias (id_of a.of)) (PlaceValue s)) (sym e) h

      by : IsGiven p own a q u → HandlesFor p w a (PlaceValue s ∷ [])
      by (inl (h, isnt)) =
          let isnt' : is_record (row_of p.types (id_of a.of)) ≡ false = ap (λ z. is_record (row_of p.types (id_of z))) h.2 ∙ isnt in
          let exact : is.shape ≡ variable_shape p.types (id_of a.of) = holds_exactly p typed (id_of u) is.shape isnt is.holds ∙ ap (λ z. variable_shape p.types (id_of z)) (sym h.2) in
          is_handled (is_open (row_of p.types (id_of a.of))) a.by_reference one false true one (id_of a.of) (PlaceValue s ∷ []) h.0 h.1 refl (PlaceValue s, refl, alias false isnt' (is.there ∙ ap (λ z. Some z) exact))
      by (inr (inl h)) =
          let n = is.names h.2 in
          let rec = record_base p typed (id_of u) (id_of a.of) (names_record q u h.2) h.3 in
          is_handled (is_open (row_of p.types (id_of a.of))) a.by_reference one false true one (id_of a.of) (PlaceValue s ∷ []) h.0 h.1 refl
          (PlaceValue s, refl, alias true rec (record { extends = comes_on p.types typed.ranked (id_of_made s.type) (id_of u) (id_of a.of) n.extends h.3; more = n.more; plain = n.plain; there = n.there }))
      by (inr (inr h)) =
          let r = holds_extension p typed (id_of u) (id_of a.of) is.shape h.1 h.2 is.holds in
          is_handled (is_open (row_of p.types (id_of a.of))) a.by_reference one false false false (id_of a.of) (PlaceValue s ∷ []) h.0.0 h.0.1 (no_scalar (row_of p.types (id_of a.of)) h.1)
          (s, refl, (r.0, is.there ∙ ap (λ z. Some z) r.1, each_rest IsPlain (variable_shape p.types (id_of a.of)) r.0 (subst (EachSort IsPlain) r.1 is.plain)))

  -- a string constant, by its place
  filled_typed : (a : Parameter) (q : Place) → IsFilled p own a q → Ok (λ s. HandlesFor p w a (PlaceValue s ∷ [])) (place_of p here q)
  filled_typed a (ModuleVar h k) f =
      let t = id_of a.of in
      let s : Location = record { root = ModuleRoot h; path = k ∷ []; type = 0; of = OfModule h k } in
      let begins = filled_begins p typed t f.0 f.1 f.3 f.4 in
      is_handled (is_open (row_of p.types t)) a.by_reference (is_scalar (row_of p.types t)) false false false t (PlaceValue s ∷ []) f.2.0 f.2.1 (no_scalar (row_of p.types t) (ap is_whole f.3))
      (s, refl, (begins.0, constant_there p w known.modules h k f.1 f.5 ∙ ap (λ z. Some z) begins.1, begins.2))
  filled_typed a (Local k) f = absurd f.5
  filled_typed a (Passed k) f = absurd f.5
  filled_typed a (Field q u k) f = absurd f.5
  filled_typed a (Index q n u e) f = absurd f.5
  filled_typed a (Behind r) f = absurd f.5
  filled_typed a (Deref e u) f = absurd f.5
  filled_typed a (Named q k) f = absurd f.5
  filled_typed a (Guarded q k) f = absurd f.5

  -- an array for an open one
  opening_given : (a : Parameter) (bounded : Type 0) (n : ℕ) (t : TType) → IsOpening p a n t → bounded → (x : Found) → AreFound p w bounded n t x → HandlesFor p w a (PlaceValue x.place ∷ x.lengths)
  opening_given a bounded n t opening b x is =
      let u = id_of a.of in
      let one = is_scalar (row_of p.types u) in
      let at = is.at in
      is_handled (is_open (row_of p.types u)) a.by_reference one true a.by_reference one u (PlaceValue x.place ∷ x.lengths) opening.0 refl refl (
        x.place,
        is.lengths,
        ap (λ l. PlaceValue x.place ∷ l) is.are,
        is.many ∙ opening.1,
        at.there ∙ ap (λ s. Some s) (opened is.lengths (is.many ∙ opening.1) at.shape at.holds) ∙ ap (λ v. Some (nested is.lengths (variable_shape p.types v))) (sym opening.2),
        is.bound b,
      )
    where
      opened : (ls : List ℕ) → length ls ≡ open_dimensions p.types (id_of a.of) → (s : Shape Sort) → RowsHold p ls (id_of t) s → s ≡ nested ls (variable_shape p.types (id_of t))
      opened [] l s h = let some = open_some p.types (id_of a.of) opening.0 in absurd (omega (arith, l, some))
      opened (l ∷ ls) m s h = h

  -- Values.

  number_typed : (e : Expr) (t : TType) → is_basic t ≡ true → Ok (Of t) (value_of p here e) → Ok (IsValueOf t) (value_of p here e)
  number_typed e t basic h = basically p typed w own here known t (value_of p here e) basic h

  truth : (t : TType) (d : Doing Value) → t ≡ type.Boolean → Ok (IsValueOf type.Boolean) d → Ok (Of t) d
  truth t d e h = subst (λ z. Ok (Of z) d) (sym e) (sorted p typed w own here known type.Boolean d refl h)

  literal_typed : (l : Literal) (t : TType) → IsOf p own (Lit l) t → Of t (literal_value l)
  literal_typed l t (inl ok) = value_to p typed.predeclared t w (literal_value l) (literal_basic l t ok) (literal_is l t ok)
  literal_typed l t (inr (inl ok)) = subst (λ x. Of t (literal_value x)) (sym ok.0) (nil_value p w typed.predeclared t ok.1)
  literal_typed l t (inr (inr ok)) = subst (λ x. Of t (literal_value x)) (sym ok.0) (no_procedure p w t ok.1)

  self_typed : (t : TType) (a : ℕ) → self_type own ≡ Some a → is_object (row_of p.types (id_of (type.Named a))) ≡ true → Fits p t (type.Named a) → Of t (Object here.self)
  self_typed t a of is fits =
      let self = subst (λ o. IsSelf p w.made o here.self) of known.self in
      let id = id_of (type.Named a) in
      let v = Object here.self in
      let object : IsObject w v self.1 = record { number = self.0; is = ap (λ o. Object o) self.2; made = self.3 } in
      fitting_value p w typed t (type.Named a) v fits
      (to_target p w (type.Named a) id v (object_target p.types id (row_of p.types id) is) (made_reference p w (Extends p id) v self.1 object self.4 self.5))

  upper_typed : (t k : ℕ) (q : Procedure) (a : ℕ) → self_type own ≡ Some a → comes_to p.types (id_of (type.Named a)) (id_of (type.Named t)) ≡ true → method_in p t k ≡ Some q → (vs : List Value) → Given p w q.parameters vs →
      Ok (IsAnswer p w q.result) (calls p (Upper t k) (Object here.self) vs)
  upper_typed t k q a of comes is vs given =
      let f = typed.methods.found t k q is in
      let self = subst (λ o. IsSelf p w.made o here.self) of known.self in
      let made = self.1 in
      let extends = comes_on p.types typed.ranked (id_of_made made.type) (id_of (type.Named a)) (id_of (type.Named f.self)) self.5 (comes_on p.types typed.ranked (id_of (type.Named a)) (id_of (type.Named t)) (id_of (type.Named f.self)) comes f.extends) in
      let on : IsSelf p w.made (Some f.self) here.self = (self.0, made, self.2, self.3, self.4, extends) in
      asked_typed p typed w own here known Upward (method_number p t k) f.home q f.there (Object here.self ∷ vs) (method_given p typed w own here known q f.self here.self f.is vs given) (method_on p typed w own here known q f.self here.self f.is vs on)

  length_typed : (t u : TType) (bounded : Type 0) (n d : ℕ) → bounded → d < n → Includes t (type.Integer W32) → (x : Found) → AreFound p w bounded n u x → IsValueOf t (length_at d x)
  length_typed t u bounded n d b less more x f =
      let ls = f.lengths in
      let get = length_there ls d (let c = f.many in omega (arith, c, less)) in
      let is : length_at d x ≡ Int (pos get.0) = ap (λ vs. unwrap_or (slice_get vs d) (Int (pos 0))) f.are
      ∙ ap (λ o. unwrap_or o (Int (pos 0))) (slice_get-map (λ (n : ℕ). Int (pos n)) ls d ∙ ap (option_map (λ (n : ℕ). Int (pos n))) get.1) in
      subst (IsValueOf t) (sym is) (included t (type.Integer W32) (Int (pos get.0)) more (pos get.0, refl, (all_get IsLength ls d get.0 (f.bound b) get.1).1))

  and_typed : (b : Bool) (d : Doing Value) → Ok (IsValueOf type.Boolean) d → Ok (IsValueOf type.Boolean) (if b then d else Val (Flag false))
  and_typed true d h = h
  and_typed false d h = (false, refl)

  or_typed : (b : Bool) (d : Doing Value) → Ok (IsValueOf type.Boolean) d → Ok (IsValueOf type.Boolean) (if b then Val (Flag true) else d)
  or_typed true d h = (true, refl)
  or_typed false d h = h

  side_typed : (e : Expr) → ((u : TType) × IsOf p own e u × (is_procedural p.types u ≡ true)) ⊎ IsNamed p own e → ((u : TType) → IsOf p own e u → Ok (Of u) (value_of p here e)) → (IsNamed p own e → Ok Any (value_of p here e)) → Ok Any (value_of p here e)
  side_typed e (inl h) value named = typed_more p w here (Of h.0) Any (value_of p here e) (value h.0 h.1) (λ v c. tt)
  side_typed e (inr h) value named = named h

  mutual
    -- a designator finds a variable of its type
    pub place_typed : (q : Place) (t : TType) → IsPlaceOf p own q t → Ok (IsFound p w (Names q t) t) (place_of p here q)
    place_typed (ModuleVar m k) t ok = exact_found p w typed ⊥ t _ (variable_there p w known.modules m k t ok) (λ n. n)
    place_typed (Local k) t ok =
        let o = local_there p own here w known.frame k t ok in exact_found p w typed ⊥ t (own_place p here k) o.there (λ n. n)
    place_typed (Passed k) t ok = passed_typed p typed w own here known k t ok.0 ok.1 ok.2
    place_typed (Field q u k) t (inl h, of) =
        typed_bind p w here (IsFound p w (Names q u) u) (IsFound p w ⊥ t) (place_of p here q) _ (place_typed q u h.0) (λ s f. field_found p w typed u t k s (fields_found p w typed (Names q u) u s h.1 f) of)
    place_typed (Field q u k) t (inr h, of) =
        typed_bind p w here (HasFields p w (id_of u)) (IsFound p w ⊥ t) (place_of p here q) _ (object_typed q u h) (λ s f. field_found p w typed u t k s f of)
    place_typed (Index q n u e) t ok =
        subst (λ x. Ok (IsFound p w ⊥ x) (place_of p here (Index q n u e))) (sym ok.4)
        (typed_bind p w here (IsFound p w (Names q ok.0) ok.0) (IsFound p w ⊥ u) (place_of p here q) _ (place_typed q ok.0 ok.1) (λ s f.
        typed_bind p w here (Of (type.Integer W64)) (IsFound p w ⊥ u) (value_of p here e) _ (value_typed e (type.Integer W64) ok.3)
        (λ v c. element_typed p typed w own here known n v s (IsFound p w ⊥ u) (λ j less. element_found p w typed (Names q ok.0) ok.0 u n s ok.2 f j less))))
    place_typed (Behind r) t ok =
        typed_bind p w here (AreFound p w (HaveLengths r) 0 t) (IsFound p w ⊥ t) (rows_of p here r) _ (rows_typed r 0 t ok.0) (λ x f. none_found p w typed (HaveLengths r) t x f)
    place_typed (Deref e u) t ok =
        let record_is = is_record (row_of p.types (id_of u)) ≡ true in
        subst (λ x. Ok (IsFound p w (Names (Deref e u) x) x) (place_of p here (Deref e u))) (sym ok.4)
        (typed_bind p w here (Of ok.0) (IsFound p w record_is u) (value_of p here e) _ (value_typed e ok.0 ok.1)
        (λ v c. dereferenced_typed p typed w own here known (IsFound p w record_is u) ok.0 (id_of u) ok.2 (λ o m extends shape. pointed_found p w typed o m shape u extends ok.3) v c))
    place_typed (Named q k) t ok =
        subst (λ x. Ok (IsFound p w (Names (Named q k) x) x) (place_of p here (Named q k))) (sym ok.2)
        (typed_bind p w here (IsFound p w (Names q (type.Named k)) (type.Named k)) (IsFound p w (is_record (row_of p.types (id_of (type.Named k))) ≡ true) (type.Named k)) (place_of p here q) _ (place_typed q (type.Named k) ok.0)
        (λ s f. typed_found p w typed (Names q (type.Named k)) k s ok.1 f))
    place_typed (Guarded q k) t ok =
        subst (λ x. Ok (IsFound p w (Names (Guarded q k) x) x) (place_of p here (Guarded q k))) (sym ok.4)
        (typed_bind p w here (IsFound p w (Names q ok.0) ok.0) (IsFound p w (is_record (row_of p.types (id_of (type.Named k))) ≡ true) (type.Named k)) (place_of p here q) _ (place_typed q ok.0 ok.1)
        (λ s f. guard_place (Names q ok.0) ok.0 k s ok.2 ok.3 f))

    -- the fields of an object
    object_typed : (q : Place) (u : TType) → IsObjectAt p own q u → Ok (HasFields p w (id_of u)) (place_of p here q)
    object_typed (Deref e v) u ok =
        subst (λ x. Ok (HasFields p w (id_of x)) (place_of p here (Deref e v))) (sym ok.2)
        (typed_bind p w here (Of v) (HasFields p w (id_of v)) (value_of p here e) _ (value_typed e v ok.0)
        (λ y c. dereferenced_typed p typed w own here known (HasFields p w (id_of v)) v (id_of v) (object_target p.types (id_of v) (row_of p.types (id_of v)) ok.1) (λ o m extends shape. object_found p w typed o m shape (id_of v) extends ok.1) y c))
    object_typed (ModuleVar m k) u ok = absurd ok
    object_typed (Local k) u ok = absurd ok
    object_typed (Passed k) u ok = absurd ok
    object_typed (Field q v k) u ok = absurd ok
    object_typed (Index q n v e) u ok = absurd ok
    object_typed (Behind r) u ok = absurd ok
    object_typed (Named q k) u ok = absurd ok
    object_typed (Guarded q k) u ok = absurd ok

    -- an array's place, and the lengths of its dimensions
    pub rows_typed : (r : Rows) (n : ℕ) (t : TType) → AreRows p own r n t → Ok (AreFound p w (HaveLengths r) n t) (rows_of p here r)
    rows_typed (Known q ns) n t ok =
        subst (λ m. Ok (AreFound p w (HaveLengths (Known q ns)) m t) (rows_of p here (Known q ns))) (sym ok.0) (known_rows q ns t (λ u h. place_typed q u h) ok.1)
    rows_typed (Opened k j) n t ok =
        subst (λ m. Ok (AreFound p w (HaveLengths (Opened k j)) m t) (rows_of p here (Opened k j))) (sym ok.0) (opened_typed p typed w own here known k j t ok.1.0 ok.1.1 ok.1.2)
    rows_typed (Row r u e) n t ok =
        typed_bind p w here (AreFound p w (HaveLengths r) (suc n) t) (AreFound p w (HaveLengths r) n t) (rows_of p here r) _ (rows_typed r (suc n) t ok.0) (λ x f.
        typed_bind p w here (Of (type.Integer W64)) (AreFound p w (HaveLengths r) n t) (value_of p here e) _ (value_typed e (type.Integer W64) ok.1) (λ v c. row_typed p typed w own here known (HaveLengths r) n t x f v))
    rows_typed (Spread e j) n t ok =
        subst (λ m. Ok (AreFound p w (HaveLengths (Spread e j)) m t) (rows_of p here (Spread e j))) (sym ok.0)
        (typed_bind p w here (Of ok.1.0) (AreFound p w (Unit {0}) j t) (value_of p here e) _ (value_typed e ok.1.0 ok.1.2) (λ y c. spread_typed p typed w own here known ok.1.0 t ok.1.1 j ok.1.3 ok.1.4 ok.1.5 ok.1.6 y c))
    rows_typed (Longer r ns) n t ok =
        subst (λ m. Ok (AreFound p w (HaveLengths (Longer r ns)) m t) (rows_of p here (Longer r ns))) (sym ok.2)
        (typed_bind p w here (AreFound p w (HaveLengths r) ok.0 ok.1) (AreFound p w (HaveLengths (Longer r ns)) (ok.0 + length ns) t) (rows_of p here r) _ (rows_typed r ok.0 ok.1 ok.3)
        (λ x f. longer_found p w typed (HaveLengths r) (All IsLength ns) ok.0 ok.1 t ns x (λ b. b) ok.4 f))

    -- what is handed over for parameters
    pub arguments_typed : (us : Arguments) (as' : List Parameter) → AreArguments p own us as' → Ok (Given p w as') (arguments_of p here us)
    arguments_typed NoMore as' ok = subst (λ x. Given p w x []) (sym ok) refl
    arguments_typed (Scalar e more) as' ok =
        typed_bind p w here (Of ok.0.of) (Given p w as') (value_of p here e) _ (value_typed e ok.0.of ok.5) (λ v c.
        typed_bind p w here (Given p w ok.1) (Given p w as') (arguments_of p here more) _ (arguments_typed more ok.1 ok.6) (λ vs g. handled_one ok.0 ok.1 as' ok.2 (v ∷ []) vs (scalar_given ok.0 ok.3 ok.4 v c) g))
    arguments_typed (Whole q more) as' ok =
        let behind = arguments_typed more ok.1 ok.4 in
        elim ok.3 [
          | inl h ↦ typed_bind p w here (IsFound p w (Names q h.0) h.0) (Given p w as') (place_of p here q) _ (place_typed q h.0 h.1) (λ s f.
              typed_bind p w here (Given p w ok.1) (Given p w as') (arguments_of p here more) _ behind (λ vs g. handled_one ok.0 ok.1 as' ok.2 (PlaceValue s ∷ []) vs (whole_given ok.0 q h.0 h.2 s f) g))
          | inr h ↦ typed_bind p w here (λ s. HandlesFor p w ok.0 (PlaceValue s ∷ [])) (Given p w as') (place_of p here q) _ (filled_typed ok.0 q h) (λ s f.
              typed_bind p w here (Given p w ok.1) (Given p w as') (arguments_of p here more) _ behind (λ vs g. handled_one ok.0 ok.1 as' ok.2 (PlaceValue s ∷ []) vs f g))
        ]
    arguments_typed (Opening r more) as' ok =
        typed_bind p w here (AreFound p w (HaveLengths r) ok.2 ok.3) (Given p w as') (rows_of p here r) _ (rows_typed r ok.2 ok.3 ok.6) (λ x f.
        typed_bind p w here (Given p w ok.1) (Given p w as') (arguments_of p here more) _ (arguments_typed more ok.1 ok.8)
        (λ vs g. handled_one ok.0 ok.1 as' ok.4 (PlaceValue x.place ∷ x.lengths) vs (opening_given ok.0 (HaveLengths r) ok.2 ok.3 ok.5 ok.7 x f) g))

    -- an expression comes to a value of its type
    pub value_typed : (e : Expr) (t : TType) → IsOf p own e t → Ok (Of t) (value_of p here e)
    value_typed (Lit l) t ok = literal_typed l t ok
    value_typed SelfRef t ok = self_typed t ok.0 ok.1 ok.2 ok.3
    value_typed (Read u q) t ok =
        typed_bind p w here (IsFound p w (Names q u) u) (Of t) (place_of p here q) _ (place_typed q u ok.0) (λ s f. ((ok.1, scalar_found (Names q u) u s ok.1 f), λ v c. fitting_value p w typed t u v ok.2 c))
    value_typed (Unary op a) t ok =
        sorted p typed w own here known t (value_of p here (Unary op a)) (given_basic op t ok.1)
        (typed_bind p w here (IsValueOf (taken op)) (IsValueOf t) (value_of p here a) _ (number_typed a (taken op) (taken_basic op) (value_typed a (taken op) ok.0))
        (λ v c. given_typed p typed w own here known t (unary_sort op) (unary_of op (number_of v)) (unary_agrees op t v c ok.1)))
    value_typed (Binary op a b) t ok =
        let o = operands_suit op (IsOf p own a) (IsOf p own b) ok.0 in
        sorted p typed w own here known t (value_of p here (Binary op a b)) (two_basic op t ok.1)
        (typed_bind p w here (IsValueOf o.0) (IsValueOf t) (value_of p here a) _ (number_typed a o.0 o.5 (value_typed a o.0 o.2)) (λ x c.
        typed_bind p w here (IsValueOf o.1) (IsValueOf t) (value_of p here b) _ (number_typed b o.1 o.6 (value_typed b o.1 o.3))
        (λ y d. given_typed p typed w own here known t (binary_sort op) (binary_of op (number_of x) (number_of y)) (binary_agrees op t x y (o.4 x y c d) ok.1))))
    value_typed (And a b) t ok =
        truth t (value_of p here (And a b)) ok.2
        (typed_bind p w here (IsValueOf type.Boolean) (IsValueOf type.Boolean) (value_of p here a) _ (number_typed a type.Boolean refl (value_typed a type.Boolean ok.0))
        (λ x c. and_typed (is_true x) (value_of p here b) (number_typed b type.Boolean refl (value_typed b type.Boolean ok.1))))
    value_typed (Or a b) t ok =
        truth t (value_of p here (Or a b)) ok.2
        (typed_bind p w here (IsValueOf type.Boolean) (IsValueOf type.Boolean) (value_of p here a) _ (number_typed a type.Boolean refl (value_typed a type.Boolean ok.0))
        (λ x c. or_typed (is_true x) (value_of p here b) (number_typed b type.Boolean refl (value_typed b type.Boolean ok.1))))
    value_typed (Element a) t ok =
        subst (λ z. Ok (Of z) (value_of p here (Element a))) (sym ok.1)
        (sorted p typed w own here known type.Set (value_of p here (Element a)) refl
        (typed_bind p w here (IsValueOf (type.Integer W64)) (IsValueOf type.Set) (value_of p here a) _ (number_typed a (type.Integer W64) refl (value_typed a (type.Integer W64) ok.0))
        (λ v c. given_typed p typed w own here known type.Set (binary_sort SetSpan) (binary_of SetSpan (number_of v) (number_of v)) (binary_agrees SetSpan type.Set v v (c, c) refl))))
    value_typed (Ord a) t ok =
        sorted p typed w own here known t (value_of p here (Ord a)) (included_basic t W16 ok.1)
        (typed_bind p w here (IsValueOf type.Char) (IsValueOf t) (value_of p here a) _ (number_typed a type.Char refl (value_typed a type.Char ok.0)) (λ v c. included t (type.Integer W16) (ord v) ok.1 (ord_is v c)))
    value_typed (Chr a) t ok =
        subst (λ z. Ok (Of z) (value_of p here (Chr a))) (sym ok.1)
        (sorted p typed w own here known type.Char (value_of p here (Chr a)) refl
        (typed_bind p w here (IsValueOf (type.Integer W64)) (IsValueOf type.Char) (value_of p here a) _ (number_typed a (type.Integer W64) refl (value_typed a (type.Integer W64) ok.0))
        (λ v c. given_typed p typed w own here known type.Char Character (unary_of (Range (pos 0) (pos 255)) (number_of v)) (chr_agrees (number_of v)))))
    value_typed (CompareTexts r a b) t ok =
        truth t (value_of p here (CompareTexts r a b)) ok.2
        (typed_bind p w here (AreFound p w (HaveLengths a) 1 type.Char) (IsValueOf type.Boolean) (rows_of p here a) _ (rows_typed a 1 type.Char ok.0) (λ x f.
        typed_bind p w here (AreFound p w (HaveLengths b) 1 type.Char) (IsValueOf type.Boolean) (rows_of p here b) _ (rows_typed b 1 type.Char ok.1)
        (λ y g. ((text_found p w typed (HaveLengths a) x f, text_found p w typed (HaveLengths b) y g), λ v told. flag_is v told))))
    value_typed (Len r d) t ok =
        sorted p typed w own here known t (value_of p here (Len r d)) (included_basic t W32 ok.5)
        (typed_bind p w here (AreFound p w (HaveLengths r) ok.0 ok.1) (IsValueOf t) (rows_of p here r) _ (rows_typed r ok.0 ok.1 ok.2) (λ x f. length_typed t ok.1 (HaveLengths r) ok.0 d ok.3 ok.4 ok.5 x f))
    value_typed (LenBehind r l) t ok =
        sorted p typed w own here known t (value_of p here (LenBehind r l)) (included_basic t W32 ok.4)
        (typed_bind p w here (AreFound p w (HaveLengths r) ok.0 ok.1) (IsValueOf t) (rows_of p here r) _ (rows_typed r ok.0 ok.1 ok.2) (λ x f. included t (type.Integer W32) (Int (pos l)) ok.4 (pos l, refl, ok.3)))
    value_typed (Function c more) t ok =
        typed_more p w here (IsAnswer p w ok.0.result) (Of t) (called p here c more) (called_typed c ok.0 ok.2 more (arguments_typed more ok.0.parameters ok.6))
        (λ v a. fitting_value p w typed t ok.1 v ok.5 (subst (λ o. IsAnswer p w o v) ok.3 a))
    value_typed (Same a b) t ok =
        truth t (value_of p here (Same a b)) ok.2
        (typed_bind p w here (Of ok.0.0) (IsValueOf type.Boolean) (value_of p here a) _ (value_typed a ok.0.0 ok.0.1) (λ x c.
        typed_bind p w here (Of ok.1.0) (IsValueOf type.Boolean) (value_of p here b) _ (value_typed b ok.1.0 ok.1.1) (λ y d. (_, refl))))
    value_typed (IsOfType a k) t ok =
        truth t (value_of p here (IsOfType a k)) ok.2
        (typed_bind p w here (Of ok.0.0) (IsValueOf type.Boolean) (value_of p here a) _ (value_typed a ok.0.0 ok.0.1) (λ v c. instance_typed p typed w own here known ok.0.0 k ok.0.2 v c))
    value_typed (IsRecord q k) t ok =
        truth t (value_of p here (IsRecord q k)) ok.4
        (typed_bind p w here (IsFound p w (Names q ok.0) ok.0) (IsValueOf type.Boolean) (place_of p here q) _ (place_typed q ok.0 ok.1) (λ s f. (_, refl)))
    value_typed (Guard a k) t ok =
        typed_bind p w here (Of ok.0.0) (Of t) (value_of p here a) _ (value_typed a ok.0.0 ok.0.1) (λ v c. guarded_typed p typed w own here known t ok.0.0 k ok.0.2 ok.2 v c)
    value_typed (ProcedureOf m k) t ok = procedure_value p typed w own here known t m k ok.0 ok.1 ok.2
    value_typed (MethodOf a j k) t ok =
        typed_bind p w here (Of (type.Named j)) (Of t) (value_of p here a) _ (value_typed a (type.Named j) ok.0) (λ v c. method_value p typed w own here known j k ok.2.0 ok.2.1 t ok.2.2 ok.1 v c)
    value_typed (SameProcedure a b) t ok =
        truth t (value_of p here (SameProcedure a b)) ok.2
        (typed_bind p w here Any (IsValueOf type.Boolean) (value_of p here a) _ (side_typed a ok.0 (λ u h. value_typed a u h) (λ h. named_typed a h)) (λ x c.
        typed_bind p w here Any (IsValueOf type.Boolean) (value_of p here b) _ (side_typed b ok.1 (λ u h. value_typed b u h) (λ h. named_typed b h)) (λ y d. (_, refl))))
    value_typed (Had v) t ok = absurd ok

    -- a procedure or a method that is named
    named_typed : (e : Expr) → IsNamed p own e → Ok Any (value_of p here e)
    named_typed (Lit l) h = tt
    named_typed (ProcedureOf m k) h = tt
    named_typed (MethodOf a j k) h =
        typed_bind p w here (Of (type.Named j)) Any (value_of p here a) _ (value_typed a (type.Named j) h.0) (λ v c. bound_typed p typed w own here known j k h.2.0 h.2.1 (λ v. Unit {0}) (λ n o home r there formals on. tt) h.1 v c)
    named_typed _ h = absurd h

    -- a call
    pub called_typed : (c : Callee) (q : Procedure) → IsCalled p own c q → (more : Arguments) → Ok (Given p w q.parameters) (arguments_of p here more) → Ok (IsAnswer p w q.result) (called p here c more)
    called_typed (PlainCall m k) q ok more hands =
        let none = typed.plain m k q ok in
        typed_bind p w here (Given p w q.parameters) (IsAnswer p w q.result) (arguments_of p here more) _ hands
        (λ vs g. asked_typed p typed w own here known ByName (procedure_number p m k) m q (routine_there p m k q ok) vs (subst (λ o. Given p w q.parameters (arguments_in (is_some o) vs)) (sym none) g) (subst (λ o. IsCalledOn p w.made o vs) (sym none) tt))
    called_typed (Dispatched e t k) q ok more hands =
        typed_bind p w here (Of (type.Named t)) (IsAnswer p w q.result) (value_of p here e) _ (value_typed e (type.Named t) ok.0) (λ v c.
        typed_bind p w here (Given p w q.parameters) (IsAnswer p w q.result) (arguments_of p here more) _ hands (λ vs g. sent_typed p typed w own here known t k q ok.2 ok.1 v c vs g))
    called_typed (Upper t k) q ok more hands =
        typed_bind p w here (Given p w q.parameters) (IsAnswer p w q.result) (arguments_of p here more) _ hands (λ vs g. upper_typed t k q ok.0 ok.1 ok.2 ok.3 vs g)
    called_typed (Through e t) q ok more hands =
        typed_bind p w here (Of (type.Named t)) (IsAnswer p w q.result) (value_of p here e) _ (value_typed e (type.Named t) ok.0) (λ v c.
        typed_bind p w here (Given p w q.parameters) (IsAnswer p w q.result) (arguments_of p here more) _ hands (λ vs g. applied_typed p typed w own here known t q ok.1 v c vs g))

  -- one of a basic type
  pub basic_typed : (e : Expr) (t : TType) → is_basic t ≡ true → IsOf p own e t → Ok (IsValueOf t) (value_of p here e)
  basic_typed e t basic ok = number_typed e t basic (value_typed e t ok)
