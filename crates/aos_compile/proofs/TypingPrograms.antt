-- A program with more modules and more objects: what is well typed stays so.
use Rattle.std.proofs.Common.{◌≡◌, ◌+◌, ℕ, zero, suc, ◌<◌, ◌≤◌, ◌⊎◌, inl, inr, List, [], ◌∷◌, ◌++◌, length, true, false, All, Option, Some, None, option_map, option_and_then, slice_get, refl, sym, ap, ◌∙◌, subst, length-append, arith}
use Rattle.std.proofs.lemmas.List.Elements.{All-head, All-tail}
use Rattle.std.proofs.lemmas.Option.{none-some, same_Some, slice_get_within}
use Rattle.aos_base.specs.declared.operator.Binary.{Binary as BinaryOperator}
use Rattle.aos_base.specs.declared.operator.Binary.TheVariants.{Add, Sub, Mul, Div, Mod, Ash, Cmp, Union, Minus, Meet, Xor, SetSpan, In}
use Rattle.aos_base.specs.declared.number.Width.TheVariants.{W64}
use Rattle.aos_types.specs.declared.row.TypeId.{TypeId}
use Rattle.aos_types.specs.declared.row.TypeRow.{TypeRow}
use Rattle.aos_types.specs.declared.row.TypeRow.TheVariants as row
use Rattle.aos_types.specs.Table.{row_of, is_object, is_open, is_record}
use Rattle.aos_types.specs.Extension.{comes_to}
use Rattle.aos_typed.specs.declared.tree.TType.{TType}
use Rattle.aos_typed.specs.declared.tree.TType.TheVariants.{Integer, Named, Any, Char as TChar}
use Rattle.aos_typed.specs.Numbers.{id_of}
use Rattle.aos_typed.specs.Meaning.{changed_type}
use Rattle.aos_typed.specs.Routines.{result_of}
use Rattle.aos_typed.specs.Program.{Place, ModuleVar, Local, Passed, Field, Index, Of, Deref, Typed, Guarded, Rows, Known, Opened, Row, Spread, Longer, Arguments, NoMore, Scalar, Whole, Opening, Callee, Plain, Dispatched, Upper, Through, Expr, Lit, SelfRef, Read, Unary, Binary, And, Or, Element, Ord, Chr, CompareTexts, Len, LenBehind, Function, Same, Is, IsRecord, Guard, ProcedureOf, MethodOf, SameProcedure, Had, Call, Open, Char, Int, String, Ln, Stat, Assign, Copy, PutText, If, Case, While, Repeat, Loop, Exit, For, Block, Await, Assert, Halt, Change, Perform, Return, New, Make, With, WithRecord, Out, Stats, Nothing, Then, Arms, Otherwise, Arm, Cases, NoElse, Else, OfLabels, Parameter, Procedure, Module, ObjectType, Program}
use Rattle.aos_typed.specs.Open.{open_dimensions, open_element}
use Rattle.aos_typed.specs.Formals.{AreSame, Agree, HasFormals, pattern_in, pattern_of}
use Rattle.aos_typed.specs.Methods.{method_in, initializer}
use Rattle.aos_typed.specs.WellTyped.{variable_type, procedure_in, field_type, target, is_reference, is_value, is_whole, Fits, IsProcedural, amount_type, Takes, IsArrayOf, IsConstantText, IsNoConstant, AreVariables, IsOpening, IsByReference, IsByValue, IsParameter, NamesType, IsGiven, IsPlaceOf, IsObjectAt, AreRows, AreArguments, IsCalled, IsOf, IsNamed, AreObjects, AreLengthsOf, IsCall, IsInitialized, IsReturn, IsStatement, AreStatements, AreArms, AreCases, IsType}
use Rattle.aos_symbols.proofs.Each.{Each}
use Rattle.aos_symbols.proofs.Told.{get_front}
use Rattle.aos_check_expr.proofs.Opens.{OpensFall, stand_fall, dimensions_stay, element_stays}
use Rattle.aos_check_decl.proofs.Typing.{AreReady}
use Rattle.aos_compile.proofs.MethodsGrow.{method_stays, each_method}
use Rattle.aos_compile.proofs.Nearest.{initializer_stays}
use Rattle.aos_compile.proofs.TypingTables.{TargetsThere, targets_there, comes_stays, field_stays, target_stays, target_there, reference_stays, procedural_stays, value_stays, object_fits}
use Rattle.aos_compile.proofs.TypingTypes.{RowsStay, fact_stays, closed_stays}

-- the types of a procedure's parameters are there
abbrev pub HaveTypes : Program → List Parameter → Type 0
HaveTypes p as' = All (λ a. IsType p a.of) as'

-- each module, each row, each object type and each method in its slot has its number, and both tables are those of modules that break no
-- rule
pub record Grows (p q : Program) : Type 0 where
  pub modules : (m : ℕ) (x : Module) → slice_get p.modules m ≡ Some x → slice_get q.modules m ≡ Some x
  pub rows : RowsStay p.types q.types
  pub count : length p.types ≡ 10 + length p.objects
  pub objects : length p.objects ≤ length q.objects
  pub stand : (t : ℕ) (o : ObjectType) → slice_get p.objects t ≡ Some o → slice_get q.objects t ≡ Some o
  pub methods : (t k : ℕ) (x : Procedure) → method_in p t k ≡ Some x → (method_in q t k ≡ Some x) × HaveTypes p x.parameters
  pub initializers : (t : ℕ) → t < length p.objects → initializer q t ≡ initializer p t
  pub parameters : (m k : ℕ) (x : Procedure) → procedure_in p m k ≡ Some x → HaveTypes p x.parameters
  pub patterns : (k : ℕ) (o : ObjectType) → slice_get p.objects k ≡ Some o → HaveTypes p o.body.parameters
  pub old : AreReady p.types
  pub new : AreReady q.types

not_both : true ≡ false → ⊥
not_both e = cc

no_type : {A : Type 0} {x : A} → None ≡ Some x → ⊥
no_type e = cc

-- an operator takes operands of which more is said
takes_more : (op : BinaryOperator) (A B C D : TType → Type 0) → ((t : TType) → A t → C t) → ((t : TType) → B t → D t) → Takes op A B → Takes op C D
takes_more (Add w) A B C D f g h = (f _ h.0, g _ h.1)
takes_more (Sub w) A B C D f g h = (f _ h.0, g _ h.1)
takes_more (Mul w) A B C D f g h = (f _ h.0, g _ h.1)
takes_more (Div w) A B C D f g h = (f _ h.0, g _ h.1)
takes_more (Mod w) A B C D f g h = (f _ h.0, g _ h.1)
takes_more (Ash w) A B C D f g h = (f _ h.0, g _ h.1)
takes_more (Cmp r) A B C D f g h = (h.0, h.1, f h.0 h.2, g h.0 h.3)
takes_more Union A B C D f g h = (f _ h.0, g _ h.1)
takes_more Minus A B C D f g h = (f _ h.0, g _ h.1)
takes_more Meet A B C D f g h = (f _ h.0, g _ h.1)
takes_more Xor A B C D f g h = (f _ h.0, g _ h.1)
takes_more SetSpan A B C D f g h = (f _ h.0, g _ h.1)
takes_more In A B C D f g h = (f _ h.0, g _ h.1)

either_grows : {A B C D : Type 0} → (A → C) → (B → D) → A ⊎ B → C ⊎ D
either_grows f g (inl a) = inl (f a)
either_grows f g (inr b) = inr (g b)

module _ (p q : Program) (grows : Grows p q) where
  falls : OpensFall p.types
  falls = stand_fall p.types grows.old.opens

  falls_on : OpensFall q.types
  falls_on = stand_fall q.types grows.new.opens

  targets : TargetsThere p.types
  targets = targets_there p.types grows.old.parts

  -- rows
  row_grows : (k : ℕ) (r : TypeRow) → slice_get p.types k ≡ Some r → slice_get q.types k ≡ Some r
  row_grows k r is = grows.rows k (slice_get_within p.types k r is) ∙ is

  field_grows : (of : TypeId) (k : ℕ) (t : TypeId) → field_type p.types of k ≡ Some t → field_type q.types of k ≡ Some t
  field_grows of k t h = field_stays p.types q.types grows.rows grows.old of k t h

  record_grows : (t : TType) → is_record (row_of p.types (id_of t)) ≡ true → is_record (row_of q.types (id_of t)) ≡ true
  record_grows t h = fact_stays p.types q.types grows.rows is_record refl (id_of t).0 h

  whole_grows : (t : TType) → is_whole (row_of p.types (id_of t)) ≡ true → is_whole (row_of q.types (id_of t)) ≡ true
  whole_grows t h = fact_stays p.types q.types grows.rows is_whole refl (id_of t).0 h

  comes_grow : (a b : TypeId) → comes_to p.types a b ≡ true → comes_to q.types a b ≡ true
  comes_grow a b h = comes_stays p.types q.types grows.rows a b h

  target_grows : (t : TType) (u : TypeId) → target p.types t ≡ Some u → target q.types t ≡ Some u
  target_grows t u h = target_stays p.types q.types grows.rows falls targets t u h

  reference_grows : (t : TType) → is_reference p.types t ≡ true → is_reference q.types t ≡ true
  reference_grows t h = reference_stays p.types q.types grows.rows falls targets t h

  scalar_grows : (t : TType) → is_value p.types t ≡ true → is_value q.types t ≡ true
  scalar_grows t h = value_stays p.types q.types grows.rows falls targets t h

  guard_grows : (k : ℕ) (t : TType) → (t ≡ Any) ⊎ ((b : TypeId) × (target p.types t ≡ Some b) × (comes_to p.types (id_of (Named k)) b ≡ true)) →
      (t ≡ Any) ⊎ ((b : TypeId) × (target q.types t ≡ Some b) × (comes_to q.types (id_of (Named k)) b ≡ true))
  guard_grows k t (inl is) = inl is
  guard_grows k t (inr h) = inr (h.0, target_grows t h.0 h.1, comes_grow (id_of (Named k)) h.0 h.2)

  dimensions_grow : (t : TypeId) → t.0 < length p.types → open_dimensions q.types t ≡ open_dimensions p.types t
  dimensions_grow t there = dimensions_stay p.types q.types falls falls_on grows.rows t.0 t (omega arith) there

  element_grows : (t : TypeId) → t.0 < length p.types → open_element q.types t ≡ open_element p.types t
  element_grows t there = element_stays p.types q.types falls falls_on grows.rows t.0 t (omega arith) there

  fewer : (k : ℕ) → k < length p.objects → k < length q.objects
  fewer k h = let more = grows.objects in omega (arith, h, more)

  -- an object type is there
  object_there : (k : ℕ) → is_object (row_of p.types (id_of (Named k))) ≡ true → k < length p.objects
  object_there k h = by (row_of p.types (id_of (Named k))) refl h
    where
      by : (r : Option TypeRow) → row_of p.types (id_of (Named k)) ≡ r → is_object r ≡ true → k < length p.objects
      by None is h = absurd (not_both (sym h))
      by (Some r) is h = let below = slice_get_within p.types (id_of (Named k)).0 r is in let count = grows.count in omega (arith, below, count)

  -- an object type's row stays one, and another one's another one
  plain_grows : (k : ℕ) → k < length p.objects → is_object (row_of p.types (id_of (Named k))) ≡ false → is_object (row_of q.types (id_of (Named k))) ≡ false
  plain_grows k below h = let count = grows.count in ap is_object (grows.rows (id_of (Named k)).0 (omega (arith, below, count))) ∙ h

  -- Procedures that stand for those of procedure types, and what has the same formals.

  pattern_grows : (t : TType) (x : Procedure) → pattern_of p t ≡ Some x → pattern_of q t ≡ Some x
  pattern_grows (Named k) x h = by (row_of p.types (id_of (Named k))) refl h
    where
      beside : (o : Option ObjectType) → slice_get p.objects k ≡ o → option_map (λ (o : ObjectType). o.body) o ≡ Some x → option_map (λ (o : ObjectType). o.body) (slice_get q.objects k) ≡ Some x
      beside None is h = absurd (no_type h)
      beside (Some o) is h = ap (option_map (λ (o : ObjectType). o.body)) (grows.stand k o is) ∙ h

      by : (r : Option TypeRow) → row_of p.types (id_of (Named k)) ≡ r → pattern_in p r k ≡ Some x → pattern_of q (Named k) ≡ Some x
      by (Some (row.Procedure fs s)) is h =
          ap (λ r. pattern_in q r k) (row_grows (id_of (Named k)).0 (row.Procedure fs s) is) ∙ beside (slice_get p.objects k) refl h
      by r is h = absurd (none-some x h)
  pattern_grows t x h = absurd (none-some x h)

  pattern_there : (t : TType) (x : Procedure) → pattern_of p t ≡ Some x → HaveTypes p x.parameters
  pattern_there (Named k) x h = by (row_of p.types (id_of (Named k))) h
    where
      beside : (o : Option ObjectType) → slice_get p.objects k ≡ o → option_map (λ (o : ObjectType). o.body) o ≡ Some x → HaveTypes p x.parameters
      beside None is h = absurd (no_type h)
      beside (Some o) is h = subst (λ (z : Procedure). HaveTypes p z.parameters) (same_Some o.body x h) (grows.patterns k o is)

      by : (r : Option TypeRow) → pattern_in p r k ≡ Some x → HaveTypes p x.parameters
      by (Some (row.Procedure fs s)) h = beside (slice_get p.objects k) refl h
      by r h = absurd (none-some x h)
  pattern_there t x h = absurd (none-some x h)

  open_there : (t : TypeId) → is_open (row_of p.types t) ≡ true → t.0 < length p.types
  open_there t h = by (row_of p.types t) refl h
    where
      by : (r : Option TypeRow) → row_of p.types t ≡ r → is_open r ≡ true → t.0 < length p.types
      by None is h = absurd (not_both (sym h))
      by (Some r) is h = slice_get_within p.types t.0 r is

  same_grows : (t u : TType) → AreSame p.types t u → AreSame q.types t u
  same_grows t u (inl is) = inl is
  same_grows t u (inr h) =
      let first = open_there (id_of t) h.0 in
      let second = open_there (id_of u) h.1 in
      inr (
        fact_stays p.types q.types grows.rows is_open refl (id_of t).0 h.0,
        fact_stays p.types q.types grows.rows is_open refl (id_of u).0 h.1,
        dimensions_grow (id_of t) first ∙ h.2 ∙ sym (dimensions_grow (id_of u) second),
        element_grows (id_of t) first ∙ h.3 ∙ sym (element_grows (id_of u) second),
      )

  agree_grows : (as' bs : List Parameter) → Agree p.types as' bs → Agree q.types as' bs
  agree_grows [] [] h = tt
  agree_grows [] (b ∷ bs) h = absurd h
  agree_grows (a ∷ as') [] h = absurd h
  agree_grows (a ∷ as') (b ∷ bs) h = (h.0, same_grows a.of b.of h.1, agree_grows as' bs h.2)

  formals_grow : (x y : Procedure) → HasFormals p.types x y → HasFormals q.types x y
  formals_grow x y h = (agree_grows x.parameters y.parameters h.0, h.1)

  procedural_grows : (t : TType) (x : Procedure) → IsProcedural p t x → IsProcedural q t x
  procedural_grows t x h = (h.0, pattern_grows t h.0 h.1, formals_grow x h.0 h.2)

  fits_grow : (t u : TType) → Fits p t u → Fits q t u
  fits_grow t u (inl h) = inl h
  fits_grow t u (inr (inl h)) = inr (inl (object_fits p.types q.types grows.rows falls targets t u h))
  fits_grow t u (inr (inr h)) = inr (inr (h.0, h.1, pattern_grows t h.0 h.2, pattern_grows u h.1 h.3, formals_grow h.1 h.0 h.4))

  -- each variable has its type, and each procedure its number
  in_module : {A : Type 0} (f : Module → Option A) (m : ℕ) (x : A) → option_and_then f (slice_get p.modules m) ≡ Some x → option_and_then f (slice_get q.modules m) ≡ Some x
  in_module f m x h = by (slice_get p.modules m) refl h
    where
      by : (o : Option Module) → slice_get p.modules m ≡ o → option_and_then f o ≡ Some x → option_and_then f (slice_get q.modules m) ≡ Some x
      by None is h = absurd (no_type h)
      by (Some y) is h = ap (option_and_then f) (grows.modules m y is) ∙ h

  variable_grows : (m k : ℕ) (t : TType) → variable_type p m k ≡ Some t → variable_type q m k ≡ Some t
  variable_grows m k t h = in_module (λ x. option_map (λ v. v.of) (slice_get x.variables k)) m t h

  procedure_grows : (m k : ℕ) (x : Procedure) → procedure_in p m k ≡ Some x → procedure_in q m k ≡ Some x
  procedure_grows m k x h = in_module (λ y. slice_get y.procedures k) m x h

  -- lengths
  arrays_grow : (ns : List ℕ) (t of : TypeId) → IsArrayOf p.types ns t of → IsArrayOf q.types ns t of
  arrays_grow [] t of h = h
  arrays_grow (n ∷ ns) t of h = (h.0, row_grows t.0 (row.Array n h.0) h.1, arrays_grow ns h.0 of h.2)

  -- texts
  constant_grows : (x : Place) (n : ℕ) → IsConstantText p x n → IsConstantText q x n
  constant_grows (ModuleVar m k) n h = (h.0, grows.modules m h.0 h.1, h.2)
  constant_grows (Local k) n h = h
  constant_grows (Passed k) n h = h
  constant_grows (Of r) n h = h
  constant_grows (Field x of k) n h = h
  constant_grows (Index x l of e) n h = h
  constant_grows (Deref e u) n h = h
  constant_grows (Typed x k) n h = h
  constant_grows (Guarded x k) n h = h

  no_constant_grows : (x : Place) → IsNoConstant p x → IsNoConstant q x
  no_constant_grows (ModuleVar m k) h = (h.0, variable_grows m k h.0 h.1)
  no_constant_grows x h = h

  variables_grow : (r : Rows) → AreVariables p r → AreVariables q r
  variables_grow (Known x ns) h = no_constant_grows x h
  variables_grow (Opened k j) h = h
  variables_grow (Row r of e) h = variables_grow r h
  variables_grow (Spread e j) h = h
  variables_grow (Longer r ns) h = variables_grow r h

  -- parameters
  value_parameter : (a : Parameter) (t : TType) → IsType p a.of → IsByValue p a t → IsByValue q a t
  value_parameter a t there h = (closed_stays p.types q.types grows.rows (id_of a.of).0 there h.0, h.1, h.2)

  reference_parameter : (a : Parameter) (t : TType) → IsType p a.of → IsByReference p a t → IsByReference q a t
  reference_parameter a t there h = (closed_stays p.types q.types grows.rows (id_of a.of).0 there h.0, h.1, h.2)

  opening_grows : (a : Parameter) (n : ℕ) (t : TType) → IsType p a.of → IsOpening p a n t → IsOpening q a n t
  opening_grows a n t there h =
      let of = id_of a.of in (
        fact_stays p.types q.types grows.rows is_open refl of.0 h.0,
        h.1 ∙ sym (dimensions_grow of there),
        element_grows of there ∙ h.2,
      )

  parameter_there : (as' : List Parameter) (k : ℕ) (a : Parameter) → HaveTypes p as' → slice_get as' k ≡ Some a → IsType p a.of
  parameter_there [] k a all is = absurd (none-some a is)
  parameter_there (x ∷ xs) zero a all is = subst (λ (a : Parameter). IsType p a.of) (same_Some x a is) (All-head (λ a. IsType p a.of) x xs all)
  parameter_there (x ∷ xs) (suc k) a all is = parameter_there xs k a (All-tail (λ a. IsType p a.of) x xs all) is

  -- the first of some parameters, and the others
  first_there : (as' : List Parameter) (a : Parameter) (rest : List Parameter) → as' ≡ a ∷ rest → HaveTypes p as' → IsType p a.of × HaveTypes p rest
  first_there as' a rest is all =
      let both = subst (HaveTypes p) is all in (All-head (λ a. IsType p a.of) a rest both, All-tail (λ a. IsType p a.of) a rest both)

  -- a whole array with the lengths of its first dimensions, or a string constant
  abbrev IsKnownArray : Program → (TType → Type 0) → Place → List ℕ → TType → Type 0
  IsKnownArray r P place ns t = ((u : TType) × P u × IsArrayOf r.types ns (id_of u) (id_of t)) ⊎ ((m : ℕ) × (ns ≡ m ∷ []) × IsConstantText r place m × (t ≡ TChar))

  known_grows : (P Q : TType → Type 0) → ((t : TType) → P t → Q t) → (place : Place) (ns : List ℕ) (t : TType) → IsKnownArray p P place ns t → IsKnownArray q Q place ns t
  known_grows P Q more place ns t (inl h) = inl (h.0, more h.0 h.1, arrays_grow ns (id_of h.0) (id_of t) h.2)
  known_grows P Q more place ns t (inr h) = inr (h.0, h.1, constant_grows place h.0 h.2, h.3)

  module _ (own : Option Procedure) (own_types : (x : Procedure) → own ≡ Some x → HaveTypes p x.parameters) where
    own_there : (k : ℕ) (a : Parameter) → IsParameter p own k a → IsType p a.of
    own_there k a is = by own refl is
      where
        by : (o : Option Procedure) → own ≡ o → option_and_then (λ (x : Procedure). slice_get x.parameters k) o ≡ Some a → IsType p a.of
        by None same is = absurd (no_type is)
        by (Some x) same is = parameter_there x.parameters k a (own_types x same) is

    names_grow : (x : Place) (t : TType) → NamesType p own x t → NamesType q own x t
    names_grow (ModuleVar m k) t h = h
    names_grow (Local k) t h = h
    names_grow (Passed k) t h = record_grows t h
    names_grow (Field x of k) t h = h
    names_grow (Index x n of e) t h = h
    names_grow (Of r) t h = h
    names_grow (Deref e u) t h = record_grows t h
    names_grow (Typed x k) t h = record_grows t h
    names_grow (Guarded x k) t h = record_grows t h

    given_grows : (a : Parameter) (x : Place) (u : TType) → IsType p a.of → IsGiven p own a x u → IsGiven q own a x u
    given_grows a x u there (inl h) =
        let of : (id_of u).0 < length p.types = subst (IsType p) h.0.2 there in
        inl (reference_parameter a u there h.0, ap is_record (grows.rows (id_of u).0 of) ∙ h.1)
    given_grows a x u there (inr (inl h)) =
        inr (inl (closed_stays p.types q.types grows.rows (id_of a.of).0 there h.0, h.1, names_grow x u h.2, comes_grow (id_of u) (id_of a.of) h.3))
    given_grows a x u there (inr (inr h)) = inr (inr (value_parameter a a.of there h.0, whole_grows a.of h.1, comes_grow (id_of u) (id_of a.of) h.2))

    mutual
      place_grows : (x : Place) (t : TType) → IsPlaceOf p own x t → IsPlaceOf q own x t
      place_grows (ModuleVar m k) t h = variable_grows m k t h
      place_grows (Local k) t (inl h) = inl h
      place_grows (Local k) t (inr h) = inr (h.0, h.1, value_parameter h.0 t (own_there k h.0 h.1) h.2)
      place_grows (Passed k) t h = (h.0, h.1, reference_parameter h.0 t (own_there k h.0 h.1) h.2)
      place_grows (Field x of k) t h = (either_grows (λ a. (place_grows x of a.0, record_grows of a.1)) (object_grows x of) h.0, field_grows (id_of of) k (id_of t) h.1)
      place_grows (Index x n of e) t h = (h.0, place_grows x h.0 h.1, row_grows (id_of h.0).0 (row.Array n (id_of of)) h.2, value_grows e (Integer W64) h.3, h.4)
      place_grows (Of r) t h = (rows_grow r 0 t h.0, variables_grow r h.1)
      place_grows (Deref e u) t h = (h.0, value_grows e h.0 h.1, target_grows h.0 (id_of u) h.2, whole_grows u h.3, h.4)
      place_grows (Typed x k) t h = (place_grows x (Named k) h.0, record_grows (Named k) h.1, h.2)
      place_grows (Guarded x k) t h = (h.0, place_grows x h.0 h.1, names_grow x h.0 h.2, record_grows (Named k) h.3, h.4)

      object_grows : (x : Place) (t : TType) → IsObjectAt p own x t → IsObjectAt q own x t
      object_grows (Deref e u) t h = (value_grows e u h.0, fact_stays p.types q.types grows.rows is_object refl (id_of u).0 h.1, h.2)
      object_grows (ModuleVar m k) t h = h
      object_grows (Local k) t h = h
      object_grows (Passed k) t h = h
      object_grows (Field x of k) t h = h
      object_grows (Index x n of e) t h = h
      object_grows (Of r) t h = h
      object_grows (Typed x k) t h = h
      object_grows (Guarded x k) t h = h

      rows_grow : (r : Rows) (n : ℕ) (t : TType) → AreRows p own r n t → AreRows q own r n t
      rows_grow (Known x ns) n t h = (h.0, known_grows (IsPlaceOf p own x) (IsPlaceOf q own x) (place_grows x) x ns t h.1)
      rows_grow (Opened k j) n t h = let a = h.1 in (h.0, (a.0, a.1, opening_grows a.0 j t (own_there k a.0 a.1) a.2))
      rows_grow (Spread e j) n t h =
          let a = h.1 in
          let there = target_there p.types q.types grows.rows falls targets a.0 a.1 a.3 in (
            h.0,
            (
              a.0,
              a.1,
              value_grows e a.0 a.2,
              target_grows a.0 a.1 a.3,
              fact_stays p.types q.types grows.rows is_open refl a.1.0 a.4,
              a.5 ∙ sym (dimensions_grow a.1 there),
              element_grows a.1 there ∙ a.6,
            ),
          )
      rows_grow (Row r of e) n t h = (rows_grow r (suc n) t h.0, value_grows e (Integer W64) h.1, h.2)
      rows_grow (Longer r ns) n t h = (h.0, h.1, h.2, rows_grow r h.0 h.1 h.3, arrays_grow ns (id_of h.1) (id_of t) h.4)

      arguments_grow : (x : Arguments) (as' : List Parameter) → HaveTypes p as' → AreArguments p own x as' → AreArguments q own x as'
      arguments_grow NoMore as' all h = h
      arguments_grow (Scalar e more) as' all h =
          let one = first_there as' h.0 h.1 h.2 all in
          (h.0, h.1, h.2, value_parameter h.0 h.0.of one.0 h.3, scalar_grows h.0.of h.4, value_grows e h.0.of h.5, arguments_grow more h.1 one.1 h.6)
      arguments_grow (Whole x more) as' all h =
          let one = first_there as' h.0 h.1 h.2 all in
          let whole = either_grows
          (λ a. (a.0, place_grows x a.0 a.1, given_grows h.0 x a.0 one.0 a.2))
          (λ f. (f.0, f.1, value_parameter h.0 h.0.of one.0 f.2, row_grows (id_of h.0.of).0 (row.Array f.0 (id_of TChar)) f.3, f.4, constant_grows x f.1 f.5)) h.3 in
          (h.0, h.1, h.2, whole, arguments_grow more h.1 one.1 h.4)
      arguments_grow (Opening r more) as' all h =
          let one = first_there as' h.0 h.1 h.4 all in
          (h.0, h.1, h.2, h.3, h.4, opening_grows h.0 h.2 h.3 one.0 h.5, rows_grow r h.2 h.3 h.6, h.7, arguments_grow more h.1 one.1 h.8, λ by_reference. variables_grow r (h.9 by_reference))

      called_grows : (c : Callee) (x : Procedure) → IsCalled p own c x → IsCalled q own c x × HaveTypes p x.parameters
      called_grows (Plain m k) x h = (procedure_grows m k x h, grows.parameters m k x h)
      called_grows (Dispatched e t k) x h =
          let one = grows.methods t k x h.2 in
          ((value_grows e (Named t) h.0, fact_stays p.types q.types grows.rows is_object refl (id_of (Named t)).0 h.1, one.0), one.1)
      called_grows (Upper t k) x h =
          let one = grows.methods t k x h.3 in ((h.0, h.1, comes_grow (id_of (Named h.0)) (id_of (Named t)) h.2, one.0), one.1)
      called_grows (Through e t) x h = ((value_grows e (Named t) h.0, pattern_grows (Named t) x h.1), pattern_there (Named t) x h.1)

      value_grows : (e : Expr) (t : TType) → IsOf p own e t → IsOf q own e t
      value_grows (Lit l) t (inl h) = inl h
      value_grows (Lit l) t (inr (inl h)) = inr (inl (h.0, reference_grows t h.1))
      value_grows (Lit l) t (inr (inr h)) = inr (inr (h.0, procedural_stays p.types q.types grows.rows falls targets t h.1))
      value_grows (Read u x) t h = (place_grows x u h.0, scalar_grows u h.1, fits_grow t u h.2)
      value_grows (Unary op a) t h = (value_grows a _ h.0, h.1)
      value_grows (Binary op a b) t h = (takes_more op (IsOf p own a) (IsOf p own b) (IsOf q own a) (IsOf q own b) (value_grows a) (value_grows b) h.0, h.1)
      value_grows (And a b) t h = (value_grows a _ h.0, value_grows b _ h.1, h.2)
      value_grows (Or a b) t h = (value_grows a _ h.0, value_grows b _ h.1, h.2)
      value_grows (Element a) t h = (value_grows a _ h.0, h.1)
      value_grows (Ord a) t h = (value_grows a _ h.0, h.1)
      value_grows (Chr a) t h = (value_grows a _ h.0, h.1)
      value_grows (CompareTexts r x y) t h = (rows_grow x 1 TChar h.0, rows_grow y 1 TChar h.1, h.2)
      value_grows (Len r d) t h = (h.0, h.1, rows_grow r h.0 h.1 h.2, h.3, h.4, h.5)
      value_grows (LenBehind r n) t h = (h.0, h.1, rows_grow r h.0 h.1 h.2, h.3, h.4)
      value_grows SelfRef t h = (h.0, h.1, fact_stays p.types q.types grows.rows is_object refl (id_of (Named h.0)).0 h.2, fits_grow t (Named h.0) h.3)
      value_grows (Function c more) t h =
          let one = called_grows c h.0 h.2 in
          (h.0, h.1, one.0, h.3, scalar_grows h.1 h.4, fits_grow t h.1 h.5, arguments_grow more h.0.parameters one.1 h.6)
      value_grows (Same a b) t h = (
        (h.0.0, value_grows a h.0.0 h.0.1, reference_grows h.0.0 h.0.2),
        (h.1.0, value_grows b h.1.0 h.1.1, reference_grows h.1.0 h.1.2),
        h.2,
      )
      value_grows (Is a k) t h = ((h.0.0, value_grows a h.0.0 h.0.1, reference_grows h.0.0 h.0.2), fewer k h.1, h.2)
      value_grows (IsRecord x k) t h = (h.0, place_grows x h.0 h.1, names_grow x h.0 h.2, record_grows (Named k) h.3, h.4)
      value_grows (Guard a k) t h = ((h.0.0, value_grows a h.0.0 h.0.1, reference_grows h.0.0 h.0.2), fewer k h.1, guard_grows k t h.2)
      value_grows (ProcedureOf m k) t h = (h.0, procedure_grows m k h.0 h.1, procedural_grows t h.0 h.2)
      value_grows (MethodOf e j k) t h = (
        value_grows e (Named j) h.0,
        fact_stays p.types q.types grows.rows is_object refl (id_of (Named j)).0 h.1,
        (h.2.0, (grows.methods j k h.2.0 h.2.1).0, procedural_grows t h.2.0 h.2.2),
      )
      value_grows (SameProcedure a b) t h = (
        either_grows (λ x. (x.0, value_grows a x.0 x.1, procedural_stays p.types q.types grows.rows falls targets x.0 x.2)) (named_grows a) h.0,
        either_grows (λ x. (x.0, value_grows b x.0 x.1, procedural_stays p.types q.types grows.rows falls targets x.0 x.2)) (named_grows b) h.1,
        h.2,
      )
      value_grows (Had v) t h = absurd h

      named_grows : (e : Expr) → IsNamed p own e → IsNamed q own e
      named_grows (Lit l) h = h
      named_grows (ProcedureOf m k) h = (h.0, procedure_grows m k h.0 h.1)
      named_grows (MethodOf e j k) h =
          (value_grows e (Named j) h.0, fact_stays p.types q.types grows.rows is_object refl (id_of (Named j)).0 h.1, (h.2.0, (grows.methods j k h.2.0 h.2.1).0))
      named_grows e h = absurd h

    call_grows : (c : Call) → IsCall p own c → IsCall q own c
    call_grows Open h = tt
    call_grows (Char e) h = value_grows e _ h
    call_grows (Int a b) h = (value_grows a _ h.0, value_grows b _ h.1)
    call_grows (String r) h = rows_grow r 1 TChar h
    call_grows Ln h = tt

    selector_grows : (e : Expr) → IsOf p own e (Integer W64) ⊎ IsOf p own e TChar → IsOf q own e (Integer W64) ⊎ IsOf q own e TChar
    selector_grows e (inl h) = inl (value_grows e (Integer W64) h)
    selector_grows e (inr h) = inr (value_grows e TChar h)

    return_grows : (e : Option Expr) (r : Option TType) → IsReturn p own e r → IsReturn q own e r
    return_grows None None h = h
    return_grows None (Some t) h = h
    return_grows (Some e) None h = h
    return_grows (Some e) (Some t) h = value_grows e t h

    objects_grow : (e : Expr) → AreObjects p own e → AreObjects q own e
    objects_grow e h = (h.0, value_grows e h.0 h.1, reference_grows h.0 h.2)

    lengths_grow : (ns : List Expr) → AreLengthsOf p own ns → AreLengthsOf q own ns
    lengths_grow [] h = tt
    lengths_grow (n ∷ ns) h = (value_grows n (Integer W64) h.0, lengths_grow ns h.1)

    -- what an initializer is handed
    handed_grows : (slot : Option ℕ) (t : ℕ) (more : Arguments) → IsInitialized p own slot t more → IsInitialized q own slot t more
    handed_grows None t more h = h
    handed_grows (Some k) t more h =
        let one = grows.methods t k h.0 h.1 in (h.0, one.0, h.2, arguments_grow more h.0.parameters one.1 h.3)

    mutual
      statement_grows : (s : Stat) → IsStatement p own s → IsStatement q own s
      statement_grows (Assign at t x e) h = (place_grows x t h.0, scalar_grows t h.1, value_grows e t h.2)
      statement_grows (Copy at t x y) h = (place_grows x t h.0, (h.1.0, place_grows y h.1.0 h.1.1, comes_grow (id_of h.1.0) (id_of t) h.1.2), whole_grows t h.2)
      statement_grows (PutText at strict x y) h = (rows_grow x 1 TChar h.0, rows_grow y 1 TChar h.1, h.2, variables_grow y h.3)
      statement_grows (If at arms) h = arms_grow arms h
      statement_grows (Case at e cases) h = (selector_grows e h.0, h.1, cases_grow cases h.2)
      statement_grows (While at e body) h = (value_grows e _ h.0, statements_grow body h.1)
      statement_grows (Repeat at body e) h = (statements_grow body h.0, value_grows e _ h.1)
      statement_grows (Loop at body) h = statements_grow body h
      statement_grows (Exit at) h = tt
      statement_grows (For at w x from to step body) h = (h.0, place_grows x (Integer w) h.1, value_grows from _ h.2, value_grows to _ h.3, h.4, statements_grow body h.5)
      statement_grows (Block at exclusive body) h = statements_grow body h
      statement_grows (Await at n e) h = (value_grows e _ h.0, h.1)
      statement_grows (Assert at e code) h = (value_grows e _ h.0, h.1)
      statement_grows (Halt at code) h = h
      statement_grows (Change at c x e) h = (place_grows x (changed_type c) h.0, value_grows e (amount_type c) h.1)
      statement_grows (Perform at c more) h =
          let one = called_grows c h.0 h.1 in (h.0, one.0, h.2, arguments_grow more h.0.parameters one.1 h.3)
      statement_grows (Return at e) h = return_grows e (result_of own) h
      statement_grows (New at x t more) h = (
        place_grows x (Named t) h.0,
        fact_stays p.types q.types grows.rows is_object refl (id_of (Named t)).0 h.1,
        subst (λ slot. IsInitialized q own slot t more) (sym (grows.initializers t (object_there t h.1))) (handed_grows (initializer p t) t more h.2),
      )
      statement_grows (Make at x t ns) h =
          let there = target_there p.types q.types grows.rows falls targets h.0.0 (id_of (Named t)) h.0.2 in (
            (h.0.0, place_grows x h.0.0 h.0.1, target_grows h.0.0 (id_of (Named t)) h.0.2),
            fewer t h.1,
            plain_grows t h.1 h.2,
            lengths_grow ns h.3,
            h.4 ∙ sym (dimensions_grow (id_of (Named t)) there),
          )
      statement_grows (With at e body) h = (objects_grow e h.0, statements_grow body h.1)
      statement_grows (WithRecord at x body) h = ((h.0.0, place_grows x h.0.0 h.0.1, names_grow x h.0.0 h.0.2), statements_grow body h.1)
      statement_grows (Out at c) h = call_grows c h

      pub statements_grow : (ss : Stats) → AreStatements p own ss → AreStatements q own ss
      statements_grow Nothing h = tt
      statements_grow (Then s ss) h = (statement_grows s h.0, statements_grow ss h.1)

      arms_grow : (arms : Arms) → AreArms p own arms → AreArms q own arms
      arms_grow (Otherwise ss) h = statements_grow ss h
      arms_grow (Arm e ss arms) h = (value_grows e _ h.0, statements_grow ss h.1, arms_grow arms h.2)

      cases_grow : (cases : Cases) → AreCases p own cases → AreCases q own cases
      cases_grow NoElse h = tt
      cases_grow (Else ss) h = statements_grow ss h
      cases_grow (OfLabels rs ss cases) h = (h.0, statements_grow ss h.1, cases_grow cases h.2)

  -- of a body
  pub body_grows : (ss : Stats) → AreStatements p None ss → AreStatements q None ss
  body_grows ss h = statements_grow None (λ x is. absurd (no_type is)) ss h

-- more modules, more rows and more objects behind those of a program
pub grown : (ms ns : List Module) (ts us : List TypeRow) (os qs : List ObjectType) → RowsStay ts us → AreReady ts → AreReady us → length ts ≡ 10 + length os → length us ≡ 10 + length (os ++ qs) →
    ((m k : ℕ) (x : Procedure) → procedure_in (record { modules = ms; types = ts; objects = os }) m k ≡ Some x → HaveTypes (record { modules = ms; types = ts; objects = os }) x.parameters) →
    ((t : ℕ) (o : ObjectType) → slice_get os t ≡ Some o → Each (λ m. HaveTypes (record { modules = ms; types = ts; objects = os }) m.procedure.parameters) o.methods) →
    ((t : ℕ) (o : ObjectType) → slice_get os t ≡ Some o → HaveTypes (record { modules = ms; types = ts; objects = os }) o.body.parameters) →
    Grows (record { modules = ms; types = ts; objects = os }) (record { modules = ms ++ ns; types = us; objects = os ++ qs })
grown ms ns ts us os qs stay old new long long_on parameters own patterns =
    let p : Program = record { modules = ms; types = ts; objects = os } in
    let q : Program = record { modules = ms ++ ns; types = us; objects = os ++ qs } in
    record {
      modules = get_front ms ns;
      rows = stay;
      count = long;
      objects = omega (arith, length-append os qs);
      stand = get_front os qs;
      methods = λ t k x is. (
        method_stays p q old new long long_on stay (get_front os qs) t k x is,
        each_method (λ x. HaveTypes p x.parameters) p own t k x is,
      );
      initializers = initializer_stays p q old new long long_on stay (get_front os qs);
      parameters = parameters;
      patterns = patterns;
      old = old;
      new = new;
    }
