-- What an expression asks with: told only values of which something holds, it asks only with such values, and what it comes to is one; and what
-- it may call.
use Rattle.std.proofs.Common.{◌≡◌, ◌⊎◌, inl, inr, ℕ, ℤ, zero, suc, List, [], ◌∷◌, ◌++◌, map, Bool, true, false, Option, Some, None, refl, sym, ap, subst}
use Rattle.std.specs.Prelude.{pos, slice_get, if◌then◌else◌, unsigned_abs}
use Rattle.std.specs.Option.{unwrap_or}
use Rattle.aos_base.specs.declared.operator.Binary.TheVariants.{SetSpan}
use Rattle.aos_base.specs.declared.operator.Given.{Given}
use Rattle.aos_base.specs.declared.operator.Given.TheVariants.{Number, Trap, Undefined}
use Rattle.aos_base.specs.Operators.{natural, unary as unary_of, binary as binary_of}
use Rattle.aos_base.specs.Question.{Val, Asks, Traps, bind, ask, feed, Manner, ByName, ByType, Upward, Initially, ByCreator, ByValue, Reads, Stores, Copies, PutsText, ComparesTexts, Calls, Ends, Makes, Starts, Enters, Leaves, Awaits, PutsInt, PutsChar, PutsString, PutsNothing, PutsLn, Places, Lengths, Opens, Sizes, Tests}
use Rattle.aos_types.specs.Extension.{comes_to}
use Rattle.aos_typed.specs.declared.tree.Literal.{Literal}
use Rattle.aos_typed.specs.declared.tree.Literal.TheVariants as literal
use Rattle.aos_typed.specs.declared.tree.TType.{TType}
use Rattle.aos_base.specs.declared.number.Width.TheVariants.{W64}
use Rattle.aos_base.specs.declared.operator.Unary.TheVariants.{Range}
use Rattle.aos_types.specs.Table.{row_of, is_record}
use Rattle.aos_typed.specs.declared.tree.TType.TheVariants.{Named}
use Rattle.aos_typed.specs.declared.tree.TType.TheVariants as type
use Rattle.aos_typed.specs.Methods.{method_in, method_number}
use Rattle.aos_typed.specs.Numbers.{id_of, id_of_made, procedure_number}
use Rattle.aos_typed.specs.Program.{Place, ModuleVar, Local, Passed, Field, Index, Of, Deref, Typed, Guarded, Rows, Known, Opened, Row, Spread, Longer, Arguments, NoMore, Scalar, Whole, Opening, Callee, Plain, Dispatched, Upper, Through, Expr, Lit, SelfRef, Read, Unary, Binary, And, Or, Element, Ord, Chr, CompareTexts, Len, LenBehind, Function, Same, Is, IsRecord, Guard, ProcedureOf, MethodOf, SameProcedure, Had, Parameter, Procedure, Program}
use Rattle.aos_typed.specs.Location.{Location}
use Rattle.aos_typed.specs.Value.{Value, Int, Flag, Char, Set, Object, Callable, Place as PlaceValue, Sort, Integer, Boolean, Character, Elements, literal_value, value_as, given, unary_sort, binary_sort, is_true, number_of}
use Rattle.aos_typed.specs.WellTyped.{IsPlaceOf, IsObjectAt, IsArrayOf, IsConstantText, AreRows, AreArguments, IsCalled, IsOf, IsNamed as IsProcedureNamed, is_procedural, procedure_in, taken}
use Rattle.aos_sim.proofs.Operators.{operands_suit}
use Rattle.aos_sim.proofs.References.{comes_same}
use Rattle.aos_typed.specs.Meaning.{Here, Question, Doing, Found, place_in, object_in, instance_in, procedure_in as procedure_number_in, on_instance, element_of, row_at, dereferenced, spread, sizes_from, lengths_from, opened, has_type, record_guarded, sent, dispatched, bound, bound_to, applied, calls, place_of, rows_of, arguments_of, receiver_of, value_of, called, by_number}
use Rattle.aos_uses.specs.declared.uses.Use.{Use}
use Rattle.aos_uses.specs.declared.uses.Use.TheVariants as used
use Rattle.aos_uses.specs.Guarded.{Each, IsNamed, IsQuiet, Keeps}
use Rattle.aos_uses.specs.Uses.{is_self, is_own, place_uses, rows_uses, arguments_uses, receiver_uses, expr_uses, call_uses, called as called_uses, callee_number, follows, is_variable, rows_target, target, varies}
use Rattle.aos_escape.specs.Naming.{AllAre}
use Rattle.aos_escape.proofs.Items.{part}
use Rattle.aos_escape.proofs.Names.{HasNames}

-- what holds of values that are no objects of their own, and of procedures of modules
pub record Plainly (p : Program) (C : Value → Type 0) : Type 0 where
  pub int : (z : ℤ) → C (Int z)
  pub flag : (b : Bool) → C (Flag b)
  pub char : (c : ℕ) → C (Char c)
  pub set : (s : ℕ) → C (Set s)
  pub place : (s : Location) → C (PlaceValue s)
  pub nil : C (Object 0)
  pub none : C (Callable 0 0)
  pub procedure : (m k : ℕ) (q : Procedure) → procedure_in p m k ≡ Some q → C (Callable (procedure_number p m k) 0)
  -- of a method that is bound to an object of which it holds, where no designator may name it that is quiet
  pub bound : (d t k o : ℕ) (q : Procedure) → comes_to p.types (id_of_made (suc d)) (id_of_made (suc t)) ≡ true → method_in p t k ≡ Some q → ((m : ℕ) → IsNamed p m t k → IsQuiet p m → ⊥) → C (Object o) → C (Callable (method_number p d k) o)
  pub instance : (q o : ℕ) → C (Callable q o) → C (Object o)

-- A: what holds of the questions that are asked, where what holds of the answers is C, and of what it comes to R
abbrev pub Tells : (C : Value → Type 0) (A : Question → Type 0) → {T : Type 0} → (T → Type 0) → Doing T → Type 0
Tells C A R (Val a) = R a
Tells C A R (Traps n c) = Unit {0}
Tells C A R (Asks q k) = A q × ((v : Value) → C v → Tells C A R (k v))

pub tells_fed : (C : Value → Type 0) (A : Question → Type 0) {T : Type 0} (R : T → Type 0) (vs : List Value) (d : Doing T) → Tells C A R d → AllAre C vs → Tells C A (λ a. Unit {0}) (feed vs d)
tells_fed C A R [] (Val a) h cs = tt
tells_fed C A R [] (Traps n c) h cs = tt
tells_fed C A R [] (Asks q k) h cs = (h.0, λ v c. tells_fed C A R [] (k v) (h.1 v c) tt)
tells_fed C A R (v ∷ vs) (Val a) h cs = tt
tells_fed C A R (v ∷ vs) (Traps n c) h cs = tt
tells_fed C A R (v ∷ vs) (Asks q k) h cs = tells_fed C A R vs (k v) (h.1 v cs.0) cs.1

pub self_or : (e : Expr) → (e ≡ SelfRef) ⊎ (is_self e ≡ false)
self_or SelfRef = inl refl
self_or (Lit l) = inr refl
self_or (Read t q) = inr refl
self_or (Unary op a) = inr refl
self_or (Binary op a b) = inr refl
self_or (And a b) = inr refl
self_or (Or a b) = inr refl
self_or (Element a) = inr refl
self_or (Ord a) = inr refl
self_or (Chr a) = inr refl
self_or (CompareTexts r a b) = inr refl
self_or (Len r d) = inr refl
self_or (LenBehind r n) = inr refl
self_or (Function c more) = inr refl
self_or (Same a b) = inr refl
self_or (Is a t) = inr refl
self_or (IsRecord q t) = inr refl
self_or (Guard a t) = inr refl
self_or (ProcedureOf m k) = inr refl
self_or (MethodOf a t k) = inr refl
self_or (SameProcedure a b) = inr refl
self_or (Had v) = inr refl

-- in the text of the routine with this number
module _ (p : Program) (n : ℕ) (here : Here) (C : Value → Type 0) where
  -- What it may call, and with what: on SELF the other arguments are such values. A quiet initializer calls only such ones by ^, and nobody
  -- else calls one but by NEW.
  abbrev pub MayCall : Manner → ℕ → List Value → Type 0
  MayCall ByName q vs = ((IsQuiet p q → ⊥) × (IsQuiet p n → ⊥)) × AllAre C vs
  MayCall ByType q vs = ((IsQuiet p q → ⊥) × (IsQuiet p n → ⊥)) × AllAre C vs
  MayCall ByValue q vs = (((o : ℕ) × C (Callable q o)) × (IsQuiet p n → ⊥)) × AllAre C vs
  MayCall Upward q vs = ((IsQuiet p q → IsQuiet p n) × (IsQuiet p n → IsQuiet p q)) × ((us : List Value) × (vs ≡ Object here.self ∷ us) × AllAre C us)
  MayCall Initially q vs = ⊥
  MayCall ByCreator q vs = ⊥

  -- what an expression asks
  abbrev pub IsAsked : Question → Type 0
  IsAsked (Reads t s) = Unit {0}
  IsAsked (Stores s v) = ⊥
  IsAsked (Copies t from to) = ⊥
  IsAsked (PutsText strict from k to room) = ⊥
  IsAsked (ComparesTexts r a k b m) = Unit {0}
  IsAsked (Calls how q vs) = MayCall how q vs
  IsAsked (Ends r) = ⊥
  IsAsked (Makes t vs) = ⊥
  IsAsked (Starts v) = ⊥
  IsAsked Enters = ⊥
  IsAsked Leaves = ⊥
  IsAsked (Awaits c) = ⊥
  IsAsked (PutsInt v k) = ⊥
  IsAsked (PutsChar v) = ⊥
  IsAsked (PutsString a k) = ⊥
  IsAsked PutsNothing = ⊥
  IsAsked PutsLn = ⊥
  IsAsked (Places s) = Unit {0}
  IsAsked (Lengths s) = Unit {0}
  IsAsked (Opens v) = Unit {0}
  IsAsked (Sizes v d) = Unit {0}
  IsAsked (Tests v t) = Unit {0}

module _ (p : Program) (names : HasNames p) (n : ℕ) (here : Here) (C : Value → Type 0) (plainly : Plainly p C) (self : C (Object here.self) ⊎ IsQuiet p n) where
  abbrev Says : {T : Type 0} → (T → Type 0) → Doing T → Type 0
  Says R d = Tells C (IsAsked p n here C) R d

  -- what each use of the text keeps
  abbrev pub Kept : Use → Type 0
  Kept u = Keeps p (IsQuiet p) n u

  abbrev pub AreKept : List Use → Type 0
  AreKept us = Each Kept us

  pub tells_bind : {A B : Type 0} (R : A → Type 0) (S : B → Type 0) (d : Doing A) (k : A → Doing B) → Says R d → ((a : A) → R a → Says S (k a)) → Says S (bind d k)
  tells_bind R S (Val a) k h f = f a h
  tells_bind R S (Traps n c) k h f = tt
  tells_bind R S (Asks q g) k h f = (h.0, λ v c. tells_bind R S (g v) k (h.1 v c) f)

  abbrev Any : {A : Type 0} → A → Type 0
  Any a = Unit {0}

  -- Values of basic types.

  basic : (s : Sort) (z : ℤ) → C (value_as s z)
  basic Integer z = plainly.int z
  basic Boolean z = plainly.flag _
  basic Character z = plainly.char _
  basic Elements z = plainly.set _

  pub given_tells : (s : Sort) (g : Given) → Says C (given s g)
  given_tells s (Number z) = basic s z
  given_tells s (Trap n) = tt
  given_tells s Undefined = basic s (pos 0)

  literal_is : (l : Literal) → C (literal_value l)
  literal_is (literal.Int n) = plainly.int n
  literal_is (literal.Bool b) = plainly.flag b
  literal_is (literal.Char c) = plainly.char c
  literal_is (literal.Set s) = plainly.set s
  literal_is (literal.Text t) = plainly.char _
  literal_is literal.Nil = plainly.nil
  literal_is literal.NoProcedure = plainly.none

  object_is : (v : Value) → C v → C (Object (object_in v))
  object_is (Object o) h = h
  object_is (Int z) h = plainly.nil
  object_is (Flag b) h = plainly.nil
  object_is (Char c) h = plainly.nil
  object_is (Set s) h = plainly.nil
  object_is (Callable q o) h = plainly.nil
  object_is (PlaceValue s) h = plainly.nil

  -- Pieces of designators.

  element_tells : (n : ℕ) (v : Value) (s : Location) → Says Any (element_of n v s)
  element_tells n v s = by (natural n (number_of v)) refl
    where
      by : (o : Option ℕ) → natural n (number_of v) ≡ o → Says Any (element_of n v s)
      by None e = rw e tt
      by (Some i) e = rw e tt

  -- an array whose lengths are such values
  abbrev pub FoundIs : Found → Type 0
  FoundIs x = AllAre C x.lengths

  row_tells : (s : Location) (ns : List Value) (v : Value) → AllAre C ns → Says FoundIs (row_at (record { place = s; lengths = ns }) v)
  row_tells s [] v h = tt
  row_tells s (n ∷ ns) v h = tells_bind Any FoundIs (element_of (unsigned_abs (number_of n)) v s) _ (element_tells (unsigned_abs (number_of n)) v s) (λ x y. h.1)

  all_more : (vs ws : List Value) → AllAre C vs → AllAre C ws → AllAre C (vs ++ ws)
  all_more [] ws h k = k
  all_more (v ∷ vs) ws h k = (h.0, all_more vs ws h.1 k)

  numbers_are : (ns : List ℕ) → AllAre C (map (λ n. Int (pos n)) ns)
  numbers_are [] = tt
  numbers_are (n ∷ ns) = (plainly.int (pos n), numbers_are ns)

  one_of : (d : ℕ) (vs : List Value) → AllAre C vs → C (unwrap_or (slice_get vs d) (Int (pos 0)))
  one_of d [] h = plainly.int (pos 0)
  one_of zero (v ∷ vs) h = h.0
  one_of (suc d) (v ∷ vs) h = one_of d vs h.1

  nil_or : {A : Type 0} (R : A → Type 0) (o : ℕ) (a b : Doing A) → Says R a → Says R b → Says R (by_number o a b)
  nil_or R zero a b h k = h
  nil_or R (suc o) a b h k = k

  deref_tells : (v : Value) → Says Any (dereferenced v)
  deref_tells v = nil_or Any (object_in v) (Traps 1 0) (bind (ask (Opens v)) (λ x. Val (place_in x))) tt (tt, λ x c. tt)

  sizes_tell : (v : Value) (d n : ℕ) → Says (AllAre C) (sizes_from v d n)
  sizes_tell v d zero = tt
  sizes_tell v d (suc n) = (tt, λ x c. tells_bind (AllAre C) (AllAre C) (sizes_from v (suc d) n) _ (sizes_tell v (suc d) n) (λ xs h. (c, h)))

  spread_tells : (v : Value) (j : ℕ) → Says FoundIs (spread v j)
  spread_tells v j =
      nil_or FoundIs (object_in v) (Traps 1 0) _ tt (tt, λ x c. tells_bind (AllAre C) FoundIs (sizes_from v 0 j) _ (sizes_tell v 0 j) (λ ns h. h))

  lengths_tell : (k d n : ℕ) → Says (AllAre C) (lengths_from p here k d n)
  lengths_tell k d zero = tt
  lengths_tell k d (suc n) = (tt, λ x c. tells_bind (AllAre C) (AllAre C) (lengths_from p here k (suc d) n) _ (lengths_tell k (suc d) n) (λ xs h. (c, h)))

  opened_tells : (k j : ℕ) → Says FoundIs (opened p here k j)
  opened_tells k j = (tt, λ x c. tells_bind (AllAre C) FoundIs (lengths_from p here k 0 j) _ (lengths_tell k 0 j) (λ ns h. h))

  record_tells : (s : Location) (t : ℕ) → Says Any (record_guarded p.types s t)
  record_tells s t = by (has_type p.types s t)
    where
      by : (b : Bool) → Says Any (if b then Val s else Traps 3 0)
      by true = tt
      by false = tt

  -- Pieces of calls.

  -- a designator of this type and slot names no quiet method
  abbrev NoneQuiet : (type slot : ℕ) → Type 0
  NoneQuiet t k = (m : ℕ) → IsNamed p m t k → IsQuiet p m → ⊥

  dispatched_tells : (v : Value) (t k : ℕ) (vs : List Value) (d : ℕ) (q : Procedure) → method_in p t k ≡ Some q → NoneQuiet t k → (IsQuiet p n → ⊥) → C v → AllAre C vs → Says C (dispatched p v t k vs d)
  dispatched_tells v t k vs zero q is may loud c cs = tt
  dispatched_tells v t k vs (suc d) q is may loud c cs = by (comes_to p.types (id_of_made (suc d)) (id_of_made (suc t))) refl
    where
      by : (b : Bool) → comes_to p.types (id_of_made (suc d)) (id_of_made (suc t)) ≡ b → Says C (if b then ask (Calls ByType (method_number p d k) (v ∷ vs)) else Traps 1 0)
      by true e = (((may (method_number p d k) (names.named d t k q e is), loud), (c, cs)), λ x h. h)
      by false e = tt

  sent_tells : (v : Value) (t k : ℕ) (vs : List Value) (q : Procedure) → method_in p t k ≡ Some q → NoneQuiet t k → (IsQuiet p n → ⊥) → C v → AllAre C vs → Says C (sent p v t k vs)
  sent_tells v t k vs q is may loud c cs = nil_or C (object_in v) (Traps 1 0) _ tt (tt, λ x h. dispatched_tells v t k vs (place_in x).type q is may loud c cs)

  bound_tells : (v : Value) (t k : ℕ) (q : Procedure) → method_in p t k ≡ Some q → NoneQuiet t k → C v → Says C (bound p v t k)
  bound_tells v t k q is may c = nil_or C (object_in v) (Traps 1 0) _ tt (tt, λ x h. to (place_in x).type)
    where
      to : (d : ℕ) → Says C (bound_to p v t k d)
      to zero = tt
      to (suc d) = by (comes_to p.types (id_of_made (suc d)) (id_of_made (suc t))) refl
        where
          by : (b : Bool) → comes_to p.types (id_of_made (suc d)) (id_of_made (suc t)) ≡ b → Says C (if b then Val (Callable (method_number p d k) (object_in v)) else Traps 1 0)
          by true e = plainly.bound d t k (object_in v) q e is may (object_is v c)
          by false e = tt

  -- the object of a procedure value is one of which it holds
  instance_is : (v : Value) → C v → C (Object (instance_in v))
  instance_is (Callable q o) h = plainly.instance q o h
  instance_is (Int z) h = plainly.nil
  instance_is (Flag b) h = plainly.nil
  instance_is (Char c) h = plainly.nil
  instance_is (Set s) h = plainly.nil
  instance_is (Object o) h = plainly.nil
  instance_is (PlaceValue s) h = plainly.nil

  value_is : (v : Value) → C v → (o : ℕ) × C (Callable (procedure_number_in v) o)
  value_is (Callable q o) h = (o, h)
  value_is (Int z) h = (0, plainly.none)
  value_is (Flag b) h = (0, plainly.none)
  value_is (Char c) h = (0, plainly.none)
  value_is (Set s) h = (0, plainly.none)
  value_is (Object o) h = (0, plainly.none)
  value_is (PlaceValue s) h = (0, plainly.none)

  on_instance_are : (o : ℕ) (vs : List Value) → C (Object o) → AllAre C vs → AllAre C (on_instance o vs)
  on_instance_are zero vs c cs = cs
  on_instance_are (suc o) vs c cs = (c, cs)

  applied_tells : (v : Value) (vs : List Value) → (IsQuiet p n → ⊥) → C v → AllAre C vs → Says C (applied v vs)
  applied_tells v vs loud c cs =
      nil_or C (procedure_number_in v) (Traps 1 0) _ tt
      (((value_is v c, loud), on_instance_are (instance_in v) vs (instance_is v c) cs), λ x h. h)

  module _ (own : Option Procedure) where
    -- what something is called on: of SELF nothing is asked
    abbrev ReceiverIs : Callee → Value → Type 0
    ReceiverIs (Plain m k) v = Unit {0}
    ReceiverIs (Dispatched e t k) v = C v
    ReceiverIs (Upper t k) v = v ≡ Object here.self
    ReceiverIs (Through e t) v = C v

    calls_tell : (c : Callee) (q : Procedure) → IsCalled p own c q → AreKept (called_uses c) → (o : Value) (vs : List Value) → ReceiverIs c o → AllAre C vs → Says C (calls p c o vs)
    calls_tell (Plain m k) q h u o vs r cs = (((names.plain m k q h, u.0), cs), λ x h. h)
    calls_tell (Dispatched e t k) q h u o vs r cs = sent_tells o t k vs q h.2 u.1.0 u.0 r cs
    calls_tell (Upper t k) q h u o vs r cs =
        let is = names.named t t k q (comes_same p.types (id_of_made (suc t))) h.3 in
        let same = names.raised_is t k q h.3 in
        (((u.0.1 (method_number p t k) is, λ x. subst (IsQuiet p) same (u.0.0 x)), (vs, ap (λ v. v ∷ vs) r, cs)), λ x h. h)
    calls_tell (Through e t) q h u o vs r cs = applied_tells o vs u.0 r cs

    -- Of typed texts, in the body of this procedure, or of none.
    constant_tells : (q : Place) (m : ℕ) → IsConstantText p q m → Says Any (place_of p here q)
    constant_tells (ModuleVar m k) n h = tt
    constant_tells (Local k) n h = absurd h
    constant_tells (Passed k) n h = absurd h
    constant_tells (Field q t k) n h = absurd h
    constant_tells (Index q j t e) n h = absurd h
    constant_tells (Of r) n h = absurd h
    constant_tells (Deref e t) n h = absurd h
    constant_tells (Typed q t) n h = absurd h
    constant_tells (Guarded q t) n h = absurd h

    and_tells : (b : Bool) (e : Expr) → Says C (value_of p here e) → Says C (if b then value_of p here e else Val (Flag false))
    and_tells true e h = h
    and_tells false e h = plainly.flag false

    or_tells : (b : Bool) (e : Expr) → Says C (value_of p here e) → Says C (if b then Val (Flag true) else value_of p here e)
    or_tells true e h = plainly.flag true
    or_tells false e h = h

    guard_tells : (b : Bool) (v : Value) → C v → Says C (if b then Val v else Traps 3 0)
    guard_tells true v c = c
    guard_tells false v c = tt

    -- what has a field: a record, or an object
    field_from : (q : Place) (of : TType) → (IsPlaceOf p own q of × (is_record (row_of p.types (id_of of)) ≡ true)) ⊎ IsObjectAt p own q of → (IsPlaceOf p own q of → AreKept (place_uses p q) → Says Any (place_of p here q)) → (IsObjectAt p own q of → Says Any (place_of p here q))
        → AreKept (if is_own q then [] else place_uses p q) → Says Any (place_of p here q)
    field_from q of (inr h) place object s = object h
    field_from (ModuleVar m k) of (inl h) place object s = place h.0 s
    field_from (Local k) of (inl h) place object s = place h.0 s
    field_from (Passed k) of (inl h) place object s = place h.0 s
    field_from (Field q t k) of (inl h) place object s = place h.0 s
    field_from (Index q n t e) of (inl h) place object s = place h.0 s
    field_from (Of r) of (inl h) place object s = place h.0 s
    field_from (Deref e u) of (inl h) place object s = elim (self_or e) [
      | inl same ↦ subst (λ x. Says Any (place_of p here (Deref x u))) (sym same) (deref_tells (Object here.self))
      | inr none ↦ place h.0 (subst (λ b. AreKept (if b then [] else used.Follows ∷ expr_uses p e)) none s)
    ]
    field_from (Typed q t) of (inl h) place object s = place h.0 s
    field_from (Guarded q t) of (inl h) place object s = place h.0 s

    known_tells : (q : Place) (ns : List ℕ) (t : TType) → ((u : TType) × IsPlaceOf p own q u × IsArrayOf p.types ns (id_of u) (id_of t)) ⊎ ((m : ℕ) × (ns ≡ m ∷ []) × IsConstantText p q m × (t ≡ type.Char)) → ((u : TType) → IsPlaceOf p own q u → Says Any (place_of p here q)) → Says Any (place_of p here q)
    known_tells q ns t (inl h) tells = tells h.0 h.1
    known_tells q ns t (inr h) tells = constant_tells q h.0 h.2

    -- a call, from what it is made of
    call_from : (c : Callee) (more : Arguments) (q : Procedure) → IsCalled p own c q → AreKept (call_uses p c more) → (AreKept (receiver_uses p c) → Says (ReceiverIs c) (receiver_of p here c))
        → (AreKept (arguments_uses p (callee_number p c) 0 more) → Says (AllAre C) (arguments_of p here more)) → Says C (called p here c more)
    call_from c more q h s receiver arguments =
        let us = part Kept (called_uses c ++ arguments_uses p (callee_number p c) 0 more) (receiver_uses p c) s in
        let ws = part Kept (called_uses c) (arguments_uses p (callee_number p c) 0 more) us.0 in
        tells_bind (ReceiverIs c) C (receiver_of p here c) _ (receiver us.1) (λ o r.
        tells_bind (AllAre C) C (arguments_of p here more) _ (arguments ws.1) (λ vs cs. calls_tell c q h ws.0 o vs r cs))

    method_tells : (a : Expr) (j k : ℕ) (q : Procedure) → method_in p j k ≡ Some q → AreKept (expr_uses p (MethodOf a j k)) → (AreKept (expr_uses p a) → Says C (value_of p here a)) → Says C (value_of p here (MethodOf a j k))
    method_tells a j k q is s tells =
        let us = part Kept (used.Binds ∷ used.Finds j k ∷ follows a) (expr_uses p a) s in
        tells_bind C C (value_of p here a) _ (tells us.1) (λ v c. bound_tells v j k q is us.0.1.0 c)

    -- what is compared with a procedure value
    side_tells : (a : Expr) → ((u : TType) × IsOf p own a u × (is_procedural p.types u ≡ true)) ⊎ IsProcedureNamed p own a → ((t : TType) → IsOf p own a t → Says C (value_of p here a)) → (IsProcedureNamed p own a → Says C (value_of p here a)) → Says C (value_of p here a)
    side_tells a (inl h) tells named = tells h.0 h.1
    side_tells a (inr h) tells named = named h

    mutual
      pub place_tells : (q : Place) (t : TType) → IsPlaceOf p own q t → AreKept (place_uses p q) → Says Any (place_of p here q)
      place_tells (ModuleVar m k) t h s = tt
      place_tells (Local k) t h s = tt
      place_tells (Passed k) t h s = (tt, λ v c. tt)
      place_tells (Field q of k) t h s = tells_bind Any Any (place_of p here q) _ (field_from q of h.0 (λ typed us. place_tells q of typed us) (λ o. object_tells q of o s) s) (λ x y. tt)
      place_tells (Index q n of e) t h s =
          let us = part Kept (expr_uses p e) (place_uses p q) s in
          tells_bind Any Any (place_of p here q) _ (place_tells q h.0 h.1 us.1) (λ x y.
          tells_bind C Any (value_of p here e) _ (value_tells e (type.Integer W64) h.3 us.0) (λ v c. element_tells n v x))
      place_tells (Of r) t h s = tells_bind FoundIs Any (rows_of p here r) _ (rows_tell r 0 t h.0 s) (λ x y. tt)
      place_tells (Deref e u) t h s = tells_bind C Any (value_of p here e) _ (value_tells e h.0 h.1 s.1) (λ v c. deref_tells v)
      place_tells (Typed q k) t h s = tells_bind Any Any (place_of p here q) _ (place_tells q (Named k) h.0 s) (λ x y. tt)
      place_tells (Guarded q k) t h s = tells_bind Any Any (place_of p here q) _ (place_tells q h.0 h.1 s) (λ x y. record_tells x k)

      -- an object that has the field
      object_tells : (q : Place) (of : TType) → IsObjectAt p own q of → AreKept (if is_own q then [] else place_uses p q) → Says Any (place_of p here q)
      object_tells (Deref e u) of h s = elim (self_or e) [
        | inl same ↦ subst (λ x. Says Any (place_of p here (Deref x u))) (sym same) (deref_tells (Object here.self))
        | inr none ↦ tells_bind C Any (value_of p here e) _ (value_tells e u h.0 (subst (λ b. AreKept (if b then [] else used.Follows ∷ expr_uses p e)) none s).1) (λ v c. deref_tells v)
      ]
      object_tells (ModuleVar m k) of h s = absurd h
      object_tells (Local k) of h s = absurd h
      object_tells (Passed k) of h s = absurd h
      object_tells (Field q t k) of h s = absurd h
      object_tells (Index q n t e) of h s = absurd h
      object_tells (Of r) of h s = absurd h
      object_tells (Typed q t) of h s = absurd h
      object_tells (Guarded q t) of h s = absurd h

      pub rows_tell : (r : Rows) (n : ℕ) (t : TType) → AreRows p own r n t → AreKept (rows_uses p r) → Says FoundIs (rows_of p here r)
      rows_tell (Known q ns) n t h s = tells_bind Any FoundIs (place_of p here q) _ (known_tells q ns t h.1 (λ u typed. place_tells q u typed s)) (λ x y. numbers_are ns)
      rows_tell (Opened k j) n t h s = opened_tells k j
      rows_tell (Row r of e) n t h s =
          let us = part Kept (expr_uses p e) (rows_uses p r) s in
          tells_bind FoundIs FoundIs (rows_of p here r) _ (rows_tell r (suc n) t h.0 us.1) (λ x y.
          tells_bind C FoundIs (value_of p here e) _ (value_tells e (type.Integer W64) h.1 us.0) (λ v c. row_tells x.place x.lengths v y))
      rows_tell (Spread e j) n t h s = tells_bind C FoundIs (value_of p here e) _ (value_tells e h.1.0 h.1.2 s.1) (λ v c. spread_tells v j)
      rows_tell (Longer r ns) n t h s = tells_bind FoundIs FoundIs (rows_of p here r) _ (rows_tell r h.0 h.1 h.3 s) (λ x y. all_more x.lengths _ y (numbers_are ns))

      pub arguments_tell : (more : Arguments) (ps : List Parameter) (n i : ℕ) → AreArguments p own more ps → AreKept (arguments_uses p n i more) → Says (AllAre C) (arguments_of p here more)
      arguments_tell NoMore ps n i h s = tt
      arguments_tell (Scalar e more) ps n i h s =
          let us = part Kept (expr_uses p e) (arguments_uses p n (suc i) more) s in
          tells_bind C (AllAre C) (value_of p here e) _ (value_tells e h.0.of h.5 us.0) (λ v c.
          tells_bind (AllAre C) (AllAre C) (arguments_of p here more) _ (arguments_tell more h.1 n (suc i) h.6 us.1) (λ vs cs. (c, cs)))
      arguments_tell (Whole q more) ps n i h s =
          let us = part Kept (varies (is_variable p n i) (target p q) ++ place_uses p q) (arguments_uses p n (suc i) more) s in
          let ws = part Kept (varies (is_variable p n i) (target p q)) (place_uses p q) us.0 in
          tells_bind Any (AllAre C) (place_of p here q) _ (elim h.3 [ inl a ↦ place_tells q a.0 a.1 ws.1 | inr f ↦ constant_tells q f.1 f.5 ]) (λ x y.
          tells_bind (AllAre C) (AllAre C) (arguments_of p here more) _ (arguments_tell more h.1 n (suc i) h.4 us.1) (λ vs cs. (plainly.place x, cs)))
      arguments_tell (Opening r more) ps n i h s =
          let us = part Kept (varies (is_variable p n i) (rows_target p r) ++ rows_uses p r) (arguments_uses p n (suc i) more) s in
          let ws = part Kept (varies (is_variable p n i) (rows_target p r)) (rows_uses p r) us.0 in
          tells_bind FoundIs (AllAre C) (rows_of p here r) _ (rows_tell r h.2 h.3 h.6 ws.1) (λ x y.
          tells_bind (AllAre C) (AllAre C) (arguments_of p here more) _ (arguments_tell more h.1 n (suc i) h.8 us.1) (λ vs cs. (plainly.place x.place, all_more x.lengths vs y cs)))

      receiver_tells : (c : Callee) (q : Procedure) → IsCalled p own c q → AreKept (receiver_uses p c) → Says (ReceiverIs c) (receiver_of p here c)
      receiver_tells (Plain m k) q h s = tt
      receiver_tells (Dispatched e t k) q h s = value_tells e (Named t) h.0 s
      receiver_tells (Upper t k) q h s = refl
      receiver_tells (Through e t) q h s = value_tells e (Named t) h.0 s

      pub value_tells : (e : Expr) (t : TType) → IsOf p own e t → AreKept (expr_uses p e) → Says C (value_of p here e)
      value_tells (Lit l) t h s = literal_is l
      value_tells SelfRef t h s = elim self [ inl c ↦ c | inr q ↦ absurd (s.0 q) ]
      value_tells (Read u q) t h s = tells_bind Any C (place_of p here q) _ (place_tells q u h.0 s.1) (λ x y. (tt, λ v c. c))
      value_tells (Unary op a) t h s = tells_bind C C (value_of p here a) _ (value_tells a (taken op) h.0 s) (λ x c. given_tells (unary_sort op) (unary_of op (number_of x)))
      value_tells (Binary op a b) t h s =
          let us = part Kept (expr_uses p b) (expr_uses p a) s in
          let o = operands_suit op (IsOf p own a) (IsOf p own b) h.0 in
          tells_bind C C (value_of p here a) _ (value_tells a o.0 o.2 us.1) (λ x c.
          tells_bind C C (value_of p here b) _ (value_tells b o.1 o.3 us.0) (λ y d. given_tells (binary_sort op) (binary_of op (number_of x) (number_of y))))
      value_tells (And a b) t h s =
          let us = part Kept (expr_uses p b) (expr_uses p a) s in
          let second = value_tells b type.Boolean h.1 us.0 in
          tells_bind C C (value_of p here a) _ (value_tells a type.Boolean h.0 us.1) (λ x c. and_tells (is_true x) b second)
      value_tells (Or a b) t h s =
          let us = part Kept (expr_uses p b) (expr_uses p a) s in
          let second = value_tells b type.Boolean h.1 us.0 in
          tells_bind C C (value_of p here a) _ (value_tells a type.Boolean h.0 us.1) (λ x c. or_tells (is_true x) b second)
      value_tells (Element a) t h s = tells_bind C C (value_of p here a) _ (value_tells a (type.Integer W64) h.0 s) (λ x c. given_tells (binary_sort SetSpan) (binary_of SetSpan (number_of x) (number_of x)))
      value_tells (Ord a) t h s = tells_bind C C (value_of p here a) _ (value_tells a type.Char h.0 s) (λ x c. plainly.int (number_of x))
      value_tells (Chr a) t h s = tells_bind C C (value_of p here a) _ (value_tells a (type.Integer W64) h.0 s) (λ x c. given_tells Character (unary_of (Range (pos 0) (pos 255)) (number_of x)))
      value_tells (CompareTexts r a b) t h s =
          let us = part Kept (used.Reads (rows_target p b) ∷ rows_uses p b) (used.Reads (rows_target p a) ∷ rows_uses p a) s in
          tells_bind FoundIs C (rows_of p here a) _ (rows_tell a 1 type.Char h.0 us.1.1) (λ x y.
          tells_bind FoundIs C (rows_of p here b) _ (rows_tell b 1 type.Char h.1 us.0.1) (λ z w. (tt, λ v c. c)))
      value_tells (Len r d) t h s = tells_bind FoundIs C (rows_of p here r) _ (rows_tell r h.0 h.1 h.2 s) (λ x y. one_of d x.lengths y)
      value_tells (LenBehind r n) t h s = tells_bind FoundIs C (rows_of p here r) _ (rows_tell r h.0 h.1 h.2 s) (λ x y. plainly.int (pos n))
      value_tells (Function c more) t h s =
          let q = h.0 in call_from c more q h.2 s (λ us. receiver_tells c q h.2 us) (λ us. arguments_tell more q.parameters (callee_number p c) 0 h.6 us)
      value_tells (Same a b) t h s =
          let us = part Kept (expr_uses p b) (expr_uses p a) s in
          tells_bind C C (value_of p here a) _ (value_tells a h.0.0 h.0.1 us.1) (λ x c.
          tells_bind C C (value_of p here b) _ (value_tells b h.1.0 h.1.1 us.0) (λ y d. plainly.flag _))
      value_tells (Is a k) t h s = tells_bind C C (value_of p here a) _ (value_tells a h.0.0 h.0.1 s) (λ v c. nil_or C (object_in v) (Val (Flag false)) _ (plainly.flag false) (tt, λ x d. d))
      value_tells (IsRecord q k) t h s = tells_bind Any C (place_of p here q) _ (place_tells q h.0 h.1 s.1) (λ x y. plainly.flag _)
      value_tells (Guard a k) t h s = tells_bind C C (value_of p here a) _ (value_tells a h.0.0 h.0.1 s) (λ v c. nil_or C (object_in v) (Traps 3 0) _ tt (tt, λ b d. guard_tells (is_true b) v c))
      value_tells (ProcedureOf m k) t h s = plainly.procedure m k h.0 h.1
      value_tells (MethodOf a j k) t h s = method_tells a j k h.2.0 h.2.1 s (λ us. value_tells a (Named j) h.0 us)
      value_tells (SameProcedure a b) t h s =
          let us = part Kept (expr_uses p b) (expr_uses p a) s in
          tells_bind C C (value_of p here a) _ (side_tells a h.0 (λ u typed. value_tells a u typed us.1) (λ named. named_tells a named us.1)) (λ x c.
          tells_bind C C (value_of p here b) _ (side_tells b h.1 (λ u typed. value_tells b u typed us.0) (λ named. named_tells b named us.0)) (λ y d. plainly.flag _))
      value_tells (Had v) t h s = absurd h

      -- a procedure or a method that is named
      named_tells : (a : Expr) → IsProcedureNamed p own a → AreKept (expr_uses p a) → Says C (value_of p here a)
      named_tells (Lit l) h s = literal_is l
      named_tells (ProcedureOf m k) h s = plainly.procedure m k h.0 h.1
      named_tells (MethodOf e j k) h s = method_tells e j k h.2.0 h.2.1 s (λ us. value_tells e (Named j) h.0 us)
      named_tells SelfRef h s = absurd h
      named_tells (Read u q) h s = absurd h
      named_tells (Unary op e) h s = absurd h
      named_tells (Binary op e f) h s = absurd h
      named_tells (And e f) h s = absurd h
      named_tells (Or e f) h s = absurd h
      named_tells (Element e) h s = absurd h
      named_tells (Ord e) h s = absurd h
      named_tells (Chr e) h s = absurd h
      named_tells (CompareTexts r e f) h s = absurd h
      named_tells (Len r d) h s = absurd h
      named_tells (LenBehind r d) h s = absurd h
      named_tells (Function c more) h s = absurd h
      named_tells (Same e f) h s = absurd h
      named_tells (Is e k) h s = absurd h
      named_tells (IsRecord q k) h s = absurd h
      named_tells (Guard e k) h s = absurd h
      named_tells (SameProcedure e f) h s = absurd h
      named_tells (Had v) h s = absurd h

    pub call_tells : (c : Callee) (more : Arguments) (q : Procedure) → IsCalled p own c q → AreArguments p own more q.parameters → AreKept (call_uses p c more) → Says C (called p here c more)
    call_tells c more q h k s = call_from c more q h s (λ us. receiver_tells c q h us) (λ us. arguments_tell more q.parameters (callee_number p c) 0 k us)
