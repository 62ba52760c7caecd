-- No meaning of a program has trap 16, so no execution of an image that shows the program has one.
use Rattle.std.proofs.Common.{◌≡◌, ℕ, zero, suc, ◌<◌, List, [], ◌∷◌, ◌++◌, Bool, true, false, refl, sym, subst, arith}
use Rattle.std.specs.Prelude.{map, All, ℤ, pos, ◌+ℤ◌, ◌-ℤ◌, ◌*ℤ◌, neg_ℤ, unsigned_abs, int_lt, ◌&&◌, int_le, if◌then◌else◌, Option, Some, None, slice_get}
use Rattle.std.specs.Option.{option_zip}
use Rattle.std.specs.List.{list_any}
use Rattle.std.specs.Int.{int_div_euclid, int_rem_euclid}
use Rattle.aos_base.specs.Number.{is_within, if_within, shifted, array_lengths}
use Rattle.aos_base.specs.declared.operator.Unary.{Unary as UnaryOperator}
use Rattle.aos_base.specs.declared.operator.Unary.TheVariants.{Neg, Abs, Not, Odd, Cap, Compl, Range}
use Rattle.aos_base.specs.declared.operator.Binary.{Binary as BinaryOperator}
use Rattle.aos_base.specs.declared.operator.Binary.TheVariants.{Add, Sub, Mul, Div, Mod, Ash, Cmp, Union, Minus, Meet, Xor, SetSpan, In}
use Rattle.aos_base.specs.declared.operator.Given.{Given}
use Rattle.aos_base.specs.declared.operator.Given.TheVariants.{Number, Trap, Undefined}
use Rattle.aos_base.specs.Operators.{or_trap, or_undefined, set_of, on_sets, natural, unary as unary_of, binary as binary_of}
use Rattle.aos_base.specs.Machine.{Choice, execution}
use Rattle.aos_base.specs.Observation.{Observation, observation}
use Rattle.aos_base.specs.Rooted.{Made, by_number, Rooted}
use Rattle.aos_base.specs.Question.{Val, Asks, Traps, bind, ask, feed, Reads, Stores, Copies, PutsText, ComparesTexts, Calls, Ends, Makes, Starts, Enters as EntersRegion, Leaves as LeavesRegion, Awaits, PutsInt, PutsChar, PutsString, PutsLn, PutsNothing, Places, Lengths, Opens, Sizes, Tests}
use Rattle.aos_types.specs.declared.row.TypeRow.{TypeRow}
use Rattle.aos_types.specs.Content.{Content, first_content}
use Rattle.aos_types.specs.World.{read}
use Rattle.aos_code.specs.declared.image.Image.{Image}
use Rattle.aos_typed.specs.Program.{Place, ModuleVar, Local, Passed, Field, Index, Of, Deref, Typed, Guarded, Rows, Known as KnownRows, Opened, Row, Spread, Longer, Arguments, NoMore, Scalar, Whole, Opening, Callee, Plain, Dispatched, Upper, Expr, Lit, SelfRef, Read, Unary, Binary, And, Or, Element, Ord, Chr, CompareTexts, Len, LenBehind, Function, Same, Is, IsRecord, Guard, Had, Call, Open as OutOpen, Char as OutChar, Int as OutInt, String as OutString, Ln as OutLn, Stat, Assign, Copy, PutText, If, Case, While, Repeat, Loop, Exit, For, Block, Await, Assert, Halt, Change, Perform, Return, New, Make, With, WithRecord, Out, Arms, Otherwise, Arm, Cases, NoElse, Else, OfLabels, Program, Through, ProcedureOf, MethodOf, SameProcedure}
use Rattle.aos_typed.specs.declared.tree.Change.{Change as Changing}
use Rattle.aos_typed.specs.declared.tree.Change.TheVariants as change
use Rattle.aos_typed.specs.declared.tree.TType.TheVariants as type
use Rattle.aos_types.specs.Extension.{comes_to}
use Rattle.aos_typed.specs.Numbers.{id_of, id_of_made}
use Rattle.aos_typed.specs.Sort.{variable_shape}
use Rattle.aos_typed.specs.Location.{Location}
use Rattle.aos_typed.specs.Text.{text_in, fitted}
use Rattle.aos_typed.specs.Value.{Value, Int, Flag, Char, Set, Object, Callable, Place as PlaceValue, number_of, Sort, Integer, Character, Elements, element, given, unary_sort, binary_sort, is_true}
use Rattle.aos_typed.specs.Store.{Store, has_room, made_in}
use Rattle.aos_typed.specs.Routines.{Routine, routines}
use Rattle.aos_typed.specs.Meaning.{Here, Question, Doing, object_in, by_number as by_object, dereferenced, sizes_from, spread, is_instance, guarded, has_type, record_guarded, place_in, dispatched, calls as calls_of, receiver_of, called, Item, Do, Rounds, Round, Until, Region, End, Gives as GivesItem, After, Into, Exits, Returns, leave, leave_all, is_in, element_of, Found, row_at, lengths_from, place_of, rows_of, arguments_of, value_of, values_of, changed, arms_of, case_of, out_of, stat_of, item_of, bound, bound_to, carried_out, initialized, procedure_in}
use Rattle.aos_typed.specs.Source.{Top, top, copied, here_of, Frame, Turned, all_rooted, begins, ends, finishes, tests, settles, first_value, made_shape, written, prints, makes, makes_with, starts, copies, stores_text, is_deep, enters, called_frame, calls, known, length_in, object_place, has_type_in, calm, noted, answer, goes, item_turn, turn_at, opened, source, first_state, first_store, first_frames, awaits, locks_in, lock_of, judged, verdict_over}
use Rattle.aos_base.specs.declared.kernel.Verdict.TheVariants.{Holds, Fails}
use Rattle.aos_base.specs.declared.kernel.LockName.{LockName}
use Rattle.aos_typed.specs.Conditions.{Condition, conditions}
use Rattle.aos_sim.specs.Shows.{Shows, NeverLost}
use Rattle.aos_sim.proofs.Traps.{Leaves, Judges, traps_with}
use Rattle.aos_typed.specs.Methods.{body_type, initializer, is_active}

-- the number of a trap of the language
abbrev IsKnown : ℕ → Type 0
IsKnown n = n < 16

-- Operators

abbrev Gives : Given → Type 0
Gives (Number z) = Unit {0}
Gives (Trap n) = IsKnown n
Gives Undefined = Unit {0}

trap_gives : (n : ℕ) (o : Option ℤ) → IsKnown n → Gives (or_trap n o)
trap_gives n None known = known
trap_gives n (Some z) known = tt

divisor_gives : (positive : Bool) (o : Option ℤ) → Gives (if positive then or_trap 5 o else Trap 6)
divisor_gives true o = trap_gives 5 o (omega arith)
divisor_gives false o = omega arith

undefined_gives : {A : Type 0} (o : Option A) (k : A → Given) → ((x : A) → Gives (k x)) → Gives (or_undefined o k)
undefined_gives None k each = tt
undefined_gives (Some x) k each = each x

range_gives : (within : Bool) (a : ℤ) → Gives (if within then Number a else Trap 14)
range_gives true a = tt
range_gives false a = omega arith

-- and else it is undefined
if_gives : (b : Bool) (g : Given) → Gives g → Gives (if b then g else Undefined)
if_gives true g h = h
if_gives false g h = tt

unary_gives : (op : UnaryOperator) (a : ℤ) → Gives (unary_of op a)
unary_gives (Neg w) a = if_gives (is_within w a) _ (trap_gives 5 (if_within w (neg_ℤ a)) (omega arith))
unary_gives (Abs w) a = if_gives (is_within w a) _ (trap_gives 5 (if_within w (pos (unsigned_abs a))) (omega arith))
unary_gives Not a = undefined_gives (natural 2 a) _ (λ n. tt)
unary_gives Odd a = tt
unary_gives Cap a = undefined_gives (natural 256 a) _ (λ n. tt)
unary_gives Compl a = undefined_gives (set_of a) _ (λ x. tt)
unary_gives (Range low high) a = range_gives (int_le low a && int_le a high) a

sets_give : (f : ℕ → ℕ → ℕ) (a b : ℤ) → Gives (on_sets f a b)
sets_give f a b = undefined_gives (option_zip (set_of a) (set_of b)) _ (λ p. tt)

binary_gives : (op : BinaryOperator) (a b : ℤ) → Gives (binary_of op a b)
binary_gives (Add w) a b = if_gives (is_within w a && is_within w b) _ (trap_gives 5 (if_within w (a +ℤ b)) (omega arith))
binary_gives (Sub w) a b = if_gives (is_within w a && is_within w b) _ (trap_gives 5 (if_within w (a -ℤ b)) (omega arith))
binary_gives (Mul w) a b = if_gives (is_within w a && is_within w b) _ (trap_gives 5 (if_within w (a *ℤ b)) (omega arith))
binary_gives (Div w) a b = if_gives (is_within w a && is_within w b) _ (divisor_gives (int_lt (pos 0) b) (if_within w (int_div_euclid a b)))
binary_gives (Mod w) a b = if_gives (is_within w a && is_within w b) _ (divisor_gives (int_lt (pos 0) b) (if_within w (int_rem_euclid a b)))
binary_gives (Ash w) a b = if_gives (is_within w a) _ (trap_gives 5 (if_within w (shifted a b)) (omega arith))
binary_gives (Cmp relation) a b = tt
binary_gives Union a b = sets_give _ a b
binary_gives Minus a b = sets_give _ a b
binary_gives Meet a b = sets_give _ a b
binary_gives Xor a b = sets_give _ a b
binary_gives SetSpan a b = trap_gives 14 _ (omega arith)
binary_gives In a b = undefined_gives (set_of b) _ (λ x. trap_gives 14 _ (omega arith))

-- Expressions and statements

-- whatever is answered, it comes to no other trap; and it asks for no region, and awaits nothing
abbrev pub Comes : {A : Type 0} → Doing A → Type 0
Comes (Val a) = Unit {0}
Comes (Asks EntersRegion f) = ⊥
Comes (Asks LeavesRegion f) = ⊥
Comes (Asks (Awaits c) f) = ⊥
Comes (Asks q f) = (v : Value) → Comes (f v)
Comes (Traps n c) = IsKnown n

comes_then : {A B : Type 0} (t : Doing A) (k : A → Doing B) → Comes t → ((a : A) → Comes (k a)) → Comes (bind t k)
comes_then (Val a) k first each = each a
comes_then (Asks EntersRegion f) k first each = absurd first
comes_then (Asks LeavesRegion f) k first each = absurd first
comes_then (Asks (Awaits c) f) k first each = absurd first
comes_then (Asks q f) k first each = λ v. comes_then (f v) k (first v) each
comes_then (Traps n c) k first each = first

pub comes_fed : {A : Type 0} (vs : List Value) (t : Doing A) → Comes t → Comes (feed vs t)
comes_fed [] t h = h
comes_fed (v ∷ vs) (Val a) h = omega arith
comes_fed (v ∷ vs) (Asks EntersRegion f) h = absurd h
comes_fed (v ∷ vs) (Asks LeavesRegion f) h = absurd h
comes_fed (v ∷ vs) (Asks (Awaits c) f) h = absurd h
comes_fed (v ∷ vs) (Asks q f) h = comes_fed vs (f v) (h v)
comes_fed (v ∷ vs) (Traps n c) h = h

pub never_awaits : {A : Type 0} (d : Doing A) (c : ℕ) (f : Value → Doing A) → Comes d → d ≡ Asks (Awaits c) f → ⊥
never_awaits d c f h e = subst (λ x. Comes x) e h

-- but a statement may await a condition at once, where it stands in a region
abbrev pub AsksInside : (inside : Bool) → Doing After → Type 0
AsksInside inside (Asks (Awaits c) f) = (inside ≡ true) × ((v : Value) → Comes (f v))
AsksInside inside d = Comes d

in_any : (inside : Bool) (d : Doing After) → Comes d → AsksInside inside d
in_any inside (Asks (Awaits c) f) h = absurd h
in_any inside d h = h

pub asks_fed : (inside : Bool) (vs : List Value) (d : Doing After) → AsksInside inside d → AsksInside inside (feed vs d)
asks_fed inside [] d h = h
asks_fed inside (v ∷ vs) (Asks (Awaits c) f) h = in_any inside (feed vs (f v)) (comes_fed vs (f v) (h.1 v))
asks_fed inside (v ∷ vs) d h = in_any inside (feed (v ∷ vs) d) (comes_fed (v ∷ vs) d h)

-- what an item begins with stands in a region where that is AWAIT
abbrev pub MayAwait : (inside : Bool) → Stat → Type 0
MayAwait inside (Await at n e) = inside ≡ true
MayAwait inside s = Unit {0}

abbrev pub MayBegin : (inside : Bool) → Item → Type 0
MayBegin inside (Do s) = MayAwait inside s
MayBegin inside (Round s) = MayAwait inside s
MayBegin inside i = Unit {0}

any_awaits : (s : Stat) → MayAwait true s
any_awaits (Await at n e) = refl
any_awaits s = tt

any_begins : (i : Item) → MayBegin true i
any_begins (Do s) = any_awaits s
any_begins (Round s) = any_awaits s
any_begins i = tt

abbrev is_await : Stat → Bool
is_await (Await at n e) = true
is_await s = false

given_comes : (s : Sort) (g : Given) → Gives g → Comes (given s g)
given_comes s (Number z) h = tt
given_comes s (Trap n) h = h
given_comes s Undefined h = tt

either_comes : {A : Type 0} (c : Bool) (t u : Doing A) → Comes t → Comes u → Comes (if c then t else u)
either_comes true t u h k = h
either_comes false t u h k = k

element_comes : (n : ℕ) (v : Value) (s : Location) → Comes (element_of n v s)
element_comes n v s = by (natural n (number_of v)) refl
  where
    by : (o : Option ℕ) → natural n (number_of v) ≡ o → Comes (element_of n v s)
    by None e = rw e (omega arith)
    by (Some i) e = rw e tt

row_comes : (x : Found) (v : Value) → Comes (row_at x v)
row_comes x v = by x.lengths refl
  where
    by : (ns : List Value) → x.lengths ≡ ns → Comes (row_at x v)
    by [] e = rw e tt
    by (n ∷ ns) e = rw e (comes_then (element_of (unsigned_abs (number_of n)) v x.place) _ (element_comes (unsigned_abs (number_of n)) v x.place) (λ s. tt))

cases_come : (z : ℤ) (cases : Cases) → Comes (case_of z cases)
cases_come z NoElse = omega arith
cases_come z (Else ss) = tt
cases_come z (OfLabels rs ss cases) = either_comes (list_any (is_in z) rs) _ (case_of z cases) tt (cases_come z cases)

changed_comes : (c : Changing) (v n : Value) → Comes (changed c v n)
changed_comes (change.Add w) v n = given_comes Integer _ (binary_gives (Add w) (number_of v) (number_of n))
changed_comes (change.Subtract w) v n = given_comes Integer _ (binary_gives (Sub w) (number_of v) (number_of n))
changed_comes change.Include v n =
    comes_then (element n) _ (given_comes Elements _ (binary_gives SetSpan (number_of n) (number_of n))) (λ x. given_comes Elements _ (binary_gives Union (number_of v) (number_of x)))
changed_comes change.Exclude v n =
    comes_then (element n) _ (given_comes Elements _ (binary_gives SetSpan (number_of n) (number_of n))) (λ x. given_comes Elements _ (binary_gives Minus (number_of v) (number_of x)))

-- Objects

nil_comes : {A : Type 0} (o : ℕ) (t u : Doing A) → Comes t → Comes u → Comes (by_object o t u)
nil_comes zero t u h k = h
nil_comes (suc o) t u h k = k

dereferenced_comes : (v : Value) → Comes (dereferenced v)
dereferenced_comes v = nil_comes (object_in v) (Traps 1 0) _ (omega arith) (λ x. tt)

sizes_come : (v : Value) (d n : ℕ) → Comes (sizes_from v d n)
sizes_come v d zero = tt
sizes_come v d (suc n) = λ x. comes_then (sizes_from v (suc d) n) _ (sizes_come v (suc d) n) (λ xs. tt)

spread_comes : (v : Value) (j : ℕ) → Comes (spread v j)
spread_comes v j = nil_comes (object_in v) (Traps 1 0) _ (omega arith) (λ x. comes_then (sizes_from v 0 j) _ (sizes_come v 0 j) (λ ns. tt))

instance_comes : (v : Value) (t : ℕ) → Comes (is_instance v t)
instance_comes v t = nil_comes (object_in v) (Val (Flag false)) (ask (Tests v (suc t))) tt (λ x. tt)

guarded_comes : (v : Value) (t : ℕ) → Comes (guarded v t)
guarded_comes v t = nil_comes (object_in v) (Traps 3 0) _ (omega arith) (λ b. either_comes (is_true b) (Val v) (Traps 3 0) tt (omega arith))

record_comes : (rows : List TypeRow) (s : Location) (t : ℕ) → Comes (record_guarded rows s t)
record_comes rows s t = either_comes (has_type rows s t) (Val s) (Traps 3 0) tt (omega arith)

-- calls

dispatched_comes : (p : Program) (v : Value) (t k : ℕ) (vs : List Value) (made : ℕ) → Comes (dispatched p v t k vs made)
dispatched_comes p v t k vs zero = omega arith
dispatched_comes p v t k vs (suc d) =
    either_comes (comes_to p.types (id_of_made (suc d)) (id_of_made (suc t))) _ (Traps 1 0) (λ x. tt) (omega arith)

calls_come : (p : Program) (c : Callee) (o : Value) (vs : List Value) → Comes (calls_of p c o vs)
calls_come p (Plain m k) o vs = λ x. tt
calls_come p (Dispatched e t k) o vs =
    nil_comes (object_in o) (Traps 1 0) _ (omega arith) (λ x. dispatched_comes p o t k vs (place_in x).type)
calls_come p (Upper t k) o vs = λ x. tt
calls_come p (Through e t) o vs = nil_comes (procedure_in o) (Traps 1 0) _ (omega arith) (λ x. tt)

-- methods as values

bound_to_comes : (p : Program) (v : Value) (t k made : ℕ) → Comes (bound_to p v t k made)
bound_to_comes p v t k zero = omega arith
bound_to_comes p v t k (suc d) = either_comes (comes_to p.types (id_of_made (suc d)) (id_of_made (suc t))) _ (Traps 1 0) tt (omega arith)

bound_comes : (p : Program) (v : Value) (t k : ℕ) → Comes (bound p v t k)
bound_comes p v t k = nil_comes (object_in v) (Traps 1 0) _ (omega arith) (λ x. bound_to_comes p v t k (place_in x).type)

-- objects that are made

initialized_comes : (p : Program) (slot : Option ℕ) (t : ℕ) (o : Value) (vs : List Value) → Comes (initialized p slot t o vs)
initialized_comes p None t o vs = tt
initialized_comes p (Some k) t o vs = λ x. tt

carried_comes : (p : Program) (body : Option ℕ) (o : Value) → Comes (carried_out p body o)
carried_comes p None o = tt
carried_comes p (Some b) o = either_comes (is_active p b) _ _ (λ x. tt) (λ x. tt)

module _ (program : Program) (here : Here) where
  lengths_come : (k d n : ℕ) → Comes (lengths_from program here k d n)
  lengths_come k d zero = tt
  lengths_come k d (suc n) = λ v. comes_then (lengths_from program here k (suc d) n) _ (lengths_come k (suc d) n) (λ vs. tt)

  mutual
    place_comes : (p : Place) → Comes (place_of program here p)
    place_comes (ModuleVar m i) = tt
    place_comes (Local k) = tt
    place_comes (Passed k) = λ v. tt
    place_comes (Field p t k) = comes_then (place_of program here p) _ (place_comes p) (λ s. tt)
    place_comes (Index p n t e) =
        comes_then (place_of program here p) _ (place_comes p) (λ s. comes_then (value_of program here e) _ (value_comes e) (λ v. element_comes n v s))
    place_comes (Of r) = comes_then (rows_of program here r) _ (rows_come r) (λ x. tt)
    place_comes (Deref e t) = comes_then (value_of program here e) _ (value_comes e) dereferenced_comes
    place_comes (Typed p t) = comes_then (place_of program here p) _ (place_comes p) (λ s. tt)
    place_comes (Guarded p t) = comes_then (place_of program here p) _ (place_comes p) (λ s. record_comes program.types s t)

    rows_come : (r : Rows) → Comes (rows_of program here r)
    rows_come (KnownRows p ns) = comes_then (place_of program here p) _ (place_comes p) (λ s. tt)
    rows_come (Opened k j) = λ v. comes_then (lengths_from program here k 0 j) _ (lengths_come k 0 j) (λ ns. tt)
    rows_come (Row r t e) =
        comes_then (rows_of program here r) _ (rows_come r) (λ x. comes_then (value_of program here e) _ (value_comes e) (λ v. row_comes x v))
    rows_come (Spread e j) = comes_then (value_of program here e) _ (value_comes e) (λ v. spread_comes v j)
    rows_come (Longer r ns) = comes_then (rows_of program here r) _ (rows_come r) (λ x. tt)

    arguments_come : (as' : Arguments) → Comes (arguments_of program here as')
    arguments_come NoMore = tt
    arguments_come (Scalar e as') =
        comes_then (value_of program here e) _ (value_comes e) (λ v. comes_then (arguments_of program here as') _ (arguments_come as') (λ vs. tt))
    arguments_come (Whole p as') =
        comes_then (place_of program here p) _ (place_comes p) (λ s. comes_then (arguments_of program here as') _ (arguments_come as') (λ vs. tt))
    arguments_come (Opening r as') =
        comes_then (rows_of program here r) _ (rows_come r) (λ x. comes_then (arguments_of program here as') _ (arguments_come as') (λ vs. tt))

    receiver_comes : (c : Callee) → Comes (receiver_of program here c)
    receiver_comes (Plain m k) = tt
    receiver_comes (Dispatched e t k) = value_comes e
    receiver_comes (Upper t k) = tt
    receiver_comes (Through e t) = value_comes e

    pub value_comes : (e : Expr) → Comes (value_of program here e)
    value_comes (Lit l) = tt
    value_comes SelfRef = tt
    value_comes (Read t p) = comes_then (place_of program here p) _ (place_comes p) (λ s v. tt)
    value_comes (Unary op a) =
        comes_then (value_of program here a) _ (value_comes a) (λ x. given_comes (unary_sort op) _ (unary_gives op (number_of x)))
    value_comes (Binary op a b) =
        comes_then (value_of program here a) _ (value_comes a)
        (λ x. comes_then (value_of program here b) _ (value_comes b) (λ y. given_comes (binary_sort op) _ (binary_gives op (number_of x) (number_of y))))
    value_comes (And a b) =
        comes_then (value_of program here a) _ (value_comes a) (λ x. either_comes (is_true x) (value_of program here b) (Val (Flag false)) (value_comes b) tt)
    value_comes (Or a b) =
        comes_then (value_of program here a) _ (value_comes a) (λ x. either_comes (is_true x) (Val (Flag true)) (value_of program here b) tt (value_comes b))
    value_comes (Element a) =
        comes_then (value_of program here a) _ (value_comes a) (λ x. given_comes Elements _ (binary_gives SetSpan (number_of x) (number_of x)))
    value_comes (Ord a) = comes_then (value_of program here a) _ (value_comes a) (λ x. tt)
    value_comes (Chr a) =
        comes_then (value_of program here a) _ (value_comes a) (λ x. given_comes Character _ (unary_gives (Range (pos 0) (pos 255)) (number_of x)))
    value_comes (CompareTexts r a b) =
        comes_then (rows_of program here a) _ (rows_come a) (λ x. comes_then (rows_of program here b) _ (rows_come b) (λ y v. tt))
    value_comes (Len r d) = comes_then (rows_of program here r) _ (rows_come r) (λ x. tt)
    value_comes (LenBehind r n) = comes_then (rows_of program here r) _ (rows_come r) (λ x. tt)
    value_comes (Function c as') =
        comes_then (receiver_of program here c) _ (receiver_comes c)
        (λ o. comes_then (arguments_of program here as') _ (arguments_come as') (λ vs. calls_come program c o vs))
    value_comes (Same a b) =
        comes_then (value_of program here a) _ (value_comes a) (λ x. comes_then (value_of program here b) _ (value_comes b) (λ y. tt))
    value_comes (Is a t) = comes_then (value_of program here a) _ (value_comes a) (λ v. instance_comes v t)
    value_comes (IsRecord p t) = comes_then (place_of program here p) _ (place_comes p) (λ s. tt)
    value_comes (Guard a t) = comes_then (value_of program here a) _ (value_comes a) (λ v. guarded_comes v t)
    value_comes (ProcedureOf m k) = tt
    value_comes (MethodOf a t k) = comes_then (value_of program here a) _ (value_comes a) (λ v. bound_comes program v t k)
    value_comes (SameProcedure a b) =
        comes_then (value_of program here a) _ (value_comes a) (λ x. comes_then (value_of program here b) _ (value_comes b) (λ y. tt))
    value_comes (Had v) = tt

  values_come : (es : List Expr) → Comes (values_of program here es)
  values_come [] = tt
  values_come (e ∷ es) =
      comes_then (value_of program here e) _ (value_comes e) (λ v. comes_then (values_of program here es) _ (values_come es) (λ vs. tt))

  out_comes : (call : Call) → Comes (out_of program here call)
  out_comes OutOpen = λ v. tt
  out_comes (OutChar e) = comes_then (value_of program here e) _ (value_comes e) (λ x v. tt)
  out_comes (OutInt e n) =
      comes_then (value_of program here e) _ (value_comes e) (λ x. comes_then (value_of program here n) _ (value_comes n) (λ y v. tt))
  out_comes (OutString r) = comes_then (rows_of program here r) _ (rows_come r) (λ s v. tt)
  out_comes OutLn = λ v. tt

  arms_come : (arms : Arms) → Comes (arms_of program here arms)
  arms_come (Otherwise ss) = tt
  arms_come (Arm e ss arms) =
      comes_then (value_of program here e) _ (value_comes e) (λ x. either_comes (is_true x) _ (arms_of program here arms) tt (arms_come arms))

  stat_comes : (s : Stat) → is_await s ≡ false → Comes (stat_of program here s)
  stat_comes (Assign at t p e) other =
      comes_then (place_of program here p) _ (place_comes p) (λ s. comes_then (value_of program here e) _ (value_comes e) (λ x v. tt))
  stat_comes (Copy at t p q) other =
      comes_then (place_of program here p) _ (place_comes p) (λ to. comes_then (place_of program here q) _ (place_comes q) (λ from v. tt))
  stat_comes (PutText at strict a b) other =
      comes_then (rows_of program here a) _ (rows_come a) (λ x. comes_then (rows_of program here b) _ (rows_come b) (λ y v. tt))
  stat_comes (If at arms) other = arms_come arms
  stat_comes (Case at e cases) other = comes_then (value_of program here e) _ (value_comes e) (λ x. cases_come (number_of x) cases)
  stat_comes (While at e body) other = comes_then (value_of program here e) _ (value_comes e) (λ x. tt)
  stat_comes (Repeat at body e) other = tt
  stat_comes (Loop at body) other = tt
  stat_comes (Exit at) other = tt
  stat_comes (For at w p from to step body) other = comes_then (value_of program here to) _ (value_comes to) (λ x. tt)
  stat_comes (Block at exclusive body) other = tt
  stat_comes (Await at n e) other = absurd (cc other)
  stat_comes (Assert at e code) other = comes_then (value_of program here e) _ (value_comes e) (λ x. either_comes (is_true x) _ _ tt (omega arith))
  stat_comes (Halt at code) other = omega arith
  stat_comes (Change at c p e) other =
      comes_then (place_of program here p) _ (place_comes p)
      (λ s. comes_then (value_of program here e) _ (value_comes e) (λ n v. comes_then (changed c v n) _ (changed_comes c v n) (λ x w. tt)))
  stat_comes (Perform at c as') other = comes_then (called program here c as') _ (value_comes (Function c as')) (λ v. tt)
  stat_comes (Return at None) other = tt
  stat_comes (Return at (Some e)) other = comes_then (value_of program here e) _ (value_comes e) (λ v. tt)
  stat_comes (New at p t as') other =
      comes_then (place_of program here p) _ (place_comes p)
      (λ s. comes_then (arguments_of program here as') _ (arguments_come as')
      (λ vs o. comes_then (initialized program (initializer program t) t o vs) _ (initialized_comes program (initializer program t) t o vs)
      (λ x y. comes_then (carried_out program (body_type program t) o) _ (carried_comes program (body_type program t) o) (λ z. tt))))
  stat_comes (Make at p t ns) other =
      comes_then (place_of program here p) _ (place_comes p) (λ s. comes_then (values_of program here ns) _ (values_come ns) (λ vs o w. tt))
  stat_comes (With at e body) other = comes_then (value_of program here e) _ (value_comes e) (λ x. tt)
  stat_comes (WithRecord at p body) other = comes_then (place_of program here p) _ (place_comes p) (λ s. tt)
  stat_comes (Out at call) other = out_comes call

  stat_asks : (inside : Bool) (s : Stat) → MayAwait inside s → AsksInside inside (stat_of program here s)
  stat_asks inside (Await at n e) h = (h, λ v. tt)
  stat_asks inside s h = in_any inside (stat_of program here s) (stat_comes s refl)

  pub item_asks : (inside : Bool) (i : Item) → MayBegin inside i → AsksInside inside (item_of program here i)
  item_asks inside (Do s) h = stat_asks inside s h
  item_asks inside (Rounds at w p last step b) h =
      in_any inside (item_of program here (Rounds at w p last step b)) (comes_then _ _ (value_comes (Read (type.Integer w) p)) (λ v. tt))
  item_asks inside (Round s) h = stat_asks inside s h
  item_asks inside (Until at b e) h =
      in_any inside (item_of program here (Until at b e)) (comes_then (value_of program here e) _ (value_comes e) (λ x. tt))
  item_asks inside (Region ss) h = tt
  item_asks inside End h = tt
  item_asks inside (GivesItem r) h = tt

-- what is left behind silent questions
module _ (rows : List TypeRow) (made : ℕ → Option Made) (c : Content Value) where
  pub calm_comes : {A : Type 0} (t : Doing A) → Comes t → Comes (calm rows made c t)
  calm_comes (Val a) h = tt
  calm_comes (Traps n code) h = h
  calm_comes (Asks (Places s) k) h = calm_comes (k (known c s)) (h (known c s))
  calm_comes (Asks (Lengths s) k) h = calm_comes (k (known c s)) (h (known c s))
  calm_comes (Asks (Opens v) k) h =
      let x = object_place (object_in v) (made (object_in v)) in calm_comes (k x) (h x)
  calm_comes (Asks (Sizes v d) k) h = let x = length_in d (made (object_in v)) in calm_comes (k x) (h x)
  calm_comes (Asks (Tests v t) k) h =
      let x = has_type_in rows made c t (made (object_in v)) in calm_comes (k x) (h x)
  calm_comes (Asks (Reads t p) k) h = h
  calm_comes (Asks (Stores p v) k) h = h
  calm_comes (Asks (Copies t from to) k) h = h
  calm_comes (Asks (PutsText strict from n to room) k) h = h
  calm_comes (Asks (ComparesTexts r a n b m) k) h = h
  calm_comes (Asks (Calls how p vs) k) h = h
  calm_comes (Asks (Ends r) k) h = h
  calm_comes (Asks (Makes t vs) k) h = h
  calm_comes (Asks (Starts v) k) h = h
  calm_comes (Asks EntersRegion k) h = h
  calm_comes (Asks LeavesRegion k) h = h
  calm_comes (Asks (Awaits n) k) h = h
  calm_comes (Asks (PutsInt v n) k) h = h
  calm_comes (Asks (PutsChar v) k) h = h
  calm_comes (Asks (PutsString a n) k) h = h
  calm_comes (Asks PutsNothing k) h = h
  calm_comes (Asks PutsLn k) h = h

  pub asks_calm : (inside : Bool) (d : Doing After) → AsksInside inside d → AsksInside inside (calm rows made c d)
  asks_calm inside (Asks (Awaits n) k) h = h
  asks_calm inside d h = in_any inside (calm rows made c d) (calm_comes d h)

-- Turns

abbrev Known : Turned → Type 0
Known t = Leaves IsKnown t.left

module _ (following : List ℕ) where
  ends_known : (result : Option Value) (fs : List Frame) (s : Store) → Known (ends following result fs s)
  ends_known None fs s = tt
  ends_known (Some v) fs s = tt

  prints_known : (bytes : Option (List ℕ)) (f : Frame) (fs : List Frame) (s : Store) → Known (prints following bytes (top f fs s))
  prints_known None f fs s = omega arith
  prints_known (Some bytes) f fs s = tt

  makes_known : (room : Bool) (m : Made) (c : Content Value) (f : Frame) (fs : List Frame) (s : Store) → Known (makes following room m c (top f fs s))
  makes_known true m c f fs s = tt
  makes_known false m c f fs s = omega arith

  starts_known : (v : Value) (f : Frame) (fs : List Frame) (s : Store) → Known (starts following v (top f fs s))
  starts_known (Object zero) f fs s = tt
  starts_known (Object (suc k)) f fs s = tt
  starts_known (Int z) f fs s = tt
  starts_known (Flag b) f fs s = tt
  starts_known (Char c) f fs s = tt
  starts_known (Set x) f fs s = tt
  starts_known (Callable p o) f fs s = tt
  starts_known (PlaceValue p) f fs s = tt

  awaits_known : (locks : List LockName) (c : ℕ) (f : Frame) (fs : List Frame) (s : Store) → Known (awaits following locks c (top f fs s))
  awaits_known [] c f fs s = tt
  awaits_known (l ∷ locks) c f fs s = tt

  copies_known : (c : Option (Content Value)) (p : Location) (h : Top) → Known (copies following c p h)
  copies_known None p h = tt
  copies_known (Some c) p h = tt

  stores_text_known : (text : Option (List ℕ)) (old : Option (Content Value)) (p : Location) (f : Frame) (fs : List Frame) (s : Store) → Known (stores_text following text old p (top f fs s))
  stores_text_known None old p f fs s = omega arith
  stores_text_known (Some cs) None p f fs s = tt
  stores_text_known (Some cs) (Some old) p f fs s = tt

  enters_known : (deep : Bool) (g : Frame) (fs : List Frame) (s : Store) → Known (enters following deep g fs s)
  enters_known true g fs s = omega arith
  enters_known false g fs s = tt

module _ (program : Program) (following : List ℕ) where
  calls_known : (r : Option Routine) (vs : List Value) (f : Frame) (fs : List Frame) (s : Store) → Known (calls program following r vs (top f fs s))
  calls_known None vs f fs s = tt
  calls_known (Some r) vs f fs s =
      let g = called_frame program following r vs (f ∷ fs) s in
      enters_known following (is_deep following g (f ∷ fs)) g (f ∷ fs) s

  makes_with_known : (ns : Option (List ℕ)) (t : ℕ) (f : Frame) (fs : List Frame) (s : Store) → Known (makes_with program following ns t (top f fs s))
  makes_with_known None t f fs s = omega arith
  makes_with_known (Some ns) t f fs s =
      let m : Made = record { type = t; lengths = ns } in
      let c = first_content (first_value program) (made_shape program.types m) in makes_known following (has_room m c s) m c f fs s

  answer_known : (q : Question) (f : Frame) (fs : List Frame) (s : Store) → Known (answer program following q (top f fs s))
  answer_known (Ends result) f fs s = tt
  answer_known (Makes t vs) f fs s = makes_with_known (array_lengths (map number_of vs)) t f fs s
  answer_known (Starts v) f fs s = starts_known following v f fs s
  answer_known EntersRegion f fs s = tt
  answer_known LeavesRegion f fs s = tt
  answer_known (Awaits c) f fs s = awaits_known following (locks_in (lock_of f) f.items) c f fs s
  answer_known (PutsInt v n) f fs s = prints_known following (written v n) f fs s
  answer_known (Reads t p) f fs s = tt
  answer_known (Stores p v) f fs s = tt
  answer_known (PutsChar v) f fs s = tt
  answer_known PutsNothing f fs s = tt
  answer_known PutsLn f fs s = tt
  answer_known (Copies t from to) f fs s =
      let x = all_rooted (f ∷ fs) s in
      copies_known following (copied (variable_shape program.types (id_of t)) (read from.root from.path x) (read to.root to.path x)) to (top f fs s)
  answer_known (PutsText strict from n to room) f fs s =
      let x = all_rooted (f ∷ fs) s in
      let text = fitted strict (unsigned_abs (number_of room)) (text_in (read from.root from.path x)) in
      stores_text_known following text (read to.root to.path x) to f fs s
  answer_known (ComparesTexts r a n b m) f fs s = tt
  answer_known (Calls how p vs) f fs s = calls_known (by_number p (routines program)) vs f fs s
  answer_known (PutsString a n) f fs s = tt
  answer_known (Places a) f fs s = tt
  answer_known (Lengths a) f fs s = tt
  answer_known (Opens v) f fs s = tt
  answer_known (Sizes v d) f fs s = tt
  answer_known (Tests v t) f fs s = tt

  tests_known : (d : Doing Value) (if_true if_false : Turned) (f : Frame) (fs : List Frame) (s : Store) → Comes d → Known if_true → Known if_false → Known (tests program following d if_true if_false (top f fs s))
  tests_known (Val v) if_true if_false f fs s c h k = by (is_true v)
    where
      by : (b : Bool) → Known (if b then if_true else if_false)
      by true = h
      by false = k
  tests_known (Asks q g) if_true if_false f fs s c h k = answer_known q f fs s
  tests_known (Traps n code) if_true if_false f fs s c h k = c

  finishes_known : (function : Bool) (f : Frame) (fs : List Frame) (s : Store) → Known (finishes program following function (top f fs s))
  finishes_known true f fs s = omega arith
  finishes_known false f fs s = tt

  settles_known : (is : List Item) (f : Frame) (fs : List Frame) (s : Store) → Known (settles program following is (top f fs s))
  settles_known [] f fs s = finishes_known f.gives f fs s
  settles_known (Do st ∷ is) f fs s = tt
  settles_known (Rounds at w p last step b ∷ is) f fs s = tt
  settles_known (Round st ∷ is) f fs s = tt
  settles_known (Until at b e ∷ is) f fs s =
      let test = value_of program (here_of f fs) e in
      tests_known (calm program.types (made_in s) f.variables test) (settles program following is (top f fs s)) (begins following at (Do (Repeat at b e) ∷ is) (top f fs s))
      (record f { items = Until at b e ∷ is; answers = Some (noted program.types (made_in s) f.variables test) }) fs s
      (calm_comes program.types (made_in s) f.variables test (value_comes program (here_of f fs) e)) (settles_known is f fs s) tt
  settles_known (Region ss ∷ is) f fs s = tt
  settles_known (End ∷ is) f fs s = tt
  settles_known (GivesItem r ∷ is) f fs s = ends_known following r fs s

  goes_known : (d : Doing After) (rest : List Item) (f : Frame) (fs : List Frame) (s : Store) → AsksInside true d → Known (goes program following d rest (top f fs s))
  goes_known (Val (Into is)) rest f fs s h = settles_known (is ++ rest) f fs s
  goes_known (Val Exits) rest f fs s h = settles_known (leave rest) f fs s
  goes_known (Val (Returns r)) rest f fs s h = settles_known (leave_all r rest) f fs s
  goes_known (Asks q k) rest f fs s h = answer_known q f fs s
  goes_known (Traps n c) rest f fs s h = h

  item_known : (answers : Option (List Value)) (is : List Item) (f : Frame) (fs : List Frame) (s : Store) → Known (item_turn program following answers is (top f fs s))
  item_known None is f fs s = settles_known is f fs s
  item_known (Some vs) [] f fs s = tt
  item_known (Some vs) (i ∷ is) f fs s =
      let doing = item_of program (here_of f fs) i in
      let left = feed vs doing in
      goes_known (calm program.types (made_in s) f.variables left) is (record f { answers = Some (vs ++ noted program.types (made_in s) f.variables left) }) fs s
      (asks_calm program.types (made_in s) f.variables true left (asks_fed true vs doing (item_asks program (here_of f fs) true i (any_begins i))))

  turn_at_known : (fs : List Frame) (s : Store) → Known (turn_at program following fs s)
  turn_at_known [] s = tt
  turn_at_known (f ∷ fs) s = item_known f.answers f.items f fs s

-- Verdicts

module _ (rows : List TypeRow) (made : ℕ → Option Made) (c : Content Value) (x : Rooted (Content Value)) where
  judged_known : (t : Doing Value) → Comes t → Judges IsKnown (judged rows made c x t)
  judged_known (Val v) h = by (is_true v)
    where
      by : (b : Bool) → Judges IsKnown (if b then Holds else Fails)
      by true = tt
      by false = tt
  judged_known (Traps n code) h = h
  judged_known (Asks (Reads t q) k) h = judged_known (k _) (h _)
  judged_known (Asks (ComparesTexts r a n b m) k) h = judged_known (k _) (h _)
  judged_known (Asks (Places s) k) h = judged_known (k _) (h _)
  judged_known (Asks (Lengths s) k) h = judged_known (k _) (h _)
  judged_known (Asks (Opens v) k) h = judged_known (k _) (h _)
  judged_known (Asks (Sizes v d) k) h = judged_known (k _) (h _)
  judged_known (Asks (Tests v t) k) h = judged_known (k _) (h _)
  judged_known (Asks (Stores q v) k) h = tt
  judged_known (Asks (Copies t a b) k) h = tt
  judged_known (Asks (PutsText strict a n b m) k) h = tt
  judged_known (Asks (Calls how q vs) k) h = tt
  judged_known (Asks (Ends r) k) h = tt
  judged_known (Asks (Makes t vs) k) h = tt
  judged_known (Asks (Starts v) k) h = tt
  judged_known (Asks EntersRegion k) h = tt
  judged_known (Asks LeavesRegion k) h = tt
  judged_known (Asks (Awaits n) k) h = tt
  judged_known (Asks (PutsInt v n) k) h = tt
  judged_known (Asks (PutsChar v) k) h = tt
  judged_known (Asks (PutsString a n) k) h = tt
  judged_known (Asks PutsNothing k) h = tt
  judged_known (Asks PutsLn k) h = tt

verdict_known : (p : Program) (s : Store) (o : Option Condition) (fs : List Frame) → Judges IsKnown (verdict_over p o fs s)
verdict_known p s None fs = tt
verdict_known p s (Some c) [] = tt
verdict_known p s (Some c) (f ∷ fs) =
    judged_known p.types (made_in s) f.variables (all_rooted (f ∷ fs) s) (value_of p (here_of f fs) c.expression) (value_comes p (here_of f fs) c.expression)

source_traps : (p : Program) (budget : ℕ) (cs : List Choice) → All (λ t. t.number < 16) (observation (source p) (execution (source p) cs (first_state p budget))).traps
unfolding observation
source_traps p budget cs =
    traps_with IsKnown (source p) (omega arith) (omega arith) (record { turn = λ s fs. turn_at_known p (opened p fs).following (opened p fs).frames s; verdict = λ s fs c. verdict_known p s (slice_get (conditions p) c) fs.frames }) (first_store p) (first_frames p) budget cs

pub never_lost : (p : Program) (image : Image) → Shows p image → NeverLost image
never_lost p image shows budget cs =
    subst (λ (o : Observation). All (λ t. t.number < 16) o.traps) (sym (shows.observation budget cs)) (source_traps p budget cs)
