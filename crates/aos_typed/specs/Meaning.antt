-- What expressions and statements do, as trees of questions.
use Rattle.std.specs.Prelude.{ℕ, zero, suc, ℤ, pos, negsuc, int_le, List, [], ◌∷◌, ◌++◌, Bool, true, false, ◌&&◌, ◌==◌, Option, Some, None, if◌then◌else◌, map, slice_get, unsigned_abs}
use Rattle.aos_base.specs.declared.text.Pos.{Pos}
use Rattle.std.specs.List.{list_any}
use Rattle.std.specs.Option.{unwrap_or}
use Rattle.aos_base.specs.declared.number.Width.{Width}
use Rattle.aos_base.specs.declared.number.Relation.{Relation}
use Rattle.aos_base.specs.declared.number.Relation.TheVariants.{LessEqual, GreaterEqual}
use Rattle.aos_base.specs.declared.operator.Binary.TheVariants.{Add, Sub, Union, Minus}
use Rattle.aos_base.specs.Number.{holds}
use Rattle.aos_base.specs.Operators.{natural}
use Rattle.aos_typed.specs.declared.tree.Literal.TheVariants as literal
use Rattle.aos_typed.specs.declared.tree.Change.{Change as Changing}
use Rattle.aos_typed.specs.declared.tree.Change.TheVariants as change
use Rattle.aos_typed.specs.declared.tree.LabelRange.{LabelRange}
use Rattle.aos_typed.specs.declared.tree.TType.TheVariants.{Integer, Set}
use Rattle.aos_base.specs.Question.{Tree, Val, Traps, bind, ask, Ask, ByName, ByType, Upward, Initially, ByCreator, ByValue, Reads, Stores, Copies, PutsText, ComparesTexts, Calls, Places, Lengths, Opens, Sizes, Tests, Makes, Starts, Awaits, PutsInt, PutsChar, PutsString, PutsLn, PutsNothing}
use Rattle.aos_typed.specs.Program.{Place, ModuleVar, Local, Passed, Field, Index, Of, Deref, Typed, Guarded, Rows, Known, Opened, Row, Spread, Longer, Arguments, NoMore, Scalar, Whole, Opening, Callee, Plain, Dispatched, Upper, Through, Expr, Lit, SelfRef, Read, Unary, Binary, And, Or, Element, Ord, Chr, CompareTexts, Len, LenBehind, Function, Same, Is, IsRecord, Guard, ProcedureOf, MethodOf, SameProcedure, Had, Call, Open as OutOpen, Char as OutChar, Int as OutInt, String as OutString, Ln as OutLn, Stat, Assign, Copy, PutText, If, Case, While, Repeat, Loop, Exit, For, Block, Await, Assert, Halt, Change, Perform, Return, New, Make, With, WithRecord, Out, Stats, Nothing, Then, Arms, Otherwise, Arm, Cases, NoElse, Else, OfLabels, Body, Program}
use Rattle.aos_types.specs.declared.row.TypeId.{TypeId}
use Rattle.aos_types.specs.declared.row.TypeRow.{TypeRow}
use Rattle.aos_types.specs.Extension.{comes_to}
use Rattle.aos_typed.specs.Value.{Value, Int, Flag, Object, Callable, Place as PlaceValue, number_of, literal_value, unary, binary, element, ord, chr, is_true}
use Rattle.aos_base.specs.declared.root.Root.TheVariants.{Frame as FrameRoot, Module as ModuleRoot}
pub use Rattle.aos_base.specs.Frames.{Here}
use Rattle.aos_typed.specs.declared.tree.TType.{TType}
use Rattle.aos_typed.specs.Location.{Location, InFrame, OfModule}
use Rattle.aos_typed.specs.Fields.{declared_as}
use Rattle.aos_typed.specs.Methods.{method_number, is_active, body_type, initializer}
use Rattle.aos_typed.specs.Numbers.{id_of, body_number, procedure_number, id_of_made}

-- a scalar is known by its type, and so is what is copied
abbrev pub Question : Type 0
Question = Ask Location Value TType TType

abbrev pub Doing : Type 0 → Type 0
Doing A = Tree Question Value A

-- Places.

-- the place that is a value; no well-typed program takes another value for one
abbrev pub place_in : Value → Location
place_in (PlaceValue s) = s
place_in v = record { root = FrameRoot 0; path = []; type = 0; of = InFrame }

-- a part of a place, by its number: it is a part of the same declared variable
abbrev pub part_of : ℕ → Location → Location
part_of i s = record { root = s.root; path = s.path ++ i ∷ []; type = 0; of = s.of }

-- a field of a record or an object of this type
abbrev pub field_of : List TypeRow → TypeId → ℕ → Location → Location
field_of rows t k s = record { root = s.root; path = s.path ++ k ∷ []; type = 0; of = declared_as rows t k s.of }

-- an element of an array of so many; trap 2 where there is none with this index
abbrev pub element_of : ℕ → Value → Location → Doing Location
element_of n v s = by (natural n (number_of v))
  where
    by : Option ℕ → Doing Location
    by None = Traps 2 0
    by (Some i) = Val (part_of i s)

-- an array, and the lengths of its dimensions
pub record Found : Type 0 where
  pub place : Location
  pub lengths : List Value

abbrev pub found : Location → List Value → Doing Found
found s ns = Val (record { place = s; lengths = ns })

-- its element with this index, which is one dimension less
abbrev pub row_at : Found → Value → Doing Found
row_at x v = by x.lengths
  where
    by : List Value → Doing Found
    by [] = found x.place []
    by (n ∷ ns) = bind (element_of (unsigned_abs (number_of n)) v x.place) (λ s. found s ns)

-- the length of a dimension; each has one
abbrev pub length_at : ℕ → Found → Value
length_at d x = unwrap_or (slice_get x.lengths d) (Int (pos 0))

-- a place and its length
abbrev pub text_length : Found → Value
text_length x = length_at 0 x

-- Objects.

-- the number of an object, 0 for NIL; no well-typed program takes another value for one
abbrev pub object_in : Value → ℕ
object_in (Object o) = o
object_in v = 0

-- the number of a procedure, 0 for NIL, and the object whose method it is, 0 for none; no well-typed program takes another value for one
abbrev pub procedure_in : Value → ℕ
procedure_in (Callable q o) = q
procedure_in v = 0

abbrev pub instance_in : Value → ℕ
instance_in (Callable q o) = o
instance_in v = 0

abbrev pub by_number : {A : Type 0} → ℕ → (at_nil otherwise : Doing A) → Doing A
by_number zero a b = a
by_number (suc o) a b = b

abbrev pub unless_nil : {A : Type 0} → Value → (at_nil otherwise : Doing A) → Doing A
unless_nil v a b = by_number (object_in v) a b

-- where what an object holds stands is known at once, and so are its lengths and its type, which never change
abbrev pub dereferenced : Value → Doing Location
dereferenced v = unless_nil v (Traps 1 0) (bind (ask (Opens v)) (λ x. Val (place_in x)))

abbrev pub sizes_from : Value → (dimension many : ℕ) → Doing (List Value)
sizes_from v d zero = Val []
sizes_from v d (suc n) = bind (ask (Sizes v d)) (λ x. bind (sizes_from v (suc d) n) (λ xs. Val (x ∷ xs)))

abbrev pub spread : Value → (dimensions : ℕ) → Doing Found
spread v j =
    unless_nil v (Traps 1 0)
    (bind (ask (Opens v)) (λ x. bind (sizes_from v 0 j) (λ ns. found (record (place_in x) { type = 0 }) ns)))

-- whether its type extends this one
abbrev pub is_instance : Value → ℕ → Doing Value
is_instance v t = unless_nil v (Val (Flag false)) (ask (Tests v (suc t)))

abbrev pub guarded : Value → ℕ → Doing Value
guarded v t = unless_nil v (Traps 3 0) (bind (ask (Tests v (suc t))) (λ b. if is_true b then Val v else Traps 3 0))

-- whether the type of a record, which its place names, extends this one
abbrev pub has_type : List TypeRow → Location → ℕ → Bool
has_type rows s t = comes_to rows (id_of_made s.type) (id_of_made (suc t))

abbrev pub record_guarded : List TypeRow → Location → ℕ → Doing Location
record_guarded rows s t = if has_type rows s t then Val s else Traps 3 0

-- of an object whose type is known to extend this one: the method in a slot
module _ (p : Program) (v : Value) (type slot : ℕ) where
  -- whether the object's type does extend it: then what its own type has there is called on it with these arguments. No well-typed
  -- program comes to another object
  abbrev pub dispatched : List Value → (made : ℕ) → Doing Value
  dispatched vs zero = Traps 1 0
  dispatched vs (suc d) =
      if comes_to p.types (id_of_made (suc d)) (id_of_made (suc type)) then ask (Calls ByType (method_number p d slot) (v ∷ vs)) else Traps 1 0

  -- the method is called on the object; whether that is NIL is asked behind the arguments
  abbrev pub sent : List Value → Doing Value
  sent vs = unless_nil v (Traps 1 0) (bind (ask (Opens v)) (λ x. dispatched vs (place_in x).type))

  -- the same method as a value, with the object
  abbrev pub bound_to : (made : ℕ) → Doing Value
  bound_to zero = Traps 1 0
  bound_to (suc d) =
      if comes_to p.types (id_of_made (suc d)) (id_of_made (suc type)) then Val (Callable (method_number p d slot) (object_in v)) else Traps 1 0

  abbrev pub bound : Doing Value
  bound = unless_nil v (Traps 1 0) (bind (ask (Opens v)) (λ x. bound_to (place_in x).type))

-- what a procedure value stands for is called, a method on the value's object
abbrev pub on_instance : ℕ → List Value → List Value
on_instance zero vs = vs
on_instance (suc o) vs = Object (suc o) ∷ vs

abbrev pub applied : Value → List Value → Doing Value
applied v vs = by_number (procedure_in v) (Traps 1 0) (ask (Calls ByValue (procedure_in v) (on_instance (instance_in v) vs)))

-- whether two procedure values stand for the same
abbrev pub are_one : Value → Value → Bool
are_one x y = (procedure_in x == procedure_in y) && (instance_in x == instance_in y)

-- what is called on an object gets it before its arguments
abbrev pub calls : Program → Callee → Value → List Value → Doing Value
calls p (Plain m k) o vs = ask (Calls ByName (procedure_number p m k) vs)
calls p (Dispatched e t k) o vs = sent p o t k vs
calls p (Upper t k) o vs = ask (Calls Upward (method_number p t k) (o ∷ vs))
calls p (Through e t) o vs = applied o vs

-- Objects that are made (Reali 2002, section on object types).

-- the initializer is called on a new object, where its type has one
module _ (p : Program) where
  abbrev pub initialized : (slot : Option ℕ) → (type : ℕ) → Value → List Value → Doing Value
  initialized None t o vs = Val o
  initialized (Some k) t o vs = ask (Calls Initially (method_number p t k) (o ∷ vs))

-- its body is carried out, by an activity of its own or by its creator, where the type has one
abbrev pub carried_out : Program → (body_of : Option ℕ) → Value → Doing Value
carried_out p None o = Val o
carried_out p (Some b) o = if is_active p b then ask (Starts o) else ask (Calls ByCreator (body_number p b) (o ∷ []))

-- In a procedure's frame here, in a program.
module _ (p : Program) (here : Here) where
  -- a parameter or a local of the frame
  abbrev pub own_place : ℕ → Location
  own_place k = record { root = FrameRoot here.below; path = k ∷ []; type = 0; of = InFrame }

  -- what a parameter stands for is found in the frame, and no visible work
  abbrev pub passed : ℕ → Doing Location
  passed k = bind (ask (Places (own_place k))) (λ v. Val (place_in v))

  -- an open array parameter has a place, and behind it the lengths of its dimensions
  abbrev pub lengths_from : ℕ → (dimension many : ℕ) → Doing (List Value)
  lengths_from k d zero = Val []
  lengths_from k d (suc n) =
      bind (ask (Lengths (part_of (suc d) (own_place k)))) (λ v. bind (lengths_from k (suc d) n) (λ vs. Val (v ∷ vs)))

  abbrev pub opened : (number dimensions : ℕ) → Doing Found
  opened k j =
      bind (ask (Places (part_of 0 (own_place k)))) (λ v. bind (lengths_from k 0 j) (λ ns. found (place_in v) ns))

  -- operands are evaluated from left to right, and reading a scalar is visible; & and OR evaluate their second operand where
  -- the first doesn't tell
  abbrev mutual
    -- the place that a designator names: an index is evaluated once what it is of is found
    pub place_of : Place → Doing Location
    place_of (ModuleVar m i) = Val (record { root = ModuleRoot m; path = i ∷ []; type = 0; of = OfModule m i })
    place_of (Local k) = Val (own_place k)
    place_of (Passed k) = passed k
    place_of (Field q t k) = bind (place_of q) (λ s. Val (field_of p.types (id_of t) k s))
    place_of (Index q n t e) = bind (place_of q) (λ s. bind (value_of e) (λ v. element_of n v s))
    place_of (Of r) = bind (rows_of r) (λ x. Val x.place)
    place_of (Deref e t) = bind (value_of e) (λ v. dereferenced v)
    place_of (Typed q t) = bind (place_of q) (λ s. Val (record s { type = suc t }))
    place_of (Guarded q t) = bind (place_of q) (λ s. record_guarded p.types s t)

    pub rows_of : Rows → Doing Found
    rows_of (Known q ns) = bind (place_of q) (λ s. found s (map (λ n. Int (pos n)) ns))
    rows_of (Opened k j) = opened k j
    rows_of (Row r t e) = bind (rows_of r) (λ x. bind (value_of e) (λ v. row_at x v))
    rows_of (Spread e j) = bind (value_of e) (λ v. spread v j)
    rows_of (Longer r ns) = bind (rows_of r) (λ x. found x.place (x.lengths ++ map (λ n. Int (pos n)) ns))

    -- what is handed over, in order: a value, a place, or a place and its lengths
    pub arguments_of : Arguments → Doing (List Value)
    arguments_of NoMore = Val []
    arguments_of (Scalar e as') = bind (value_of e) (λ v. bind (arguments_of as') (λ vs. Val (v ∷ vs)))
    arguments_of (Whole q as') = bind (place_of q) (λ s. bind (arguments_of as') (λ vs. Val (PlaceValue s ∷ vs)))
    arguments_of (Opening r as') =
        bind (rows_of r) (λ x. bind (arguments_of as') (λ vs. Val (PlaceValue x.place ∷ (x.lengths ++ vs))))

    -- on what is called: a receiver or a procedure value, which is evaluated before the arguments, or SELF
    pub receiver_of : Callee → Doing Value
    receiver_of (Plain m k) = Val (Object 0)
    receiver_of (Dispatched e t k) = value_of e
    receiver_of (Upper t k) = Val (Object here.self)
    receiver_of (Through e t) = value_of e

    pub value_of : Expr → Doing Value
    value_of (Lit l) = Val (literal_value l)
    value_of SelfRef = Val (Object here.self)
    value_of (Read t q) = bind (place_of q) (λ s. ask (Reads t s))
    value_of (Unary op a) = bind (value_of a) (λ x. unary op x)
    value_of (Binary op a b) = bind (value_of a) (λ x. bind (value_of b) (λ y. binary op x y))
    value_of (And a b) = bind (value_of a) (λ x. if is_true x then value_of b else Val (Flag false))
    value_of (Or a b) = bind (value_of a) (λ x. if is_true x then Val (Flag true) else value_of b)
    value_of (Element a) = bind (value_of a) (λ x. element x)
    value_of (Ord a) = bind (value_of a) (λ x. Val (ord x))
    value_of (Chr a) = bind (value_of a) (λ x. chr x)
    value_of (CompareTexts r a b) =
        bind (rows_of a) (λ x. bind (rows_of b) (λ y. ask (ComparesTexts r x.place (text_length x) y.place (text_length y))))
    value_of (Len r d) = bind (rows_of r) (λ x. Val (length_at d x))
    value_of (LenBehind r n) = bind (rows_of r) (λ x. Val (Int (pos n)))
    value_of (Function c as') = bind (receiver_of c) (λ o. bind (arguments_of as') (λ vs. calls p c o vs))
    value_of (Same a b) = bind (value_of a) (λ x. bind (value_of b) (λ y. Val (Flag (object_in x == object_in y))))
    value_of (Is a t) = bind (value_of a) (λ v. is_instance v t)
    value_of (IsRecord q t) = bind (place_of q) (λ s. Val (Flag (has_type p.types s t)))
    value_of (Guard a t) = bind (value_of a) (λ v. guarded v t)
    value_of (ProcedureOf m k) = Val (Callable (procedure_number p m k) 0)
    value_of (MethodOf a t k) = bind (value_of a) (λ v. bound p v t k)
    value_of (SameProcedure a b) = bind (value_of a) (λ x. bind (value_of b) (λ y. Val (Flag (are_one x y))))
    value_of (Had v) = Val v

  abbrev pub called : Callee → Arguments → Doing Value
  called c as' = bind (receiver_of c) (λ o. bind (arguments_of as') (λ vs. calls p c o vs))

  abbrev pub values_of : List Expr → Doing (List Value)
  values_of [] = Val []
  values_of (e ∷ es) = bind (value_of e) (λ v. bind (values_of es) (λ vs. Val (v ∷ vs)))

-- What remains of a frame's statements: one that is to begin; the rounds of a FOR, with its last value and its step, each of which
-- begins; a LOOP, which begins again; what follows the statements of a REPEAT, which doesn't begin; a region that is to be entered, with
-- its statements; the mark of one that is open, which ends there; or the end of the frame, with a result, behind which nothing counts. The
-- last three aren't begun.
pub data Item : Type 0 where
  Do : Stat → Item
  Rounds : Pos → Width → Place → (last step : ℤ) → Stats → Item
  Round : Stat → Item
  Until : Pos → Stats → Expr → Item
  Region : Stats → Item
  End : Item
  Gives : Option Value → Item

abbrev pub items_of : Stats → List Item
items_of Nothing = []
items_of (Then s ss) = Do s ∷ items_of ss

-- statements that are a region where they are exclusive
abbrev pub block_items : (exclusive : Bool) → Stats → List Item
block_items true ss = Region ss ∷ []
block_items false ss = items_of ss

abbrev pub body_items : Body → List Item
body_items b = block_items b.is_exclusive b.statements

-- what follows a statement
pub data After : Type 0 where
  Into : List Item → After  -- these items take its place
  Returns : Option Value → After  -- the end of the frame, with this result
  Exits : After  -- what follows the innermost LOOP

-- what remains behind the innermost LOOP: the regions within it end before that
abbrev pub leave : List Item → List Item
leave [] = []
leave (Do s ∷ is) = leave is
leave (Rounds at w p last step b ∷ is) = leave is
leave (Round s ∷ is) = is
leave (Until at b e ∷ is) = leave is
leave (Region ss ∷ is) = leave is
leave (End ∷ is) = End ∷ leave is
leave (Gives r ∷ is) = Gives r ∷ []

-- what remains where the frame is left with a result: its regions end before that, the inner first
abbrev pub leave_all : Option Value → List Item → List Item
leave_all r [] = Gives r ∷ []
leave_all r (Do s ∷ is) = leave_all r is
leave_all r (Rounds at w p last step b ∷ is) = leave_all r is
leave_all r (Round s ∷ is) = leave_all r is
leave_all r (Until at b e ∷ is) = leave_all r is
leave_all r (Region ss ∷ is) = leave_all r is
leave_all r (End ∷ is) = End ∷ leave_all r is
leave_all r (Gives r' ∷ is) = Gives r ∷ []

-- the arm of a selector's value; trap 4 where none has it and there is no ELSE
abbrev pub is_in : ℤ → LabelRange → Bool
is_in z r = int_le r.low z && int_le z r.high

abbrev pub case_of : ℤ → Cases → Doing After
case_of z NoElse = Traps 4 0
case_of z (Else ss) = Val (Into (items_of ss))
case_of z (OfLabels rs ss cases) = if list_any (is_in z) rs then Val (Into (items_of ss)) else case_of z cases

-- how INC, DEC, INCL and EXCL change a value
abbrev pub changed_type : Changing → TType
changed_type (change.Add w) = Integer w
changed_type (change.Subtract w) = Integer w
changed_type change.Include = Set
changed_type change.Exclude = Set

abbrev pub changed : Changing → Value → Value → Doing Value
changed (change.Add w) v n = binary (Add w) v n
changed (change.Subtract w) v n = binary (Sub w) v n
changed change.Include v n = bind (element n) (λ x. binary Union v x)
changed change.Exclude v n = bind (element n) (λ x. binary Minus v x)

-- FOR: the variable is assigned, and then come its rounds, each with the test, the statements and the step
abbrev pub next_value : Pos → Width → Place → ℤ → Stat
next_value at w p step = Assign at (Integer w) p (Binary (Add w) (Read (Integer w) p) (Lit (literal.Int step)))

abbrev pub until : ℤ → Relation
until (pos n) = LessEqual
until (negsuc n) = GreaterEqual

abbrev pub pos_of : Stat → Pos
pos_of (Assign at t p e) = at
pos_of (Copy at t p q) = at
pos_of (PutText at strict a b) = at
pos_of (If at arms) = at
pos_of (Case at e cases) = at
pos_of (While at e body) = at
pos_of (Repeat at body e) = at
pos_of (Loop at body) = at
pos_of (Exit at) = at
pos_of (For at w p from to step body) = at
pos_of (Block at exclusive body) = at
pos_of (Await at n e) = at
pos_of (Assert at e code) = at
pos_of (Halt at code) = at
pos_of (Change at c p e) = at
pos_of (Perform at c as') = at
pos_of (Return at e) = at
pos_of (New at p t as') = at
pos_of (Make at p t ns) = at
pos_of (With at e body) = at
pos_of (WithRecord at p body) = at
pos_of (Out at call) = at

-- In a procedure's frame here, in a program.
module _ (p : Program) (here : Here) where
  abbrev place : Place → Doing Location
  place = place_of p here

  abbrev rows : Rows → Doing Found
  rows = rows_of p here

  abbrev value : Expr → Doing Value
  value = value_of p here

  abbrev pub out_of : Call → Doing After
  out_of OutOpen = bind (ask PutsNothing) (λ _. Val (Into []))
  out_of (OutChar e) = bind (value e) (λ x. bind (ask (PutsChar x)) (λ _. Val (Into [])))
  out_of (OutInt e n) =
      bind (value e) (λ x. bind (value n) (λ y. bind (ask (PutsInt x y)) (λ _. Val (Into []))))
  out_of (OutString r) = bind (rows r) (λ x. bind (ask (PutsString x.place (text_length x))) (λ _. Val (Into [])))
  out_of OutLn = bind (ask PutsLn) (λ _. Val (Into []))

  -- what is carried out where no test before holds
  abbrev pub arms_of : Arms → Doing After
  arms_of (Otherwise ss) = Val (Into (items_of ss))
  arms_of (Arm e ss arms) = bind (value e) (λ v. if is_true v then Val (Into (items_of ss)) else arms_of arms)

  abbrev pub rounds_of : Pos → Width → Place → ℤ → ℤ → Stats → Doing After
  rounds_of at w q last step b =
      bind (value (Read (Integer w) q)) (λ v.
      Val (Into (if holds (until step) (number_of v) last then items_of b ++ Do (next_value at w q step) ∷ Rounds at w q last step b ∷ [] else [])))

  -- what a statement that has begun does, and the items that take its place. A designator that is assigned is found before what
  -- it gets; what a variable is changed by is evaluated before it is read
  abbrev pub stat_of : Stat → Doing After
  stat_of (Assign at t q e) = bind (place q) (λ s. bind (value e) (λ v. bind (ask (Stores s v)) (λ _. Val (Into []))))
  stat_of (Copy at t q r) = bind (place q) (λ to. bind (place r) (λ from. bind (ask (Copies t from to)) (λ _. Val (Into []))))
  stat_of (PutText at strict a b) =
      bind (rows a) (λ x. bind (rows b) (λ y.
      bind (ask (PutsText strict x.place (text_length x) y.place (text_length y))) (λ _. Val (Into []))))
  stat_of (If at arms) = arms_of arms
  stat_of (Case at e cases) = bind (value e) (λ v. case_of (number_of v) cases)
  stat_of (While at e body) =
      bind (value e) (λ v. Val (Into (if is_true v then items_of body ++ Do (While at e body) ∷ [] else [])))
  stat_of (Repeat at body e) = Val (Into (items_of body ++ Until at body e ∷ []))
  stat_of (Loop at body) = Val (Into (items_of body ++ Round (Loop at body) ∷ []))
  stat_of (Exit at) = Val Exits
  stat_of (For at w q from to step body) =
      bind (value to) (λ v. Val (Into (Do (Assign at (Integer w) q from) ∷ Rounds at w q (number_of v) step body ∷ [])))
  stat_of (Block at exclusive body) = Val (Into (block_items exclusive body))
  stat_of (Await at n e) = bind (ask (Awaits n)) (λ _. Val (Into []))
  stat_of (Assert at e code) = bind (value e) (λ v. if is_true v then Val (Into []) else Traps 7 code)
  stat_of (Halt at code) = Traps 8 code
  stat_of (Change at c q e) =
      bind (place q) (λ s. bind (value e) (λ n. bind (ask (Reads (changed_type c) s)) (λ v.
      bind (changed c v n) (λ x. bind (ask (Stores s x)) (λ _. Val (Into []))))))
  stat_of (Perform at c as') = bind (called p here c as') (λ _. Val (Into []))
  stat_of (Return at None) = Val (Returns None)
  stat_of (Return at (Some e)) = bind (value e) (λ v. Val (Returns (Some v)))
  -- a variable is found, then the arguments are evaluated; the object is made, then its initializer is called, then it is stored in the
  -- variable, and then its body is carried out
  stat_of (New at q t as') =
      bind (place q) (λ s. bind (arguments_of p here as') (λ vs. bind (ask (Makes (suc t) [])) (λ o.
      bind (initialized p (initializer p t) t o vs) (λ _. bind (ask (Stores s o)) (λ _.
      bind (carried_out p (body_type p t) o) (λ _. Val (Into [])))))))
  -- a pointer is found, then the lengths are evaluated, and the record or the array is made and stored there
  stat_of (Make at q t ns) =
      bind (place q) (λ s. bind (values_of p here ns) (λ vs. bind (ask (Makes (suc t) vs)) (λ o. bind (ask (Stores s o)) (λ _. Val (Into [])))))
  stat_of (With at e body) = bind (value e) (λ _. Val (Into (items_of body)))
  stat_of (WithRecord at q body) = bind (place q) (λ _. Val (Into (items_of body)))
  stat_of (Out at call) = out_of call

  abbrev pub item_of : Item → Doing After
  item_of (Do s) = stat_of s
  item_of (Rounds at w q last step b) = rounds_of at w q last step b
  item_of (Round s) = stat_of s
  item_of (Until at b e) = bind (value e) (λ v. Val (Into (if is_true v then [] else Do (Repeat at b e) ∷ [])))
  -- these don't begin: they stand for themselves
  item_of (Region ss) = Val (Into (Region ss ∷ []))
  item_of End = Val (Into (End ∷ []))
  item_of (Gives r) = Val (Into (Gives r ∷ []))
