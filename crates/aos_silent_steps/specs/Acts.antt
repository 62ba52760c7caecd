-- What the processor's acts and questions show of the definitions.
use Rattle.std.specs.Prelude.{◌≡◌, ℕ, ℤ, ◌^◌, List, [], ◌∷◌, if◌then◌else◌, Option, Some, None, reverse, take, drop, slice_get, nat_lt, Vec}
use Rattle.std.specs.declared.alloc.Global.{Global}
use Rattle.aos_base.specs.Question.{ByName, Reads, Stores, Copies, PutsText, ComparesTexts, Calls, Ends, Makes, Starts, Enters, Leaves, Awaits, PutsInt, PutsChar, PutsString, PutsNothing, PutsLn}
use Rattle.aos_code.specs.declared.instr.Cell.{Cell}
use Rattle.aos_code.specs.declared.instr.Cell.TheVariants.{Num, Ref, Call as CallCell, Place}
use Rattle.aos_code.specs.declared.instr.Kind.{Kind}
use Rattle.aos_code.specs.declared.instr.Instr.{Instr}
use Rattle.aos_code.specs.declared.instr.Instr.TheVariants.{Begin}
use Rattle.aos_code.specs.Memory.{Addr}
use Rattle.aos_code.specs.Silent.{Stack, Question, Begins, Fails, Decides, Act, Goes, Sees, Stops, lost, is_of}
use Rattle.aos_silent_steps.specs.declared.act.Question.{Question as KeptQuestion}
use Rattle.aos_silent_steps.specs.declared.act.Question.TheVariants.{Reads as AsksRead, Stores as AsksStore, Copies as AsksCopy, PutsText as AsksPutText, ComparesTexts as AsksCompare, Calls as AsksCall, Ends as AsksEnd, Makes as AsksNew, Starts as AsksStart, Enters as AsksEnter, Leaves as AsksLeave, Awaits as AsksAwait, PutsInt as AsksInt, PutsChar as AsksChar, PutsString as AsksString, PutsNothing as AsksNothing, PutsLn as AsksLn}
use Rattle.aos_silent_steps.specs.declared.act.Address.{Address}
use Rattle.aos_silent_steps.specs.declared.act.Callable.{Callable}
use Rattle.aos_silent_steps.specs.declared.act.Way.{Way}
use Rattle.aos_silent_steps.specs.declared.act.Way.TheVariants.{Direct, Bound, Free}
use Rattle.aos_silent_steps.specs.declared.act.Act.{Act as KeptAct}
use Rattle.aos_silent_steps.specs.declared.act.Act.TheVariants.{Goes as GoesOn, Sees as Asks, Begins as BeginsAt, Fails as FailsWith, Decides as DecidesWith}

-- operands are kept with the topmost last
abbrev pub operands_in : Vec Cell Global → Stack
operands_in stack = reverse stack.items

abbrev pub addr_in : Address → Addr
addr_in p = record { root = p.root; cell = p.cell }

-- a procedure value as its object
abbrev pub as_object : Cell → Cell
as_object (Num a) = Num a
as_object (Ref o) = Ref o
as_object (CallCell p o) = Ref o
as_object (Place root cell type) = Place root cell type

abbrev pub first_as_object : List Cell → List Cell
first_as_object [] = []
first_as_object (v ∷ vs) = as_object v ∷ vs

-- the operands of a call that are handed over, among them a procedure value as it is
abbrev pub behind_value : Way → List Cell → List Cell
behind_value Direct vs = vs
behind_value Bound vs = vs
behind_value Free vs = drop 1 vs

-- the value as its object, where that is handed over
abbrev pub with_object : Way → List Cell → List Cell
with_object Direct vs = vs
with_object Bound vs = first_as_object vs
with_object Free vs = vs

-- what is handed over of the operands of a call
abbrev pub passed : Way → List Cell → List Cell
passed way vs = with_object way (behind_value way vs)

-- a question, where s are the operands from its own on; arguments of a call and lengths lie on the stack
abbrev pub question_in : KeptQuestion → Stack → Question
question_in (AsksRead kind p) s = Reads kind (addr_in p)
question_in (AsksStore p v) s = Stores (addr_in p) v
question_in (AsksCopy count from to) s = Copies count (addr_in from) (addr_in to)
question_in (AsksPutText strict from n to room) s = PutsText strict (addr_in from) (Num n) (addr_in to) (Num room)
question_in (AsksCompare r a n b m) s = ComparesTexts r (addr_in a) (Num n) (addr_in b) (Num m)
question_in (AsksCall p way count) s = Calls ByName p (passed way (reverse (take count s)))
question_in (AsksEnd result) s = Ends result
question_in (AsksNew t j) s = Makes t (reverse (take j s))
question_in (AsksStart o) s = Starts (Ref o)
question_in AsksEnter s = Enters
question_in AsksLeave s = Leaves
question_in (AsksAwait c) s = Awaits c
question_in (AsksInt a n) s = PutsInt (Num a) (Num n)
question_in (AsksChar a) s = PutsChar (Num a)
question_in (AsksString p n) s = PutsString (addr_in p) (Num n)
question_in AsksNothing s = PutsNothing
question_in AsksLn s = PutsLn

abbrev pub results : Option Cell → ℕ
results None = 0
results (Some v) = 1

-- how many operands a question has
abbrev pub operands_of : KeptQuestion → ℕ
operands_of (AsksRead kind p) = 1
operands_of (AsksStore p v) = 2
operands_of (AsksCopy count from to) = 2
operands_of (AsksPutText strict from n to room) = 4
operands_of (AsksCompare r a n b m) = 4
operands_of (AsksCall p way count) = count
operands_of (AsksEnd result) = results result
operands_of (AsksNew t j) = j
operands_of (AsksStart o) = 1
operands_of AsksEnter = 0
operands_of AsksLeave = 0
operands_of (AsksAwait c) = 0
operands_of (AsksInt a n) = 2
operands_of (AsksChar a) = 1
operands_of (AsksString p n) = 2
operands_of AsksNothing = 0
operands_of AsksLn = 0

-- an act, where the operands after it are s; those of a question lie there still
abbrev pub act_in : KeptAct → Stack → Act
act_in (GoesOn over) s = Goes over s
act_in (Asks q) s = Sees (question_in q s) (drop (operands_of q) s)
act_in (BeginsAt at pos) s = Stops (Begins at pos s)
act_in (FailsWith n c) s = Stops (Fails n c)
act_in (DecidesWith a) s = Stops (Decides a)

-- where silent work goes to a Begin, it stands there
abbrev pub IsBeginOf : List Instr → KeptAct → Type 0
IsBeginOf code (GoesOn over) = Unit {0}
IsBeginOf code (Asks q) = Unit {0}
IsBeginOf code (BeginsAt at pos) = slice_get code at ≡ Some (Begin pos.line pos.col)
IsBeginOf code (FailsWith n c) = Unit {0}
IsBeginOf code (DecidesWith a) = Unit {0}

-- at a question, at a trap, and at the end of a condition
abbrev pub WhereStays : KeptAct → Type 0 → Type 0
WhereStays (GoesOn over) P = Unit {0}
WhereStays (Asks q) P = P
WhereStays (BeginsAt at pos) P = Unit {0}
WhereStays (FailsWith n c) P = P
WhereStays (DecidesWith a) P = P

-- a jump asks nothing
abbrev pub IsJump : KeptAct → Type 0
IsJump (GoesOn over) = Unit {0}
IsJump (Asks q) = ⊥
IsJump (BeginsAt at pos) = Unit {0}
IsJump (FailsWith n c) = Unit {0}
IsJump (DecidesWith a) = ⊥

-- it only asks, traps or ends a condition
abbrev pub IsStay : KeptAct → Type 0
IsStay (GoesOn over) = ⊥
IsStay (Asks q) = Unit {0}
IsStay (BeginsAt at pos) = ⊥
IsStay (FailsWith n c) = Unit {0}
IsStay (DecidesWith a) = Unit {0}

abbrev pub number_in : Option Cell → Option ℤ
number_in None = None
number_in (Some (Num a)) = Some a
number_in (Some (Ref o)) = None
number_in (Some (CallCell p o)) = None
number_in (Some (Place root cell type)) = None

abbrev pub object_in : Option Cell → Option ℕ
object_in None = None
object_in (Some (Num a)) = None
object_in (Some (Ref o)) = Some o
object_in (Some (CallCell p o)) = None
object_in (Some (Place root cell type)) = None

abbrev pub callable_in : Option Cell → Option Callable
callable_in None = None
callable_in (Some (Num a)) = None
callable_in (Some (Ref o)) = None
callable_in (Some (CallCell p o)) = Some (record { procedure = p; object = o })
callable_in (Some (Place root cell type)) = None

abbrev pub address_in : Option Cell → Option Address
address_in None = None
address_in (Some (Num a)) = None
address_in (Some (Ref o)) = None
address_in (Some (CallCell p o)) = None
address_in (Some (Place root cell type)) = Some (record { root = root; cell = cell })

abbrev pub kind_in : Kind → Option Cell → Option Cell
kind_in kind None = None
kind_in kind (Some v) = if is_of kind v then Some v else None

-- code that lacks an operand is lost
abbrev pub or_lost : {A : Type 0} → Option A → (A → Act) → Act
or_lost None k = Stops lost
or_lost (Some a) k = k a

-- the number of a cell, where it has 32 bits
abbrev pub small : ℕ → Option ℕ
small n = if nat_lt n (2 ^ 32) then Some n else None
