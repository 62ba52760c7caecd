-- What each instruction does, and the silent work up to the next visible instruction.
use Rattle.std.specs.Prelude.{ℕ, zero, suc, ℤ, pos, negsuc, ◌+◌, ◌-◌, ◌*◌, ◌^◌, List, [], ◌∷◌, ◌++◌, length, map, reverse, Bool, true, false, ◌&&◌, Option, Some, None, option_and_then, nat_eq, nat_lt, if◌then◌else◌, slice_get, drop, replicate}
use Rattle.aos_base.specs.declared.text.Pos.{Pos}
use Rattle.aos_base.specs.declared.root.Root.{Root}
use Rattle.aos_base.specs.declared.root.Root.TheVariants.{Frame as FrameRoot, Module as ModuleRoot, Object as ObjectRoot}
use Rattle.aos_base.specs.declared.operator.Given.{Given}
use Rattle.aos_base.specs.declared.operator.Given.TheVariants.{Number, Trap, Undefined}
use Rattle.aos_base.specs.Question.{Ask, ByName, Reads, Stores, Copies, PutsText, ComparesTexts, Calls, Ends, Makes, Starts, Enters, Leaves, Awaits, PutsInt, PutsChar, PutsString, PutsNothing, PutsLn, Places, Lengths}
use Rattle.aos_base.specs.Rooted.{Made}
use Rattle.aos_base.specs.Operators.{unary, binary, natural, flag}
pub use Rattle.aos_base.specs.Frames.{Here}
use Rattle.aos_code.specs.declared.instr.Cell.{Cell}
use Rattle.aos_code.specs.declared.instr.Cell.TheVariants.{Num, Ref, Call as CallCell, Place}
use Rattle.aos_code.specs.declared.instr.Kind.{Kind}
use Rattle.aos_code.specs.declared.instr.Kind.TheVariants.{N, R, C, A}
use Rattle.aos_code.specs.declared.instr.Instr.{Instr}
use Rattle.aos_code.specs.declared.instr.Instr.TheVariants as instr
use Rattle.aos_code.specs.declared.image.ParamKind.{ParamKind}
use Rattle.aos_code.specs.declared.image.ParamKind.TheVariants as param
use Rattle.aos_code.specs.declared.image.ProcShape.{ProcShape}
use Rattle.aos_code.specs.declared.image.TypeDesc.{TypeDesc}
use Rattle.aos_code.specs.Memory.{Addr}
use Rattle.aos_code.specs.Numbered.{numbered}

-- the operands, the topmost first
abbrev pub Stack : Type 0
Stack = List Cell

-- what a frame keeps for its statements, by number
abbrev pub Keeps : Type 0
Keeps = ℕ → Cell

-- a scalar is known by its kind, and what is copied by its number of cells
abbrev pub Question : Type 0
Question = Ask Addr Cell Kind ℕ

-- where silent work ends without a question: at a Begin, with its place in the code and the text, with a trap, or at the end of a
-- condition, with the number that says whether it holds
pub data End : Type 0 where
  Begins : (at : ℕ) → (pos : Pos) → (stack : Stack) → End
  Fails : (number code : ℕ) → End
  Decides : (value : ℤ) → End

-- where silent work ends: at a question, with the place of its instruction and the operands below its own, or at an end
pub data Stop : Type 0 where
  Work : Question → (at : ℕ) → Keeps → (stack : Stack) → Stop
  Ended : End → Keeps → Stop

-- What an instruction asks an object for: the place of a cell; the place of its elements and its lengths, so many; whether its type
-- extends this one; itself, where that is so; its method in a slot, as a value with it; or that method, for which this procedure
-- stands, which it then calls with these arguments.
pub data Look : Type 0 where
  AtCell : (cell : ℕ) → Look
  AtElements : (dimensions : ℕ) → Look
  IsType : (type : ℕ) → Look
  AsType : (type : ℕ) → Look
  AsMethod : (slot : ℕ) → Look
  AtSlot : (slot procedure : ℕ) → (arguments : List Cell) → Look

-- What one instruction does: silent work after which so many instructions are passed over, a value that is kept or one that was
-- kept of this kind, what an object tells by what it was made as, a question, or an end.
pub data Act : Type 0 where
  Goes : (over : ℕ) → (stack : Stack) → Act
  Puts : (keep : ℕ) → Cell → (stack : Stack) → Act
  Takes : (keep : ℕ) → Kind → (stack : Stack) → Act
  Looks : Look → (object : ℕ) → (stack : Stack) → Act
  Sees : Question → (stack : Stack) → Act
  Stops : End → Act

-- code that finds another operand than it takes, or runs past its end
abbrev pub lost : End
lost = Fails 16 0

-- The operands.

abbrev pub is_of : Kind → Cell → Bool
is_of N (Num z) = true
is_of R (Ref o) = true
is_of C (CallCell p o) = true
is_of A (Place root cell type) = true
is_of _ _ = false

abbrev pub if_of : Kind → Cell → Act → Act
if_of kind v k = if is_of kind v then k else Stops lost

abbrev pub on_any : (Cell → Stack → Act) → Stack → Act
on_any k [] = Stops lost
on_any k (v ∷ s) = k v s

-- an operand of this kind
abbrev pub on_kind : Kind → (Cell → Stack → Act) → Stack → Act
on_kind kind k s = on_any (λ v s'. if_of kind v (k v s')) s

abbrev pub number_then : (ℤ → Act) → Cell → Act
number_then k (Num a) = k a
number_then k (Ref o) = Stops lost
number_then k (CallCell p o) = Stops lost
number_then k (Place root cell type) = Stops lost

abbrev pub on_number : (ℤ → Stack → Act) → Stack → Act
on_number k s = on_any (λ v s'. number_then (λ a. k a s') v) s

-- the second number is the topmost operand
abbrev pub on_numbers : (ℤ → ℤ → Stack → Act) → Stack → Act
on_numbers k s = on_number (λ b s1. on_number (λ a s2. k a b s2) s1) s

-- a place, with the dynamic type of a record there
abbrev pub place_then : (Addr → ℕ → Act) → Cell → Act
place_then k (Num a) = Stops lost
place_then k (Ref o) = Stops lost
place_then k (CallCell p o) = Stops lost
place_then k (Place root cell type) = k (record { root = root; cell = cell }) type

abbrev pub on_place : (Addr → ℕ → Stack → Act) → Stack → Act
on_place k s = on_any (λ v s'. place_then (λ a t. k a t s') v) s

-- a place and above it a length
abbrev pub on_text : (Addr → Cell → Stack → Act) → Stack → Act
on_text k s = on_kind N (λ n s1. on_place (λ a t s2. k a n s2) s1) s

abbrev pub length_then : ℤ → (ℕ → Act) → Act
length_then (pos n) k = k n
length_then (negsuc n) k = Stops lost

-- so many lengths, of which the last is the topmost operand, before these
abbrev pub lengths_on : ℕ → List ℕ → (List ℕ → Stack → Act) → Stack → Act
lengths_on zero ls k s = k ls s
lengths_on (suc j) ls k s = on_number (λ z s'. length_then z (λ n. lengths_on j (n ∷ ls) k s')) s

-- so many numbers, of which the last is the topmost operand, before these
abbrev pub counted_on : ℕ → List ℤ → (List ℤ → Stack → Act) → Stack → Act
counted_on zero zs k s = k zs s
counted_on (suc j) zs k s = on_number (λ z s'. counted_on j (z ∷ zs) k s') s

-- What instructions do.

abbrev pub duplicates : Stack → Act
duplicates s = on_any (λ v s'. Goes 0 (v ∷ v ∷ s')) s

abbrev pub swaps : Stack → Act
swaps s = on_any (λ v s1. on_any (λ w s2. Goes 0 (w ∷ v ∷ s2)) s1) s

abbrev pub gives : Cell → Stack → Act
gives v s = Goes 0 (v ∷ s)

-- a value of this kind lies above the place that it's stored at
abbrev pub stores : Kind → Stack → Act
stores kind s = on_kind kind (λ v s1. on_place (λ a t s2. Sees (Stores a v) s2) s1) s

abbrev pub given : Given → Stack → Act
given (Number z) s = gives (Num z) s
given (Trap n) s = Stops (Fails n 0)
given Undefined s = Stops lost

abbrev pub asserts : ℕ → ℤ → Stack → Act
asserts code (pos zero) s = Stops (Fails 7 code)
asserts code (pos (suc zero)) s = Goes 0 s
asserts code (pos (suc (suc n))) s = Stops lost
asserts code (negsuc n) s = Stops lost

-- Objects.

abbrev pub object_then : (ℕ → Act) → Cell → Act
object_then k (Num z) = Stops lost
object_then k (Ref o) = k o
object_then k (CallCell p o) = Stops lost
object_then k (Place root cell type) = Stops lost

abbrev pub on_object : (ℕ → Stack → Act) → Stack → Act
on_object k s = on_any (λ v s'. object_then (λ o. k o s') v) s

abbrev pub unless_nil : ℕ → (at_nil otherwise : Act) → Act
unless_nil zero a b = a
unless_nil (suc o) a b = b

-- what an object is asked for; NIL is none
abbrev pub looks : Look → (at_nil : Stack → Act) → Stack → Act
looks l at_nil s = on_object (λ o s'. unless_nil o (at_nil s') (Looks l o s')) s

abbrev pub on_objects : (ℕ → ℕ → Stack → Act) → Stack → Act
on_objects k s = on_object (λ b s1. on_object (λ a s2. k a b s2) s1) s

-- a type extends another one where it is that one, or its base extends it
abbrev pub on_base : (ℕ → Bool) → Option TypeDesc → Bool
on_base k None = false
on_base k (Some t) = k t.base

abbrev pub extends_by : ℕ → List TypeDesc → (type other : ℕ) → Bool
extends_by zero types d t = nat_eq d t
extends_by (suc n) types d t = if nat_eq d t then true else on_base (λ b. extends_by n types b t) (numbered types d)

abbrev pub extends : List TypeDesc → (type other : ℕ) → Bool
extends types d t = extends_by (length types) types d t

-- cells have numbers of 32 bits
abbrev pub gives_place : Root → (cell type : ℕ) → List Cell → Stack → Act
gives_place root cell type above s =
    if nat_lt cell (2 ^ 32) then Goes 0 (above ++ Place root cell type ∷ s) else Stops lost

-- the element of this number, each having so many cells, below these operands
abbrev pub element : Addr → Option ℕ → ℕ → List Cell → Stack → Act
element a None k above s = Stops (Fails 2 0)
element a (Some i) k above s = gives_place a.root (a.cell + i * k) 0 above s

abbrev pub indexes : (elements cells : ℕ) → Stack → Act
indexes n k s = on_number (λ z s1. on_place (λ a t s2. element a (natural n z) k [] s2) s1) s

-- how many cells an element has that is an array of these lengths
abbrev pub cells_of : List ℕ → ℕ → ℕ
cells_of [] k = k
cells_of (n ∷ ns) k = n * cells_of ns k

abbrev pub length_cells : List ℕ → List Cell
length_cells ns = reverse (map (λ n. Num (pos n)) ns)

abbrev pub in_rows : List ℕ → ℤ → ℕ → Stack → Act
in_rows [] z k s = Stops lost
in_rows (n ∷ ns) z k s = on_place (λ a t s'. element a (natural n z) (cells_of ns k) (length_cells ns) s') s

abbrev pub indexes_open : (lengths cells : ℕ) → Stack → Act
indexes_open j k s = on_number (λ z s1. lengths_on j [] (λ ns s2. in_rows ns z k s2) s1) s

abbrev pub gives_picked : Option ℤ → Stack → Act
gives_picked None s = Stops lost
gives_picked (Some z) s = gives (Num z) s

-- a length is given as it is found, also where no array has it
abbrev pub picks : (number lengths : ℕ) → Stack → Act
picks d j s = counted_on j [] (λ zs s1. on_place (λ a t s2. gives_picked (slice_get zs d) s2) s1) s

-- the kinds of what is handed over for parameters, in their order
abbrev pub kinds_of : List ParamKind → List Kind
kinds_of [] = []
kinds_of (param.Scalar k ∷ ps) = k ∷ kinds_of ps
kinds_of (param.Whole n ∷ ps) = A ∷ kinds_of ps
kinds_of (param.Place ∷ ps) = A ∷ kinds_of ps
kinds_of (param.Open d v n ∷ ps) = A ∷ (replicate d N ++ kinds_of ps)

-- operands of these kinds, the first of them topmost, before these
abbrev pub on_kinds : List Kind → List Cell → (List Cell → Stack → Act) → Stack → Act
on_kinds [] vs k s = k vs s
on_kinds (kind ∷ kinds) vs k s = on_kind kind (λ v s'. on_kinds kinds (v ∷ vs) k s') s

-- the object on which a method is called lies below its arguments, and comes before them in the call
abbrev pub on_receiver : (ℕ → Stack → Act) → Stack → Act
on_receiver k s = on_object (λ o s'. unless_nil o (Stops (Fails 1 0)) (k o s')) s

abbrev pub called : (method : Bool) → ℕ → List Cell → Stack → Act
called true p vs s = on_receiver (λ o s'. Sees (Calls ByName p (Ref o ∷ vs)) s') s
called false p vs s = Sees (Calls ByName p vs) s

abbrev pub on_arguments : ProcShape → (List Cell → Stack → Act) → Stack → Act
on_arguments f k s = on_kinds (reverse (kinds_of f.params.items)) [] k s

abbrev pub calls : Option ProcShape → ℕ → Stack → Act
calls None p s = Stops lost
calls (Some f) p s = on_arguments f (λ vs s'. called f.method p vs s') s

abbrev pub sends : Option ProcShape → (slot procedure : ℕ) → Stack → Act
sends None slot p s = Stops lost
sends (Some f) slot p s = on_arguments f (λ vs s'. on_receiver (λ o s''. Looks (AtSlot slot p vs) o s'') s') s

-- Procedure values.

abbrev pub callable_then : (ℕ → ℕ → Act) → Cell → Act
callable_then k (Num z) = Stops lost
callable_then k (Ref o) = Stops lost
callable_then k (CallCell p o) = k p o
callable_then k (Place root cell type) = Stops lost

abbrev pub on_callable : (ℕ → ℕ → Stack → Act) → Stack → Act
on_callable k s = on_any (λ v s'. callable_then (λ p o. k p o s') v) s

abbrev pub are_one : (procedure object other its : ℕ) → Bool
are_one p o q i = nat_eq p q && nat_eq o i

abbrev pub on_callables : (ℕ → ℕ → ℕ → ℕ → Stack → Act) → Stack → Act
on_callables k s = on_callable (λ q i s1. on_callable (λ p o s2. k p o q i s2) s1) s

-- parameters and results that are the same
abbrev pub same_kind : Kind → Kind → Bool
same_kind N N = true
same_kind R R = true
same_kind C C = true
same_kind A A = true
same_kind _ _ = false

abbrev pub same_param : ParamKind → ParamKind → Bool
same_param (param.Scalar k) (param.Scalar l) = same_kind k l
same_param (param.Whole n) (param.Whole m) = nat_eq n m
same_param param.Place param.Place = true
same_param (param.Open d true n) (param.Open e true m) = nat_eq d e && nat_eq n m
same_param (param.Open d false n) (param.Open e false m) = nat_eq d e && nat_eq n m
same_param _ _ = false

abbrev pub same_params : List ParamKind → List ParamKind → Bool
same_params [] [] = true
same_params (p ∷ ps) (q ∷ qs) = same_param p q && same_params ps qs
same_params _ _ = false

abbrev pub same_result : Option Kind → Option Kind → Bool
same_result None None = true
same_result (Some k) (Some l) = same_kind k l
same_result _ _ = false

abbrev pub same_formals : ProcShape → ProcShape → Bool
same_formals f g = same_params f.params.items g.params.items && same_result f.result g.result

-- what a procedure value stands for is called, a method on an object and another procedure on none
abbrev pub applies_to : (is_same method : Bool) → (procedure object : ℕ) → List Cell → Stack → Act
applies_to true true p (suc o) vs s = Sees (Calls ByName p (Ref (suc o) ∷ vs)) s
applies_to true false p zero vs s = Sees (Calls ByName p vs) s
applies_to is_same method p o vs s = Stops lost

abbrev pub applies_as : Option ProcShape → ProcShape → (procedure object : ℕ) → List Cell → Stack → Act
applies_as None g p o vs s = Stops lost
applies_as (Some f) g p o vs s = applies_to (same_formals f g) f.method p o vs s

abbrev pub applies : List ProcShape → ProcShape → (procedure object : ℕ) → List Cell → Stack → Act
applies shapes g zero o vs s = Stops (Fails 1 0)
applies shapes g (suc p) o vs s = applies_as (numbered shapes (suc p)) g (suc p) o vs s

abbrev pub calls_value : List ProcShape → Option ProcShape → Stack → Act
calls_value shapes None s = Stops lost
calls_value shapes (Some g) s = on_arguments g (λ vs s'. on_callable (λ p o s''. applies shapes g p o vs s'') s') s

-- the object on which the frame's procedure is called
abbrev pub gives_self : ℕ → Stack → Act
gives_self zero s = Stops lost
gives_self (suc o) s = gives (Ref (suc o)) s

abbrev pub ends : Option ProcShape → Stack → Act
ends None s = Stops lost
ends (Some f) s = with_result f.result s
  where
    with_result : Option Kind → Stack → Act
    with_result None s = Sees (Ends None) s
    with_result (Some k) s = on_kind k (λ v s'. Sees (Ends (Some v)) s') s

-- a jump back comes to a Begin, which is visible work
abbrev pub lands : Option Instr → ℕ → Stack → Act
lands (Some (instr.Begin line col)) to s = Stops (Begins to (record { line = line; col = col }) s)
lands _ to s = Stops lost

module _ (code : List Instr) (to at : ℕ) where
  abbrev pub jumps : Stack → Act
  jumps s = if nat_lt at to then Goes (to - (at + 1)) s else lands (slice_get code to) to s

  abbrev pub jumps_on_false : ℤ → Stack → Act
  jumps_on_false (pos zero) s = jumps s
  jumps_on_false (pos (suc zero)) s = Goes 0 s
  jumps_on_false (pos (suc (suc n))) s = Stops lost
  jumps_on_false (negsuc n) s = Stops lost

abbrev pub keeps_in : Option ProcShape → ℕ
keeps_in None = 0
keeps_in (Some f) = f.keeps

-- where a frame of this shape keeps something under this number
abbrev pub if_kept : ℕ → Option ProcShape → Act → Act
if_kept c shape k = if nat_lt c (keeps_in shape) then k else Stops lost

-- in a frame of procedure `own`, above so many others of its activity
module _ (shapes : List ProcShape) (types : List TypeDesc) (own : ℕ) (here : Here) where
  abbrev pub own_place : ℕ → Addr
  own_place c = record { root = FrameRoot here.below; cell = c }

  -- the instruction at this place of the code
  abbrev pub act : Instr → List Instr → ℕ → Stack → Act
  act (instr.Num n) code at s = gives (Num n) s
  act instr.Nil code at s = gives (Ref 0) s
  act instr.SelfRef code at s = gives_self here.self s
  act instr.Dup code at s = duplicates s
  act instr.Drop code at s = on_any (λ v s'. Goes 0 s') s
  act instr.Swap code at s = swaps s
  act (instr.Frame c) code at s = gives (Place (FrameRoot here.below) c 0) s
  act (instr.Module m c) code at s = gives (Place (ModuleRoot m) c 0) s
  act (instr.Param c) code at s = Sees (Places (own_place c)) s
  act (instr.Length c) code at s = Sees (Lengths (own_place c)) s
  act (instr.Deref c) code at s = looks (AtCell c) (λ s'. Stops (Fails 1 0)) s
  act (instr.OpenRef j) code at s = looks (AtElements j) (λ s'. Stops (Fails 1 0)) s
  act (instr.Offset c t) code at s = on_place (λ a u s'. gives_place a.root (a.cell + c) t [] s') s
  act (instr.Index n k) code at s = indexes n k s
  act (instr.IndexOpen j k) code at s = indexes_open j k s
  act (instr.PickLen d j) code at s = picks d j s
  act (instr.Unary op) code at s = on_number (λ a s'. given (unary op a) s') s
  act (instr.Binary op) code at s = on_numbers (λ a b s'. given (binary op a b) s') s
  act instr.NilCall code at s = gives (CallCell 0 0) s
  act (instr.Proc p) code at s = gives (CallCell p 0) s
  act instr.EqCall code at s = on_callables (λ p o q i s'. gives (Num (flag (are_one p o q i))) s') s
  act (instr.Bind k) code at s = looks (AsMethod k) (λ s'. Stops (Fails 1 0)) s
  act instr.EqRef code at s = on_objects (λ a b s'. gives (Num (flag (nat_eq a b))) s') s
  act (instr.Is t) code at s = looks (IsType t) (λ s'. gives (Num (pos 0)) s') s
  act (instr.IsPlace t) code at s = on_place (λ a d s'. gives (Num (flag (extends types d t))) s') s
  act (instr.Guard t) code at s = looks (AsType t) (λ s'. Stops (Fails 3 0)) s
  act (instr.GuardPlace t) code at s =
      on_place (λ a d s'. if extends types d t then gives (Place a.root a.cell d) s' else Stops (Fails 3 0)) s
  act (instr.Keep c k) code at s = if_kept c (numbered shapes own) (on_kind k (λ v s'. Puts c v s') s)
  act (instr.Kept c k) code at s = if_kept c (numbered shapes own) (Takes c k s)
  act (instr.Fail n) code at s = Stops (Fails n 0)
  act (instr.Assert c) code at s = on_number (λ a s'. asserts c a s') s
  act (instr.Halt c) code at s = Stops (Fails 8 c)
  act (instr.Jump to) code at s = jumps code to at s
  act (instr.JumpFalse to) code at s = on_number (λ a s'. jumps_on_false code to at a s') s
  act (instr.Begin line col) code at s = Stops (Begins at (record { line = line; col = col }) s)
  act (instr.Load kind) code at s = on_place (λ a t s'. Sees (Reads kind a) s') s
  act (instr.Store kind) code at s = stores kind s
  act (instr.Copy n) code at s = on_place (λ from t s1. on_place (λ to u s2. Sees (Copies n from to) s2) s1) s
  act (instr.PutText strict) code at s = on_text (λ to room s1. on_text (λ from n s2. Sees (PutsText strict from n to room) s2) s1) s
  act (instr.CmpText r) code at s = on_text (λ b m s1. on_text (λ a n s2. Sees (ComparesTexts r a n b m) s2) s1) s
  act (instr.Call p) code at s = calls (numbered shapes p) p s
  act (instr.Virtual k p) code at s = sends (numbered shapes p) k p s
  act (instr.CallValue p) code at s = calls_value shapes (numbered shapes p) s
  act (instr.NewObject t) code at s = Sees (Makes t []) s
  act (instr.NewArray t j) code at s = counted_on j [] (λ zs s'. Sees (Makes t (map (λ z. Num z) zs)) s') s
  act instr.Start code at s = on_kind R (λ o s'. Sees (Starts o) s') s
  act instr.Enter code at s = Sees Enters s
  act instr.Leave code at s = Sees Leaves s
  act (instr.Await c) code at s = Sees (Awaits c) s
  act instr.Verdict code at s = on_number (λ a s'. Stops (Decides a)) s
  act instr.Return code at s = ends (numbered shapes own) s
  act instr.OutChar code at s = on_kind N (λ c s'. Sees (PutsChar c) s') s
  act instr.OutInt code at s = on_kind N (λ n s1. on_kind N (λ v s2. Sees (PutsInt v n) s2) s1) s
  act instr.OutString code at s = on_text (λ a n s'. Sees (PutsString a n) s') s
  act instr.OutLn code at s = Sees PutsLn s
  act instr.OutOpen code at s = Sees PutsNothing s

-- Silent questions are answered at once, by the frame's own cells.

pub data Noted : Type 0 where
  Visible : Noted
  Answered : Cell → Noted
  Unknown : Noted

abbrev pub noted_as : Kind → Option Cell → Noted
noted_as kind None = Unknown
noted_as kind (Some v) = if is_of kind v then Answered v else Unknown

abbrev pub noted : List Cell → Question → Noted
noted cells (Places a) = noted_as A (slice_get cells a.cell)
noted cells (Lengths a) = noted_as N (slice_get cells a.cell)
noted cells q = Visible

abbrev pub on_noted : Noted → Question → (ℕ → ℕ → Keeps → Stack → Stop) → ℕ → Keeps → Stack → Stop
on_noted Visible q next at k s = Work q at k s
on_noted (Answered v) q next at k s = next 0 (at + 1) k (v ∷ s)
on_noted Unknown q next at k s = Ended lost k

-- What an object tells is answered at once, by what it was made as: these operands, a trap, a call, or nothing, where there is no such
-- object, it has another number of lengths, or its type has another method in the slot than it should.
pub data Told : Type 0 where
  Tells : List Cell → Told
  Refuses : (number : ℕ) → Told
  Invokes : (procedure : ℕ) → (arguments : List Cell) → Told
  Unheard : Told

-- a method that may be called where the other one is named
abbrev pub stands_for : Option ProcShape → Option ProcShape → Bool
stands_for (Some f) (Some g) = f.method && same_formals f g
stands_for _ _ = false

module _ (shapes : List ProcShape) (p : ℕ) where
  abbrev pub invoked : Option ℕ → (object : ℕ) → List Cell → Told
  invoked None o vs = Unheard
  invoked (Some q) o vs = if stands_for (numbered shapes q) (numbered shapes p) then Invokes q (Ref o ∷ vs) else Unheard

abbrev pub method_at : List TypeDesc → (type slot : ℕ) → Option ℕ
method_at types t k = option_and_then (λ d. slice_get d.methods.items k) (numbered types t)

abbrev pub bound : Option ℕ → (object : ℕ) → Told
bound None o = Unheard
bound (Some q) o = Tells (CallCell q o ∷ [])

module _ (shapes : List ProcShape) (types : List TypeDesc) where
  abbrev pub told_by : Look → (object : ℕ) → Option Made → Told
  told_by l o None = Unheard
  told_by (AtCell c) o (Some m) = Tells (Place (ObjectRoot o) c m.type ∷ [])
  told_by (AtElements j) o (Some m) =
      if nat_eq j (length m.lengths) then Tells (length_cells m.lengths ++ Place (ObjectRoot o) 0 0 ∷ []) else Unheard
  told_by (IsType t) o (Some m) = Tells (Num (flag (extends types m.type t)) ∷ [])
  told_by (AsType t) o (Some m) = if extends types m.type t then Tells (Ref o ∷ []) else Refuses 3
  told_by (AsMethod k) o (Some m) = bound (method_at types m.type k) o
  told_by (AtSlot k p vs) o (Some m) = invoked shapes p (method_at types m.type k) o vs

abbrev pub on_told : Told → (ℕ → ℕ → Keeps → Stack → Stop) → ℕ → Keeps → Stack → Stop
on_told (Tells vs) next at k s = next 0 (at + 1) k (vs ++ s)
on_told (Refuses n) next at k s = Ended (Fails n 0) k
on_told (Invokes q vs) next at k s = Work (Calls ByName q vs) at k s
on_told Unheard next at k s = Ended lost k

-- the value kept under a number
abbrev pub kept : ℕ → Cell → Keeps → Keeps
kept c v k = λ x. if nat_eq x c then v else k x

-- beside a frame's cells stands what objects are known to be made as
module _ (shapes : List ProcShape) (types : List TypeDesc) (made : ℕ → Option Made) (cells : List Cell) where
  abbrev pub on_act : Act → (ℕ → ℕ → Keeps → Stack → Stop) → ℕ → Keeps → Stop
  on_act (Goes over s) next at k = next over (at + 1) k s
  on_act (Puts c v s) next at k = next 0 (at + 1) (kept c v k) s
  on_act (Takes c kind s) next at k = if is_of kind (k c) then next 0 (at + 1) k (k c ∷ s) else Ended lost k
  on_act (Looks l o s) next at k = on_told (told_by shapes types l o (made o)) next at k s
  on_act (Sees q s) next at k = on_noted (noted cells q) q next at k s
  on_act (Stops end) next at k = Ended end k

module _ (shapes : List ProcShape) (types : List TypeDesc) (made : ℕ → Option Made) (own : ℕ) (here : Here) (cells : List Cell) where
  -- silent work over the instructions from `at` on, of which the first `over` are passed over
  abbrev pub walk : List Instr → List Instr → (over at : ℕ) → Keeps → Stack → Stop
  walk code [] over at k s = Ended lost k
  walk code (i ∷ rest) zero at k s = on_act shapes types made cells (act shapes types own here i code at s) (walk code rest) at k
  walk code (i ∷ rest) (suc n) at k s = walk code rest n (at + 1) k s

  -- silent work from a place of the code
  abbrev pub silent : List Instr → ℕ → Keeps → Stack → Stop
  silent code at k s = walk code (drop at code) 0 at k s
