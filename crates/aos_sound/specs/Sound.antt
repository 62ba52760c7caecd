-- Soundness of a body: what may stand at its places, and what every path through it meets.
use Rattle.std.specs.Prelude.{◌≡◌, ◌≤◌, ℕ, zero, suc, ◌+◌, ◌-◌, List, [], ◌∷◌, ◌++◌, length, replicate, reverse, Bool, true, false, not, ◌&&◌, ◌||◌, Option, Some, None, nat_lt, nat_le, if◌then◌else◌, slice_get, IsTrue, ◌⊎◌, option_map}
use Rattle.aos_code.specs.declared.instr.Kind.{Kind}
use Rattle.aos_code.specs.declared.instr.Kind.TheVariants.{N, R, C, A}
use Rattle.aos_code.specs.declared.instr.Instr.{Instr}
use Rattle.aos_code.specs.declared.instr.Instr.TheVariants.{Num, Nil, NilCall, Proc, SelfRef, Virtual, CallValue, Deref, OpenRef, EqRef, EqCall, Bind, Is, IsPlace, Guard, GuardPlace, NewArray, Dup, Drop, Swap, Frame, Module, Param, Length, Offset, Index, IndexOpen, PickLen, Unary, Binary, Keep, Kept, Fail, Assert, Halt, Jump, JumpFalse, Begin, Load, Store, Copy, PutText, CmpText, Call, NewObject, Start, Enter, Leave, Await, Verdict, Return, OutChar, OutInt, OutString, OutLn, OutOpen}
use Rattle.aos_code.specs.declared.image.ModuleDesc.{ModuleDesc}
use Rattle.aos_code.specs.declared.image.ProcShape.{ProcShape}
use Rattle.aos_code.specs.declared.image.TypeDesc.{TypeDesc}
use Rattle.aos_code.specs.declared.image.Image.{Image}
use Rattle.aos_code.specs.Numbered.{numbered}
use Rattle.aos_code.specs.Silent.{kinds_of, keeps_in}
use Rattle.aos_sound.specs.declared.effect.Effect.{Effect}
use Rattle.aos_sound.specs.declared.effect.Effect.TheVariants.{Pass, Gives, Takes, TakesTwo, Turns, Joins, Twice, Drops, Swaps, Rows, Picks, Spreads, Makes, Texts, Calls, Sends, Applies, Returns}
use Rattle.aos_sound.specs.declared.effect.Next.{Next}
use Rattle.aos_sound.specs.declared.effect.Next.TheVariants.{Ends, On, To, Either}
use Rattle.aos_sound.specs.declared.stand.Role.{Role}
use Rattle.aos_sound.specs.declared.stand.Role.TheVariants.{Procedure, Condition}

-- the kinds of the operands, the topmost first
abbrev pub Kinds : Type 0
Kinds = List Kind

-- what each instruction takes and gives
abbrev pub effect_of : Instr → Effect
effect_of (Num n) = Gives N
effect_of Nil = Gives R
effect_of NilCall = Gives C
effect_of (Proc p) = Gives C
effect_of SelfRef = Gives R
effect_of Dup = Twice
effect_of Drop = Drops
effect_of Swap = Swaps
effect_of (Frame c) = Gives A
effect_of (Module m c) = Gives A
effect_of (Param c) = Gives A
effect_of (Length c) = Gives N
effect_of (Deref c) = Turns R A
effect_of (OpenRef j) = Spreads j
effect_of (Offset c t) = Turns A A
effect_of (Index n k) = Joins N A A
effect_of (IndexOpen j k) = Rows j
effect_of (PickLen d j) = Picks j
effect_of (Unary op) = Turns N N
effect_of (Binary op) = Joins N N N
effect_of EqRef = Joins R R N
effect_of EqCall = Joins C C N
effect_of (Bind k) = Turns R C
effect_of (Is t) = Turns R N
effect_of (IsPlace t) = Turns A N
effect_of (Guard t) = Turns R R
effect_of (GuardPlace t) = Turns A A
effect_of (Keep c k) = Takes k
effect_of (Kept c k) = Gives k
effect_of (Fail n) = Pass
effect_of (Assert c) = Takes N
effect_of (Halt c) = Pass
effect_of (Jump to) = Pass
effect_of (JumpFalse to) = Takes N
effect_of (Begin line col) = Pass
effect_of (Load k) = Turns A k
effect_of (Store k) = TakesTwo k A
effect_of (Copy n) = TakesTwo A A
effect_of (PutText strict) = Texts None
effect_of (CmpText r) = Texts (Some N)
effect_of (Call p) = Calls p
effect_of (Virtual k p) = Sends p
effect_of (CallValue p) = Applies p
effect_of (NewObject t) = Gives R
effect_of (NewArray t j) = Makes j
effect_of Start = Takes R
effect_of Enter = Pass
effect_of Leave = Pass
effect_of (Await c) = Pass
effect_of Verdict = Takes N
effect_of Return = Returns
effect_of OutChar = Takes N
effect_of OutInt = TakesTwo N N
effect_of OutString = TakesTwo N A
effect_of OutLn = Pass
effect_of OutOpen = Pass

-- where code goes on behind each instruction
abbrev pub next_of : Instr → Next
next_of (Fail n) = Ends
next_of (Halt c) = Ends
next_of Return = Ends
next_of Verdict = Ends
next_of (Jump to) = To to
next_of (JumpFalse to) = Either to
next_of _ = On

-- from this place the code may go on at that one
abbrev pub Leads : Next → (at to : ℕ) → Type 0
Leads Ends at to = ⊥
Leads On at to = to ≡ at + 1
Leads (To t) at to = to ≡ t
Leads (Either t) at to = (to ≡ t) ⊎ (to ≡ at + 1)

-- the two kinds are one
abbrev pub same_kind : Kind → Kind → Bool
same_kind N N = true
same_kind R R = true
same_kind C C = true
same_kind A A = true
same_kind _ _ = false

-- what is left where these are taken from the top, None where others are found
abbrev pub without : Kinds → Kinds → Option Kinds
without [] s = Some s
without (k ∷ ks) [] = None
without (k ∷ ks) (x ∷ s) = if same_kind k x then without ks s else None

-- with this one on top of what is left
abbrev pub topped : Kind → Option Kinds → Option Kinds
topped k below = option_map (λ s. k ∷ s) below

-- with these on top of what is left
abbrev pub all_topped : Kinds → Option Kinds → Option Kinds
all_topped new below = option_map (λ s. new ++ s) below

-- with this one on top of what is left, where there is one
abbrev pub given : Option Kind → Option Kinds → Option Kinds
given None below = below
given (Some k) below = topped k below

-- the place of an open array, and above it the lengths of so many dimensions
abbrev pub row : (j : ℕ) → Kinds
row j = replicate j N ++ A ∷ []

-- what is left below the topmost one
abbrev pub dropped : Kinds → Option Kinds
dropped [] = None
dropped (k ∷ s) = Some s

-- the topmost one once more
abbrev pub twice : Kinds → Option Kinds
twice [] = None
twice (k ∷ s) = Some (k ∷ k ∷ s)

-- the two topmost ones exchanged
abbrev pub swapped : Kinds → Option Kinds
swapped [] = None
swapped (k ∷ []) = None
swapped (k ∷ j ∷ s) = Some (j ∷ k ∷ s)

-- none, where there are none
abbrev pub if_empty : Kinds → Option Kinds
if_empty [] = Some []
if_empty (k ∷ s) = None

-- nothing is left where the result is taken, or where there is none nothing is there
abbrev pub alone : Option Kind → Kinds → Option Kinds
alone None s = if_empty s
alone (Some k) [] = None
alone (Some k) (x ∷ s) = if same_kind k x then if_empty s else None

-- the end of a procedure with this shape
abbrev pub returned : Option ProcShape → Kinds → Option Kinds
returned None s = None
returned (Some f) s = alone f.result s

-- a method is called on an object, which lies below its arguments
abbrev pub object_below : (method : Bool) → Kinds
object_below true = R ∷ []
object_below false = []

-- what a call of a procedure with this shape takes: the arguments, of which the last is the topmost, and the object, if it is called on one
abbrev pub taken : (method : Bool) → ProcShape → Kinds
taken method f = reverse (kinds_of f.params.items) ++ object_below method

-- it takes these and gives its result
abbrev pub called : Option ProcShape → Kinds → Option Kinds
called None s = None
called (Some f) s = given f.result (without (taken f.method f) s)

-- and so does a method for which one of this shape stands
abbrev pub sent : Option ProcShape → Kinds → Option Kinds
sent None s = None
sent (Some f) s = given f.result (without (taken true f) s)

-- and so does what a procedure value stands for, where that lies below the arguments of one of this shape
abbrev pub taken_applied : ProcShape → Kinds
taken_applied f = reverse (kinds_of f.params.items) ++ C ∷ []

abbrev pub applied : Option ProcShape → Kinds → Option Kinds
applied None s = None
applied (Some f) s = given f.result (without (taken_applied f) s)

-- a statement begins there
abbrev pub is_begin : Option Instr → Bool
is_begin (Some (Begin line col)) = true
is_begin _ = false

-- the code is that of a procedure
abbrev pub is_procedure : Role → Bool
is_procedure Procedure = true
is_procedure Condition = false

-- a jump stays in the code; where it doesn't go forth it goes to a Begin, and stands in no condition
abbrev pub may_jump : Role → List Instr → (to at : ℕ) → Bool
may_jump role code to at = nat_lt to (length code) && (nat_lt at to || (is_procedure role && is_begin (slice_get code to)))

-- a module has this place: that of one of its cells, or that behind the last one, where a variable without cells may stand
abbrev pub has_place : Option ModuleDesc → (c : ℕ) → Bool
has_place None c = false
has_place (Some m) c = nat_le c (length m.cells.items)

-- and so has a frame of a procedure of this shape
abbrev pub has_own_place : Option ProcShape → (c : ℕ) → Bool
has_own_place None c = false
has_own_place (Some f) c = nat_le c f.cells

-- how many cells a frame has that a procedure of this shape names, none where there is no such shape
abbrev pub frame_cells : Option ProcShape → ℕ
frame_cells None = 0
frame_cells (Some f) = f.cells

-- a procedure of this shape is called on an object
abbrev pub is_method : Option ProcShape → Bool
is_method None = false
is_method (Some f) = f.method

-- one of these types has a method in this slot
abbrev pub has_slot : List TypeDesc → (slot : ℕ) → Bool
has_slot [] k = false
has_slot (t ∷ ts) k = nat_lt k (length t.methods.items) || has_slot ts k

-- there is one
abbrev pub is_some : {X : Type 0} → Option X → Bool
is_some None = false
is_some (Some x) = true

-- the number of a type, or 0 for none
abbrev pub is_type_or_none : Image → (t : ℕ) → Bool
is_type_or_none image zero = true
is_type_or_none image (suc t) = is_some (numbered image.types.items (suc t))

-- in an image, as the procedure of this number
module _ (image : Image) (own : ℕ) where
  -- what may stand at a place, on a path or not: numbers name what the image and the procedure have, and a condition has no visible
  -- work but Load and CmpText, keeps nothing, and alone has a Verdict
  abbrev pub may_stand : Role → List Instr → (at : ℕ) → Instr → Bool
  may_stand role code at (Frame c) = has_own_place (numbered image.shapes.items own) c
  may_stand role code at (Module m c) = has_place (slice_get image.modules.items m) c
  may_stand role code at (Param c) = nat_lt c (frame_cells (numbered image.shapes.items own))
  may_stand role code at (Length c) = nat_lt c (frame_cells (numbered image.shapes.items own))
  may_stand role code at (Proc p) = is_some (numbered image.shapes.items p)
  may_stand role code at (Bind k) = has_slot image.types.items k
  may_stand role code at SelfRef = is_method (numbered image.shapes.items own)
  may_stand role code at (Offset c t) = is_type_or_none image t
  may_stand role code at (IndexOpen j k) = nat_lt 0 j
  may_stand role code at (PickLen d j) = nat_lt d j
  may_stand role code at (Keep c k) = is_procedure role && nat_lt c (keeps_in (numbered image.shapes.items own))
  may_stand role code at (Kept c k) = nat_lt c (keeps_in (numbered image.shapes.items own))
  may_stand role code at (Jump to) = may_jump role code to at
  may_stand role code at (JumpFalse to) = may_jump role code to at
  may_stand role code at (Call p) = is_procedure role && is_some (numbered image.shapes.items p)
  may_stand role code at (Virtual k p) = is_procedure role && (is_some (numbered image.shapes.items p) && has_slot image.types.items k)
  may_stand role code at (CallValue p) = is_procedure role && is_some (numbered image.shapes.items p)
  may_stand role code at (NewObject t) = is_procedure role && is_some (numbered image.types.items t)
  may_stand role code at (NewArray t j) = is_procedure role && is_some (numbered image.types.items t)
  may_stand role code at (Is t) = is_some (numbered image.types.items t)
  may_stand role code at (IsPlace t) = is_some (numbered image.types.items t)
  may_stand role code at (Guard t) = is_some (numbered image.types.items t)
  may_stand role code at (GuardPlace t) = is_some (numbered image.types.items t)
  may_stand role code at (Assert c) = is_procedure role
  may_stand role code at (Halt c) = is_procedure role
  may_stand role code at (Begin line col) = is_procedure role
  may_stand role code at (Store k) = is_procedure role
  may_stand role code at (Copy n) = is_procedure role
  may_stand role code at (PutText strict) = is_procedure role
  may_stand role code at Start = is_procedure role
  may_stand role code at Enter = is_procedure role
  may_stand role code at Leave = is_procedure role
  may_stand role code at (Await c) = is_procedure role && nat_lt c (length image.conds.items)
  may_stand role code at Verdict = not (is_procedure role)
  may_stand role code at Return = is_procedure role
  may_stand role code at OutChar = is_procedure role
  may_stand role code at OutInt = is_procedure role
  may_stand role code at OutString = is_procedure role
  may_stand role code at OutLn = is_procedure role
  may_stand role code at OutOpen = is_procedure role
  may_stand role code at _ = true

  -- the operands behind an instruction of this effect, None where it doesn't find what it takes
  abbrev pub left_by : Effect → Kinds → Option Kinds
  left_by Pass s = Some s
  left_by (Gives k) s = Some (k ∷ s)
  left_by (Takes k) s = without (k ∷ []) s
  left_by (TakesTwo k j) s = without (k ∷ j ∷ []) s
  left_by (Turns k r) s = topped r (without (k ∷ []) s)
  left_by (Joins k j r) s = topped r (without (k ∷ j ∷ []) s)
  left_by Twice s = twice s
  left_by Drops s = dropped s
  left_by Swaps s = swapped s
  left_by (Rows j) s = all_topped (row (j - 1)) (without (N ∷ row j) s)
  left_by (Picks j) s = topped N (without (row j) s)
  left_by (Spreads j) s = all_topped (row j) (without (R ∷ []) s)
  left_by (Makes j) s = topped R (without (replicate j N) s)
  left_by (Texts r) s = given r (without (N ∷ A ∷ N ∷ A ∷ []) s)
  left_by (Calls p) s = called (numbered image.shapes.items p) s
  left_by (Sends p) s = sent (numbered image.shapes.items p) s
  left_by (Applies p) s = applied (numbered image.shapes.items p) s
  left_by Returns s = returned (numbered image.shapes.items own) s

  -- the operands behind an instruction, on whichever way the code goes on
  abbrev pub after : Instr → Kinds → Option Kinds
  after i s = left_by (effect_of i) s

  -- a path from the beginning comes to this place with these operands
  pub data Comes (code : List Instr) : ℕ → Kinds → Type 0 where
    Begins : Comes code 0 []
    Goes : {at : ℕ} {s : Kinds} → Comes code at s → (i : Instr) → slice_get code at ≡ Some i → (t : Kinds) → after i s ≡ Some t → (to : ℕ) → Leads (next_of i) at to → Comes code to t

  -- an instruction stands at this place, and finds what it takes
  pub record Finds (code : List Instr) (at : ℕ) (s : Kinds) : Type 0 where
    pub instr : Instr
    pub stands : slice_get code at ≡ Some instr
    pub left : Kinds
    pub finds : after instr s ≡ Some left

  -- wherever a path comes it finds an instruction and what this takes, among at most `depth` operands, and all paths that come
  -- to one place come with the same kinds
  pub record ArePathsSound (code : List Instr) (depth : ℕ) : Type 0 where
    pub find : (at : ℕ) (s : Kinds) → Comes code at s → Finds code at s
    pub few : (at : ℕ) (s : Kinds) → Comes code at s → length s ≤ depth
    pub same : (at : ℕ) (s t : Kinds) → Comes code at s → Comes code at t → s ≡ t

  -- each instruction may stand where it does, and the paths are sound
  pub record IsSound (role : Role) (code : List Instr) (depth : ℕ) : Type 0 where
    pub stand : (at : ℕ) (i : Instr) → slice_get code at ≡ Some i → IsTrue (may_stand role code at i)
    pub paths : ArePathsSound code depth
