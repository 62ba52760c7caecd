-- What a frame's operands are on the paths of its procedure's code, and what instructions and silent work leave of them.
use Rattle.std.specs.Prelude.{◌≡◌, ◌<◌, ◌≤◌, ◌+◌, ℕ, suc, List, [], ◌∷◌, ◌++◌, Bool, true, false, Option, Some, None, length, drop, slice_get, IsTrue}
use Rattle.aos_base.specs.declared.text.Pos.{Pos}
use Rattle.aos_base.specs.Question.{Reads, Stores, Copies, PutsText, ComparesTexts, Calls, Ends, Makes, Starts, Enters, Leaves, Awaits, PutsInt, PutsChar, PutsString, PutsNothing, PutsLn, Places, Lengths, Opens, Sizes, Tests}
use Rattle.aos_base.specs.Rooted.{Made}
use Rattle.aos_code.specs.declared.instr.Cell.{Cell}
use Rattle.aos_code.specs.declared.instr.Kind.{Kind}
use Rattle.aos_code.specs.declared.instr.Kind.TheVariants.{N, R, C, A}
use Rattle.aos_code.specs.declared.instr.Instr.{Instr}
use Rattle.aos_code.specs.declared.instr.Instr.TheVariants.{Start, Enter, Leave, Await}
use Rattle.aos_code.specs.declared.image.ProcShape.{ProcShape}
use Rattle.aos_code.specs.declared.image.Image.{Image}
use Rattle.aos_code.specs.Numbered.{numbered}
use Rattle.aos_code.specs.Silent.{Stack, Keeps, Question, Begins, Fails, Decides, Stop, Work, Ended, Act, Goes, Puts, Takes, Looks, Sees, Stops, Look, AtCell, AtElements, IsType, AsType, AsMethod, AtSlot, Here, lost, is_of, act, on_act, walk, silent}
use Rattle.aos_sound.specs.declared.effect.Effect.{Effect}
use Rattle.aos_sound.specs.declared.effect.Effect.TheVariants.{Gives, Twice}
use Rattle.aos_sound.specs.Sound.{Kinds, Comes, row, is_begin, effect_of}
use Rattle.aos_sound.specs.Undecided.{IsUndecided}

-- each operand is of its kind, and there are as many operands as kinds
abbrev pub AreOf : Kinds → Stack → Type 0
AreOf [] [] = Unit {0}
AreOf [] (v ∷ vs) = ⊥
AreOf (k ∷ ks) [] = ⊥
AreOf (k ∷ ks) (v ∷ vs) = (is_of k v ≡ true) × AreOf ks vs

-- an instruction of this effect leaves one operand more than it finds, whatever they are
abbrev pub gives_more : Effect → Bool
gives_more (Gives k) = true
gives_more Twice = true
gives_more _ = false

-- the kind of a procedure's result, none where it has no result
abbrev pub result_of : Option ProcShape → Option Kind
result_of None = None
result_of (Some f) = f.result

-- a result is there where one is to be, and of this kind
abbrev pub IsResult : Option Kind → Option Cell → Type 0
IsResult None None = Unit {0}
IsResult None (Some v) = ⊥
IsResult (Some k) None = ⊥
IsResult (Some k) (Some v) = is_of k v ≡ true

-- the kind of a question's answer, none where it has no answer
abbrev pub answer_kind : List ProcShape → Question → Option Kind
answer_kind shapes (Reads k a) = Some k
answer_kind shapes (ComparesTexts r a n b m) = Some N
answer_kind shapes (Calls how p vs) = result_of (numbered shapes p)
answer_kind shapes (Makes t ns) = Some R
answer_kind shapes (Places a) = Some A
answer_kind shapes (Lengths a) = Some N
answer_kind shapes (Opens v) = Some A
answer_kind shapes (Sizes v d) = Some N
answer_kind shapes (Tests v t) = Some N
answer_kind shapes (Stores a v) = None
answer_kind shapes (Copies n from to) = None
answer_kind shapes (PutsText strict from n to room) = None
answer_kind shapes (Ends result) = None
answer_kind shapes (Starts v) = None
answer_kind shapes Enters = None
answer_kind shapes Leaves = None
answer_kind shapes (Awaits c) = None
answer_kind shapes (PutsInt v n) = None
answer_kind shapes (PutsChar v) = None
answer_kind shapes (PutsString a n) = None
answer_kind shapes PutsNothing = None
answer_kind shapes PutsLn = None

-- the kinds of what an object tells, which is nothing where it is called
abbrev pub told_kinds : Look → Kinds
told_kinds (AtCell c) = A ∷ []
told_kinds (AtElements j) = row j
told_kinds (IsType t) = N ∷ []
told_kinds (AsType t) = R ∷ []
told_kinds (AsMethod k) = C ∷ []
told_kinds (AtSlot k p vs) = []

-- in an image, as the procedure of this number, which has this code
module _ (image : Image) (own : ℕ) (code : List Instr) where
  -- a path comes to this place with operands of the kinds that these have
  abbrev pub StandsOn : (at : ℕ) → Stack → Type 0
  StandsOn at stack = (s : Kinds) × Comes image own code at s × AreOf s stack

  -- and so it does with any operand of this kind on top, where one is to be given
  abbrev pub StandsGiven : Option Kind → (at : ℕ) → Stack → Type 0
  StandsGiven None at stack = StandsOn at stack
  StandsGiven (Some k) at stack = (v : Cell) → is_of k v ≡ true → StandsOn at (v ∷ stack)

  -- and so it does with any operands of these kinds on top
  abbrev pub StandsTold : Kinds → (at : ℕ) → Stack → Type 0
  StandsTold ks at stack = (vs : List Cell) → AreOf ks vs → StandsOn at (vs ++ stack)

  -- Below the operands of the question of the instruction at this place lie these: behind it they stand on a path with the answer. At
  -- the end of the frame there are none, and the result is the procedure's. Before work that is left to the kernel they stand on a path
  -- too, at a start with the object on them.
  abbrev pub StandsAsked : Question → (at : ℕ) → Stack → Type 0
  StandsAsked (Ends result) at stack = (stack ≡ []) × IsResult (result_of (numbered image.shapes.items own)) result
  StandsAsked (Starts v) at stack = (slice_get code at ≡ Some Start) × StandsOn at (v ∷ stack) × StandsOn (at + 1) stack
  StandsAsked Enters at stack = (slice_get code at ≡ Some Enter) × StandsOn at stack × StandsOn (at + 1) stack
  StandsAsked Leaves at stack = (slice_get code at ≡ Some Leave) × StandsOn at stack × StandsOn (at + 1) stack
  StandsAsked (Awaits c) at stack = (slice_get code at ≡ Some (Await c)) × StandsOn at stack × StandsOn (at + 1) stack
  StandsAsked q at stack = StandsGiven (answer_kind image.shapes.items q) (at + 1) stack

  -- a statement begins there, and these stand before it and behind it
  abbrev pub StandsBegun : (to : ℕ) → Stack → Type 0
  StandsBegun to stack = IsTrue (is_begin (slice_get code to)) × StandsOn to stack × StandsOn (to + 1) stack

  -- behind the instruction that asks an object these stand on a path with what the object tells, or with the answer of the method that it
  -- calls
  abbrev pub StandsLooked : Look → (at : ℕ) → Stack → Type 0
  StandsLooked (AtSlot k p vs) at stack = StandsGiven (result_of (numbered image.shapes.items p)) at stack
  StandsLooked l at stack = StandsTold (told_kinds l) at stack

  -- what the instruction at this place leaves stands on a path where the code goes on
  abbrev pub StandsAfter : (at : ℕ) → Act → Type 0
  StandsAfter at (Goes over s) = StandsOn (at + 1 + over) s
  StandsAfter at (Puts c v s) = StandsOn (at + 1) s
  StandsAfter at (Takes c kind s) = StandsGiven (Some kind) (at + 1) s
  StandsAfter at (Looks l o s) = StandsLooked l (at + 1) s
  StandsAfter at (Sees q s) = StandsAsked q at s
  StandsAfter at (Stops (Begins to p s)) = StandsBegun to s
  StandsAfter at (Stops (Fails n c)) = Unit {0}
  StandsAfter at (Stops (Decides a)) = Unit {0}

  -- and so does what silent work has come to
  abbrev pub StandsStopped : Stop → Type 0
  StandsStopped (Work q at k s) = StandsAsked q at s
  StandsStopped (Ended (Begins to p s) k) = StandsBegun to s
  StandsStopped (Ended (Fails n c) k) = Unit {0}
  StandsStopped (Ended (Decides a) k) = Unit {0}

-- What holds of code whose paths are sound, as the procedure of this number and with this depth.
pub record KeepsToPaths (image : Image) (own : ℕ) (code : List Instr) (depth : ℕ) : Type 0 where
  -- a frame begins on a path
  pub begins : StandsOn image own code 0 []
  -- where a frame stands on a path, so does what each instruction leaves
  pub step : (here : Here) (at : ℕ) (i : Instr) (stack : Stack) → slice_get code at ≡ Some i → StandsOn image own code at stack → StandsAfter image own code at (act image.shapes.items image.types.items own here i code at stack)
  -- and so does what silent work goes on with after the instruction, whatever follows
  pub goes :
      (here : Here) (made : ℕ → Option Made) (cells : List Cell) (at : ℕ) (i : Instr) (k : Keeps) (stack : Stack) → slice_get code at ≡ Some i → StandsOn image own code at stack
      → (over : ℕ) (l : Keeps) (left : Stack)
      → ((next : ℕ → ℕ → Keeps → Stack → Stop) → on_act image.shapes.items image.types.items made cells (act image.shapes.items image.types.items own here i code at stack) next at k ≡ next over (at + 1) l left)
      → StandsOn image own code (at + 1 + over) left
  -- or what it comes to a Begin with
  pub begun :
      (here : Here) (made : ℕ → Option Made) (cells : List Cell) (at : ℕ) (i : Instr) (k : Keeps) (stack : Stack) → slice_get code at ≡ Some i → StandsOn image own code at stack
      → (to : ℕ) (p : Pos) (l : Keeps) (left : Stack)
      → ((next : ℕ → ℕ → Keeps → Stack → Stop) → on_act image.shapes.items image.types.items made cells (act image.shapes.items image.types.items own here i code at stack) next at k ≡ Ended (Begins to p left) l)
      → StandsBegun image own code to left
  -- and what all silent work comes to
  pub walk :
      (here : Here) (made : ℕ → Option Made) (cells : List Cell) (rest : List Instr) (over at : ℕ) (k : Keeps) (stack : Stack) → drop at code ≡ rest → StandsOn image own code (at + over) stack
      → StandsStopped image own code (walk image.shapes.items image.types.items made own here cells code rest over at k stack)
  pub work : (here : Here) (made : ℕ → Option Made) (cells : List Cell) (at : ℕ) (k : Keeps) (stack : Stack) → StandsOn image own code at stack → StandsStopped image own code (silent image.shapes.items image.types.items made own here cells code at k stack)
  -- a path stays within the code
  pub within : (at : ℕ) (stack : Stack) → StandsOn image own code at stack → at < length code
  -- there are no more operands than the depth
  pub room : (at : ℕ) (stack : Stack) → StandsOn image own code at stack → length stack ≤ depth
  -- and few enough where some are to be told by an object
  pub told : (at : ℕ) (ks : Kinds) (stack : Stack) → StandsTold image own code ks at stack → length ks + length stack ≤ depth
  -- and fewer where one is to be given: by an instruction that gives one more than it takes, or as an answer or a result
  pub more : (at : ℕ) (i : Instr) (stack : Stack) → slice_get code at ≡ Some i → StandsOn image own code at stack → gives_more (effect_of i) ≡ true → suc (length stack) ≤ depth
  pub given : (at : ℕ) (k : Kind) (stack : Stack) → StandsGiven image own code (Some k) at stack → suc (length stack) ≤ depth

-- what an instruction of a sound body finds is what it takes, but for what soundness doesn't decide
abbrev pub FindsAll : (image : Image) (own : ℕ) (code : List Instr) → Type 0
FindsAll image own code =
    (here : Here) (at : ℕ) (i : Instr) (stack : Stack) → slice_get code at ≡ Some i → StandsOn image own code at stack
    → act image.shapes.items image.types.items own here i code at stack ≡ Stops lost → IsUndecided image.shapes.items here i stack
