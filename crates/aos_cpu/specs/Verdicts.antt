-- Evaluating a condition over the topmost frame, which stands in it with operands of its own as long as that lasts.
use Rattle.std.specs.Prelude.{◌≡◌, ◌<◌, ◌≤◌, ◌+◌, ◌-◌, ◌^◌, ℕ, List, [], ◌∷◌, length, drop, Option, Some, None, slice_get, slice_set, vec_capacity, Vec}
use Rattle.std.specs.declared.alloc.Global.{Global}
use Rattle.aos_base.specs.declared.kernel.Verdict.{Verdict}
use Rattle.aos_base.specs.declared.kernel.Verdict.TheVariants.{Fails}
use Rattle.aos_base.specs.Rooted.{Made, Rooted}
use Rattle.aos_code.specs.declared.instr.Cell.{Cell}
use Rattle.aos_code.specs.declared.instr.Instr.{Instr}
use Rattle.aos_code.specs.declared.image.Image.{Image}
use Rattle.aos_code.specs.Memory.{Memory}
use Rattle.aos_code.specs.Silent.{Keeps, Stack, Work}
use Rattle.aos_code.specs.Machine.{Frame, condition_of, judged, verdict_from}
use Rattle.aos_store.specs.declared.frames.Frame.{Frame as KeptFrame}
use Rattle.aos_store.specs.Store.{frame_in}
use Rattle.aos_store.specs.Room.{HasMoreRoom}
use Rattle.aos_silent_steps.specs.declared.act.Question.{Question as KeptQuestion}
use Rattle.aos_silent_steps.specs.declared.silent.Stop.{Stop as KeptStop}
use Rattle.aos_silent_steps.specs.Acts.{question_in, operands_of}
use Rattle.aos_silent_steps.specs.Silent.{stop_in, silent_with, IsStopOf}
use Rattle.aos_silent_steps.specs.Conditions.{need, HasRoomFor, AsksInRoom, HasMoved}

-- the topmost frame, and frames with another one in its place
abbrev pub IsTop : List KeptFrame → KeptFrame → Type 0
IsTop fs f = slice_get fs (length fs - 1) ≡ Some f

abbrev pub with_top : List KeptFrame → KeptFrame → List KeptFrame
with_top fs g = slice_set fs (length fs - 1) g

-- it has only moved, and has as much room at least
pub record TopHasMoved (old new : List KeptFrame) (f : KeptFrame) : Type 0 where
  pub top : KeptFrame
  pub put : new ≡ with_top old top
  pub moves : HasMoved (frame_in f) (frame_in top)
  pub more : HasMoreRoom f top

-- there is room for all operands that the rest of the code may give it
abbrev pub TopHasRoom : List Instr → List KeptFrame → Type 0
TopHasRoom code fs = (f : KeptFrame) → IsTop fs f → HasRoomFor code f

-- there is one, above fewer than 2^32
pub record HasTop (fs : List KeptFrame) : Type 0 where
  pub some : 0 < length fs
  pub few : length fs ≤ 2 ^ 32

-- it stands at this place, with these operands in the place of its own, and its place and operands have been given
pub record HasSwapped (f : KeptFrame) (at : ℕ) (stack given : Vec Cell Global) (was : ℕ) (old new : List KeptFrame) : Type 0 where
  pub place : was ≡ f.next
  pub operands : given ≡ f.operands
  pub put : new ≡ with_top old (record f { next = at; operands = stack })

-- it goes on behind a place, with this operand in the place of so many
pub record HasGoneOn (f : KeptFrame) (at taken : ℕ) (v : Cell) (old new : List KeptFrame) : Type 0 where
  pub top : KeptFrame
  pub put : new ≡ with_top old top
  pub frame : frame_in top ≡ record (frame_in f) { next = at + 1; stack = v ∷ drop taken (frame_in f).stack }
  pub more : HasMoreRoom f top

-- silent work in the condition has come to a stop
pub record HasStopped (image : Image) (made : ℕ → Option Made) (code : List Instr) (f : KeptFrame) (stop : KeptStop) (old new : List KeptFrame) : Type 0 where
  pub top : KeptFrame
  pub put : new ≡ with_top old top
  pub stops : stop_in stop (frame_in top) ≡ silent_with image code made (length old - 1) (frame_in f)
  pub place : IsStopOf stop (frame_in top)
  pub moves : HasMoved (frame_in f) (frame_in top)
  pub asks : AsksInRoom stop code top
  pub more : HasMoreRoom f top

-- where it has come to this question over these cells, a verdict follows, or the answer with which it has gone on
abbrev pub IsJudged : Rooted (List Cell) → KeptQuestion → (at : ℕ) → KeptFrame → (old new : List KeptFrame) → Option Verdict → Type 0
IsJudged x q at f old new (Some v) =
    ((next : ℕ → Keeps → Stack → Verdict) → judged x next (Work (question_in q (frame_in f).stack) at (frame_in f).keeps (drop (operands_of q) (frame_in f).stack)) ≡ v) × (new ≡ old)
IsJudged x q at f old new None =
    (v : Cell) × (taken : ℕ) × HasGoneOn f at taken v old new
    × ((next : ℕ → Keeps → Stack → Verdict) → judged x next (Work (question_in q (frame_in f).stack) at (frame_in f).keeps (drop (operands_of q) (frame_in f).stack)) ≡ next (at + 1) (frame_in f).keeps (v ∷ drop taken (frame_in f).stack))

module _ (image : Image) (mem : Memory) (code : List Instr) where
  -- what the condition comes to from where the topmost frame stands
  abbrev pub verdict_here : ℕ → List Frame → Verdict
  verdict_here n [] = Fails
  verdict_here n (f ∷ fs) = verdict_from image mem f fs code n f.next f.keeps f.stack

-- this verdict, or else the one to which it comes later
abbrev pub or_later : Option Verdict → Verdict → Verdict
or_later (Some v) later = v
or_later None later = later

-- room for all operands that a condition may give
abbrev pub HasRoomIn : Image → (condition : ℕ) → Vec Cell Global → Type 0
HasRoomIn image c stack = need (condition_of image c) ≤ vec_capacity stack
