-- The silent work of a frame: where it ends, and what is seen of a frame besides.
use Rattle.std.specs.Prelude.{◌≡◌, ◌<◌, ◌+◌, ◌^◌, ℕ, Bool, List, Option, drop}
use Rattle.aos_base.specs.declared.text.Pos.{Pos}
use Rattle.aos_base.specs.Rooted.{Made}
use Rattle.aos_code.specs.declared.instr.Cell.{Cell}
use Rattle.aos_code.specs.declared.instr.Instr.{Instr}
use Rattle.aos_code.specs.declared.image.Image.{Image}
use Rattle.aos_code.specs.Silent.{Here, Stop, Work, Ended as StopsAt, Begins, Fails, Decides, silent}
use Rattle.aos_code.specs.Machine.{Frame, code_of}
use Rattle.aos_silent_steps.specs.declared.silent.Stop.{Stop as KeptStop}
use Rattle.aos_silent_steps.specs.declared.silent.Stop.TheVariants.{Work as AtWork, Begins as AtBegin, Fails as AtFault, Decides as AtVerdict}
use Rattle.aos_silent_steps.specs.Acts.{question_in, operands_of}

-- what is seen of a frame: how far its silent work has come isn't
pub record Seen : Type 0 where
  pub procedure : ℕ
  pub object : ℕ
  pub at : Option Pos
  pub is_open : Bool
  pub cells : List Cell
  pub counted : ℕ
  pub stop : Stop

-- where a frame's silent work ends, from what the code keeps of it
abbrev pub stop_in : KeptStop → Frame → Stop
stop_in (AtWork q at) f = Work (question_in q f.stack) at f.keeps (drop (operands_of q) f.stack)
stop_in (AtBegin at pos) f = StopsAt (Begins at pos f.stack) f.keeps
stop_in (AtFault n c) f = StopsAt (Fails n c) f.keeps
stop_in (AtVerdict a) f = StopsAt (Decides a) f.keeps

-- at a question the frame stands at the instruction that asks; and places behind it have 64 bits
abbrev pub IsStopOf : KeptStop → Frame → Type 0
IsStopOf (AtWork q at) f = (at ≡ f.next) × (at + 1 < 2 ^ 64)
IsStopOf (AtBegin at pos) f = at + 1 < 2 ^ 64
IsStopOf (AtFault n c) f = Unit {0}
IsStopOf (AtVerdict a) f = Unit {0}

-- where the instructions of a frame above so many others stand
abbrev pub here_at : (below : ℕ) → Frame → Here
here_at below f = record { below = below; self = f.object }

module _ (image : Image) where
  -- the silent work of a frame of this code above so many others, where objects are known to be made as this
  abbrev pub silent_with : List Instr → (ℕ → Option Made) → ℕ → Frame → Stop
  silent_with code made below f = silent image.shapes.items image.types.items made f.procedure (here_at below f) f.cells code f.next f.keeps f.stack

  abbrev pub seen_with : List Instr → (ℕ → Option Made) → ℕ → Frame → Seen
  seen_with code made below f =
      record { procedure = f.procedure; object = f.object; at = f.at; is_open = f.is_open; cells = f.cells; counted = f.counted; stop = silent_with code made below f }

  -- the same where the code is that of its procedure
  abbrev pub silent_at : (ℕ → Option Made) → ℕ → Frame → Stop
  silent_at made below f = silent_with (code_of image f.procedure) made below f

  abbrev pub seen_at : (ℕ → Option Made) → ℕ → Frame → Seen
  seen_at made below f = seen_with (code_of image f.procedure) made below f
