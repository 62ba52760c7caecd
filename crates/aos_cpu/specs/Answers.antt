-- What answers to questions have made of frames and memory.
use Rattle.std.specs.Prelude.{◌+◌, zero, suc, nat_lt, ℤ, pos, negsuc, Option, Some, None, ◌≡◌, ℕ, List, [], ◌∷◌, ◌++◌, drop, reverse, Bool, false, nat_eq, if◌then◌else◌}
use Rattle.aos_base.specs.declared.text.Pos.{Pos}
use Rattle.aos_base.specs.declared.kernel.Did.{Did}
use Rattle.aos_base.specs.Text.{order}
use Rattle.aos_code.specs.declared.instr.Cell.{Cell}
use Rattle.aos_code.specs.declared.image.ProcShape.{ProcShape}
use Rattle.aos_code.specs.declared.image.TypeDesc.{TypeDesc}
use Rattle.aos_code.specs.Memory.{Memory}
use Rattle.aos_code.specs.Silent.{Stack, Question}
use Rattle.aos_code.specs.Machine.{asker, Frame, Frames, Turned, behind, answer, code_in, fitted}
use Rattle.aos_store.specs.declared.frames.Frames.{Frames as KeptFrames}
use Rattle.aos_store.specs.Store.{list_in, frames_in}

-- what the code has made of a turn: the output grows from one list to another
pub record Made (t : Turned) (does_begin : Bool) (did : Did) (fs : Frames) (mem : Memory) (before after : List ℕ) : Type 0 where
  pub store : t.store ≡ mem
  pub frames : t.frames ≡ fs
  pub output : after ≡ before ++ t.output
  pub begun : t.begun ≡ does_begin
  pub left : t.left ≡ did

-- the question of the instruction at this place, which takes so many operands, has been answered
abbrev pub IsAnswered : Question → (at taken : ℕ) → (old new : KeptFrames) → (old_memory new_memory : Memory) → Did → (before after : List ℕ) → Type 0
IsAnswered q at taken old new old_memory new_memory did before after =
    (shapes : List ProcShape) (types : List TypeDesc) (f : Frame) (fs : List Frame) → list_in old.list.items ≡ f ∷ fs →
    Made (answer (reverse old.following.items) shapes types q (asker at f.keeps (drop taken f.stack) f fs old_memory)) false did (frames_in new) new_memory before after

-- the topmost frame goes on behind an instruction, with these operands in place of so many
abbrev pub IsBehind : (at taken : ℕ) → Stack → (old new : KeptFrames) → Type 0
IsBehind at taken above old new =
    (f : Frame) (fs : List Frame) → list_in old.list.items ≡ f ∷ fs →
    frames_in new ≡ record { following = reverse old.following.items; frames = behind (reverse old.following.items) at f.keeps (above ++ drop taken f.stack) f ∷ fs }

-- a frame that has begun the statement of the instruction at this place
abbrev pub begun_at : (at : ℕ) → Pos → Frame → Frame
begun_at at p f = record f { next = at + 1; at = Some p }

-- the topmost frame stands at an instruction, with this value as its topmost operand
abbrev pub StandsAt : (at : ℕ) → Cell → KeptFrames → Type 0
StandsAt at v old = (f : Frame) (fs : List Frame) → list_in old.list.items ≡ f ∷ fs → (f.next ≡ at) × (f.stack ≡ v ∷ drop 1 f.stack)

-- the code of the first character of a text, 0 where there is none
abbrev pub code_from : List Cell → Option ℕ
code_from [] = Some 0
code_from (v ∷ vs) = code_in [] v

-- two characters are the same, and end no text
abbrev pub same_character : Option ℕ → Option ℕ → Bool
same_character (Some (suc a)) (Some b) = nat_eq (suc a) b
same_character (Some zero) b = false
same_character None b = false
same_character a None = false

-- how two characters compare
abbrev pub order_of : ℕ → ℕ → ℤ
order_of a b = if nat_lt a b then negsuc 0 else (if nat_lt b a then pos 1 else pos 0)

-- how two texts compare, where there are both
abbrev pub ordered : Option (List ℕ) → Option (List ℕ) → Option ℤ
ordered (Some s) (Some t) = Some (order s t)
ordered (Some s) None = None
ordered None t = None

-- the characters that are stored of a text in an array of so many, as 0; or the trap
abbrev pub IsFitted : Bool → Option (List ℕ) → Option ℕ → List ℕ → ℕ → Type 0
IsFitted strict None room cs trap = trap ≡ 16
IsFitted strict (Some text) None cs trap = trap ≡ 16
IsFitted strict (Some text) (Some room) cs trap = fitted [] strict room text ≡ (if nat_eq trap 0 then Some cs else None) × (nat_eq trap 0 ≡ false → trap ≡ 15)
