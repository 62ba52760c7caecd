-- What is done to the topmost frame in place, without the frames below.
use Rattle.std.specs.Prelude.{◌≡◌, ◌<◌, ◌+◌, ◌^◌, ℕ, List, [], ◌∷◌, length, Bool, true, false, Option, is_some}
use Rattle.aos_base.specs.declared.kernel.Did.TheVariants.{Went}
use Rattle.aos_base.specs.declared.root.Root.{Root}
use Rattle.aos_base.specs.Rooted.{Made, load, spliced}
use Rattle.aos_code.specs.declared.instr.Cell.{Cell}
use Rattle.aos_code.specs.declared.image.Image.{Image}
use Rattle.aos_code.specs.Memory.{Memory}
use Rattle.aos_code.specs.Silent.{Stack}
use Rattle.aos_code.specs.Machine.{Frame, Frames, rooted, frames_with, memory_with, made_in, turn}
use Rattle.aos_sound.specs.FitFrames.{IsSoundImage, FramesFit}
use Rattle.aos_silent_steps.specs.Known.{Knows}
use Rattle.aos_silent_steps.specs.declared.act.Question.{Question}
use Rattle.aos_silent_steps.specs.declared.silent.Stop.TheVariants.{Work as AtWork}
use Rattle.aos_silent_steps.specs.Silent.{silent_at, seen_at, stop_in, IsStopOf}
use Rattle.aos_cpu.specs.declared.in_place.Done.{Done}
use Rattle.aos_cpu.specs.declared.in_place.Done.TheVariants.{Silent, Turned, Begun, Asks, Nothing}
use Rattle.aos_cpu.specs.declared.in_place.Tried.{Tried}
use Rattle.aos_cpu.specs.declared.in_place.Tried.TheVariants.{Turned as MadeTurn, Asks as AsksAt, Nothing as MadeNone}
use Rattle.aos_cpu.specs.Turns.{Alike, StandsAtStop}
use Rattle.aos_cpu.specs.Private.{no_memory, made_by, is_own_turn, IsPrivate, after_turns, begun_after}

-- a frame above others
abbrev pub on_top : List ℕ → Frame → List Frame → Frames
on_top following f fs = record { following = following; frames = f ∷ fs }

-- after silent work the place in the code is farther on
abbrev pub IsAhead : Done → (old new : ℕ) → Type 0
IsAhead Silent old new = old < new
IsAhead Turned old new = Unit {0}
IsAhead Begun old new = Unit {0}
IsAhead (Asks q) old new = Unit {0}
IsAhead Nothing old new = Unit {0}

module _ (here : ℕ) where
  -- the cell at a place that isn't in a frame below, where so many are, has been set
  pub record IsSet (r : Root) (c : ℕ) (v : Cell) (mem now : Memory) (f g : Frame) : Type 0 where
    pub there : (rest : List Frame) → length rest ≡ here → is_some (load r c (rooted (f ∷ rest) mem)) ≡ true
    pub frames : (rest : List Frame) → length rest ≡ here → (n : ℕ) (s : Stack) →
        frames_with r (spliced c (v ∷ [])) (record f { next = n; stack = s } ∷ rest) ≡ record g { next = n; stack = s } ∷ rest
    pub memory : now ≡ memory_with r (spliced c (v ∷ [])) mem
    pub others : g ≡ record f { cells = g.cells }

  abbrev pub HasSet : Bool → Root → ℕ → Cell → (mem now : Memory) → (f g : Frame) → Type 0
  HasSet true r c v mem now f g = IsSet r c v mem now f g
  HasSet false r c v mem now f g = (g ≡ f) × (now ≡ mem)

module _ (image : Image) where
  -- one turn of these frames comes to those, which leaves nothing to the kernel
  pub record TurnsTo (begins : Bool) (mem now : Memory) (fs gs : Frames) : Type 0 where
    pub store : (turn image mem fs).store ≡ now
    pub alike : Alike image (made_in image now) (turn image mem fs).frames gs
    pub output : (turn image mem fs).output ≡ []
    pub begun : (turn image mem fs).begun ≡ begins
    pub left : (turn image mem fs).left ≡ Went

  -- so many private turns come to those frames, none of which but the last may have used up the budget
  pub record Runs (made : List Made) (budget many begun now : ℕ) (fs gs : Frames) : Type 0 where
    pub private : (i : ℕ) → i < many → IsPrivate image made (after_turns image made i fs)
    pub below : (i : ℕ) → i < many → begun_after image made i fs begun < budget
    pub alike : Alike image (made_by made) (after_turns image made many fs) gs
    pub statements : now ≡ begun_after image made many fs begun

  module _ (here : ℕ) where
    -- where the image is sound, frames that fit it with the first one on top of so many others do so with the second one
    abbrev pub FitsSo : (f g : Frame) → Type 0
    FitsSo f g =
        IsSoundImage image → (following : List ℕ) (rest : List Frame) → length rest ≡ here → FramesFit image (on_top following f rest) → FramesFit image (on_top following g rest)

    -- One such turn has been made of frames whose topmost one, above so many others, was this, and is that now. Where there is no memory
    -- it needs nothing but the frames.
    pub record HasTurnedTop (begins : Bool) (mem now : Memory) (f g : Frame) : Type 0 where
      pub same : g.procedure ≡ f.procedure
      pub own : mem ≡ no_memory → (following : List ℕ) (rest : List Frame) → length rest ≡ here → is_own_turn image (on_top following f rest) ≡ true
      pub turns : (following : List ℕ) (rest : List Frame) (fs : Frames) → length rest ≡ here → Alike image (made_in image mem) fs (on_top following f rest) → TurnsTo begins mem now fs (on_top following g rest)
      pub fits : FitsSo f g

    -- silent work alone has been done
    pub record HasWorked (mem now : Memory) (f g : Frame) : Type 0 where
      pub seen : (all : ℕ → Option Made) → Knows all (made_in image mem) → seen_at image all here g ≡ seen_at image all here f
      pub memory : now ≡ mem
      pub fits : FitsSo f g

    -- so many have been made
    abbrev pub HasRunTop : (budget many begun now : ℕ) → (f g : Frame) → Type 0
    HasRunTop budget many begun now f g =
        (g.procedure ≡ f.procedure)
        × ((following : List ℕ) (rest : List Frame) (made : List Made) (fs : Frames) → length rest ≡ here → Alike image (made_by made) fs (on_top following f rest) → Runs made budget many begun now fs (on_top following g rest))
        × FitsSo f g

    -- its silent work ends at this place with this question
    abbrev pub StopsAsking : Question → (at : ℕ) → Memory → Frame → Type 0
    StopsAsking q at mem f = (silent_at image (made_in image mem) here f ≡ stop_in (AtWork q at) f) × IsStopOf (AtWork q at) f

    -- what an instruction has done
    abbrev pub IsDone : Done → (mem now : Memory) → (f g : Frame) → Type 0
    IsDone Silent mem now f g = HasWorked mem now f g
    IsDone Turned mem now f g = HasTurnedTop false mem now f g
    IsDone Begun mem now f g = HasTurnedTop true mem now f g
    IsDone (Asks q) mem now f g = HasWorked mem now f g × StopsAsking q g.next mem g
    IsDone Nothing mem now f g = HasWorked mem now f g

    -- one turn, in which a statement has begun or not, or else silent work, up to a question or not
    abbrev pub HasTriedTop : Tried → (mem now : Memory) → (f g : Frame) → Type 0
    HasTriedTop (MadeTurn begins) mem now f g = HasTurnedTop begins mem now f g
    HasTriedTop (AsksAt q at) mem now f g = HasWorked mem now f g × StopsAsking q at mem g
    HasTriedTop MadeNone mem now f g = HasWorked mem now f g

  -- the same of the frames as they are kept
  abbrev pub IsAlikeStill : (mem now : Memory) → (old new : Frames) → Type 0
  IsAlikeStill mem now old new = Alike image (made_in image mem) old new × (now ≡ mem)

  abbrev pub HasTriedInPlace : Tried → (mem now : Memory) → (old new : Frames) → Type 0
  HasTriedInPlace (MadeTurn begins) mem now old new = (fs : Frames) → Alike image (made_in image mem) fs old → TurnsTo begins mem now fs new
  HasTriedInPlace (AsksAt q at) mem now old new = IsAlikeStill mem now old new × StandsAtStop image (made_in image mem) (AtWork q at) new.frames × (at + 1 < 2 ^ 64)
  HasTriedInPlace MadeNone mem now old new = IsAlikeStill mem now old new
