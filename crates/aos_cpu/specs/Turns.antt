-- What a turn of an activity shows of the definitions: frames are seen up to silent work.
use Rattle.std.specs.Prelude.{◌≡◌, ◌<◌, ◌+◌, ◌^◌, ℕ, suc, List, [], ◌∷◌, ◌++◌, Bool, true, false, Option, Some, None, drop, length, reverse, ◌%◌}
use Rattle.aos_base.specs.declared.text.Pos.{Pos}
use Rattle.aos_base.specs.declared.kernel.Did.{Did}
use Rattle.aos_base.specs.declared.kernel.Did.TheVariants.{Went, Ended, Enter, Leave, Await, Start, Trapped}
use Rattle.aos_base.specs.Question.{Starts, Enters, Leaves, Awaits}
use Rattle.aos_base.specs.Book.{Where}
use Rattle.aos_base.specs.Rooted.{Made}
use Rattle.aos_code.specs.declared.instr.Cell.TheVariants.{Ref}
use Rattle.aos_code.specs.declared.image.Image.{Image}
use Rattle.aos_code.specs.Memory.{Memory}
use Rattle.aos_code.specs.Silent.{Question, Work}
use Rattle.aos_code.specs.Machine.{asker, Frame, Frames, Turned, opened, lowest_home, made_in, stop_of, turn, answer}
use Rattle.aos_store.specs.declared.frames.Frames.{Frames as KeptFrames}
use Rattle.aos_store.specs.Store.{list_in, frames_in}
use Rattle.aos_silent_steps.specs.declared.act.Question.{Question as KeptQuestion}
use Rattle.aos_silent_steps.specs.declared.act.Question.TheVariants.{Starts as AsksStart}
use Rattle.aos_silent_steps.specs.declared.silent.Stop.{Stop as KeptStop}
use Rattle.aos_silent_steps.specs.Acts.{question_in, operands_of}
use Rattle.aos_silent_steps.specs.Known.{Knows}
use Rattle.aos_silent_steps.specs.Silent.{Seen, stop_in, IsStopOf, seen_at}
use Rattle.aos_cpu.specs.Answers.{Made as HasMade}

-- what is seen of an activity's frames: of the topmost one, what is seen of a frame; those below as they are
pub record SeenFrames : Type 0 where
  pub following : List ℕ
  pub top : Option Seen
  pub below : List Frame

-- a module's number and a place in it
abbrev pub where_in : (ℕ × Pos) → Where
where_in p = record { module_ = p.0; pos = p.1 }

-- how many statements have begun, where one more has or not
abbrev pub counted : Bool → ℕ → ℕ
counted true n = suc n % 2 ^ 64
counted false n = n

module _ (image : Image) where
  abbrev pub seen : (all : ℕ → Option Made) → Frame → List Frame → Seen
  seen all f fs = seen_at image all (length fs) f

  abbrev pub seen_all : (all : ℕ → Option Made) → List ℕ → List Frame → SeenFrames
  seen_all all following [] = record { following = following; top = None; below = [] }
  seen_all all following (f ∷ fs) = record { following = following; top = Some (seen all f fs); below = fs }

  abbrev pub seen_frames : (all : ℕ → Option Made) → Frames → SeenFrames
  seen_frames all fs = seen_all all fs.following fs.frames

  -- the same frames up to silent work, to which the opening of the next body belongs, wherever so much is known of what objects were
  -- made as
  abbrev pub Alike : (made : ℕ → Option Made) → Frames → Frames → Type 0
  Alike made fs gs = (all : ℕ → Option Made) → Knows all made → seen_frames all (opened fs) ≡ seen_frames all (opened gs)

  -- the topmost frame stands where its silent work ends so
  abbrev pub StandsAtStop : (made : ℕ → Option Made) → KeptStop → List Frame → Type 0
  StandsAtStop made stop [] = ⊥
  StandsAtStop made stop (f ∷ fs) = (stop_of image made f fs ≡ stop_in stop f) × IsStopOf stop f

  -- silent work has come to its end; none where there is no frame, nor a body that is to follow
  abbrev pub HasCome : (made : ℕ → Option Made) → Option KeptStop → Frames → Type 0
  HasCome made None fs = fs ≡ record { following = []; frames = [] }
  HasCome made (Some stop) fs = StandsAtStop made stop fs.frames

  -- no place, in the module of the body with which the activity began, or of the next body that is to follow
  abbrev pub beginning : Frames → Where
  beginning fs = record { module_ = lowest_home image 0 (opened fs).frames; pos = record { line = 0; col = 0 } }

  -- a turn has come to this; the output grows from one list to another
  pub record Shown (t : Turned) (did : Did) (old new : KeptFrames) (mem : Memory) (before after : List ℕ) : Type 0 where
    pub store : t.store ≡ mem
    pub alike : Alike (made_in image mem) t.frames (frames_in new)
    pub output : after ≡ before ++ t.output
    pub begun : new.begun ≡ counted t.begun old.begun
    pub left : t.left ≡ did

  -- a turn has been made, from any frames that are alike to the old ones
  abbrev pub IsTurned : Did → (old new : KeptFrames) → (old_memory new_memory : Memory) → (before after : List ℕ) → Type 0
  IsTurned did old new old_memory new_memory before after =
      (fs : Frames) → Alike (made_in image old_memory) fs (frames_in old) → Shown (turn image old_memory fs) did old new new_memory before after

  -- nothing has been done but silent work
  pub record Rests (old new : KeptFrames) (old_memory new_memory : Memory) (before after : List ℕ) : Type 0 where
    pub alike : Alike (made_in image old_memory) (frames_in old) (frames_in new)
    pub begun : new.begun ≡ old.begun
    pub memory : new_memory ≡ old_memory
    pub output : after ≡ before

  -- the topmost frame stands at the instruction that asks this, of which so many operands lie on top, whatever objects were made as
  abbrev pub StandsAsking : Question → (operands : ℕ) → List Frame → Type 0
  StandsAsking q n [] = ⊥
  StandsAsking q n (f ∷ fs) = stop_of image (λ p. None) f fs ≡ Work q f.next f.keeps (drop n f.stack)

  -- and there is a place behind it
  abbrev pub IsBeforeAsking : Question → (operands : ℕ) → List Frame → Type 0
  IsBeforeAsking q n [] = ⊥
  IsBeforeAsking q n (f ∷ fs) = (f.next + 1 < 2 ^ 64) × StandsAsking q n (f ∷ fs)

  -- where work is left to the kernel behind which the frames go on, they stand at the instruction that asks for it
  abbrev pub StandsAtWork : Did → List Frame → Type 0
  StandsAtWork (Start o) fs = StandsAsking (Starts (Ref o)) 1 fs
  StandsAtWork (Enter l) fs = StandsAsking Enters 0 fs
  StandsAtWork (Leave l) fs = StandsAsking Leaves 0 fs
  StandsAtWork Went fs = Unit {0}
  StandsAtWork Ended fs = Unit {0}
  StandsAtWork (Await l c) fs = StandsAsking (Awaits c) 0 fs
  StandsAtWork (Trapped n c) fs = Unit {0}

  abbrev pub IsBefore : Did → Frames → Type 0
  IsBefore (Start o) fs = IsBeforeAsking (Starts (Ref o)) 1 fs.frames
  IsBefore (Enter l) fs = IsBeforeAsking Enters 0 fs.frames
  IsBefore (Leave l) fs = IsBeforeAsking Leaves 0 fs.frames
  IsBefore Went fs = Unit {0}
  IsBefore Ended fs = Unit {0}
  IsBefore (Await l c) fs = IsBeforeAsking (Awaits c) 0 fs.frames
  IsBefore (Trapped n c) fs = Unit {0}

-- how many operands of the work that is left to the kernel lie on top
abbrev pub operands_left : Did → ℕ
operands_left (Start o) = 1
operands_left _ = 0

-- whether a frame's region is open behind it
abbrev pub open_behind : Did → Bool → Bool
open_behind (Enter l) is_open = true
open_behind (Leave l) is_open = false
open_behind _ is_open = is_open

-- where work is left to the kernel
abbrev pub WhereLeft : Did → Type 0 → Type 0
WhereLeft Went P = Unit {0}
WhereLeft Ended P = P
WhereLeft (Enter l) P = P
WhereLeft (Leave l) P = P
WhereLeft (Await l c) P = P
WhereLeft (Start o) P = P
WhereLeft (Trapped n c) P = P

-- Answers.

-- the question at which the topmost frame stands has been answered
abbrev pub HasAnswered : Image → KeptQuestion → (at : ℕ) → (old new : KeptFrames) → (old_memory new_memory : Memory) → Did → (before after : List ℕ) → Type 0
HasAnswered image q at old new old_memory new_memory did before after =
    (f : Frame) (fs : List Frame) → list_in old.list.items ≡ f ∷ fs →
    HasMade (answer (reverse old.following.items) image.shapes.items image.types.items (question_in q f.stack) (asker at f.keeps (drop (operands_of q) f.stack) f fs old_memory)) false did (frames_in new) new_memory before after

-- the topmost frame stands at this place; where it asks for the start of an activity, the object is its topmost operand
abbrev pub Stands : KeptQuestion → (at : ℕ) → KeptFrames → Type 0
Stands q at old = (f : Frame) (fs : List Frame) → list_in old.list.items ≡ f ∷ fs → (at ≡ f.next) × HasOperand q f
  where
    HasOperand : KeptQuestion → Frame → Type 0
    HasOperand (AsksStart o) f = f.stack ≡ Ref o ∷ drop 1 f.stack
    HasOperand q f = Unit {0}

-- all is as it was
pub record Same (old new : KeptFrames) (old_memory new_memory : Memory) (before after : List ℕ) : Type 0 where
  pub frames : frames_in new ≡ frames_in old
  pub memory : new_memory ≡ old_memory
  pub output : after ≡ before
