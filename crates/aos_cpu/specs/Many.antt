-- Turns in place, one behind another, over the memory as it is.
use Rattle.std.specs.Prelude.{◌≡◌, ◌<◌, ℕ, zero, suc, List, [], length}
use Rattle.aos_base.specs.declared.kernel.Did.TheVariants.{Went}
use Rattle.aos_code.specs.declared.image.Image.{Image}
use Rattle.aos_code.specs.Memory.{Memory}
use Rattle.aos_code.specs.Machine.{Frame, Frames, made_in, turn}
use Rattle.aos_store.specs.declared.frames.Frames.{Frames as KeptFrames}
use Rattle.aos_store.specs.Store.{frames_in}
use Rattle.aos_cpu.specs.Turns.{Alike, counted}
use Rattle.aos_cpu.specs.InPlace.{on_top, FitsSo}

-- a memory, an activity's frames, and how many statements have begun on them
pub record Reached : Type 0 where
  pub store : Memory
  pub frames : Frames
  pub begun : ℕ

module _ (image : Image) where
  -- what the next turn reaches from there
  abbrev pub after_one : Reached → Reached
  after_one r =
      let t = turn image r.store r.frames in
      record { store = t.store; frames = t.frames; begun = counted t.begun r.begun }

  -- and what so many turns reach
  abbrev pub after_many : ℕ → Reached → Reached
  after_many zero r = r
  after_many (suc n) r = after_one (after_many n r)

  -- the next turn writes nothing, and leaves nothing to the kernel
  pub record GoesFrom (r : Reached) : Type 0 where
    pub output : (turn image r.store r.frames).output ≡ []
    pub left : (turn image r.store r.frames).left ≡ Went

  -- so many such turns come from there to this memory, these frames and this count, and none but the last may have used up the budget
  pub record RunsOn (budget many : ℕ) (r : Reached) (now : Memory) (gs : Frames) (count : ℕ) : Type 0 where
    pub goes : (i : ℕ) → i < many → GoesFrom (after_many i r)
    pub below : (i : ℕ) → i < many → (after_many i r).begun < budget
    pub store : (after_many many r).store ≡ now
    pub alike : Alike image (made_in image now) (after_many many r).frames gs
    pub begun : (after_many many r).begun ≡ count

  -- so many have been made of frames whose topmost one, above so many others, was f, and is g now
  pub record HasRunOn (here budget many begun now : ℕ) (mem was : Memory) (f g : Frame) : Type 0 where
    pub same : g.procedure ≡ f.procedure
    pub runs : (following : List ℕ) (rest : List Frame) (fs : Frames) → length rest ≡ here → Alike image (made_in image mem) fs (on_top following f rest) →
        RunsOn budget many (record { store = mem; frames = fs; begun = begun }) was (on_top following g rest) now
    pub fits : FitsSo image here f g

  -- the same of the frames as they are kept, from any that are alike to the old ones
  abbrev pub HasRunMany : (budget many : ℕ) → (mem now : Memory) → (old new : KeptFrames) → Type 0
  HasRunMany budget many mem now old new =
      (fs : Frames) → Alike image (made_in image mem) fs (frames_in old) → RunsOn budget many (record { store = mem; frames = fs; begun = old.begun }) now (frames_in new) new.begun
