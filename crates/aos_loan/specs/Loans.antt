-- Loans of an activity's frames.
use Rattle.std.specs.Prelude.{◌≡◌, ◌<◌, ℕ, zero, suc, List, [], ◌∷◌, Bool, Some}
use Rattle.aos_base.specs.Book.{Runs, On, on_worker, place_of}
use Rattle.aos_base.specs.Machine.{State}
use Rattle.aos_base.specs.Rooted.{Made}
use Rattle.aos_code.specs.declared.image.Image.{Image}
use Rattle.aos_code.specs.Memory.{Memory}
use Rattle.aos_code.specs.Machine.{Frames, made_in}
use Rattle.aos_store.specs.declared.frames.Frames.{Frames as KeptFrames}
use Rattle.aos_store.specs.Store.{frames_in}
use Rattle.aos_sound.specs.FitFrames.{IsSoundImage}
use Rattle.aos_silent_steps.specs.Known.{Knows}
use Rattle.aos_silent_steps.specs.Room.{FitInRoom}
use Rattle.aos_cpu.specs.Turns.{Alike}
use Rattle.aos_cpu.specs.Private.{made_by, alone, IsPrivate, after_turns, begun_after}

-- what clauses see of a loan: the image and the budget of the kernel that gave it, how many turns it has made, and its frames
pub record Lending : Type 0 where
  pub image : Image
  pub budget : ℕ
  pub turns : ℕ
  pub frames : KeptFrames

-- which of so many turns begin a statement
abbrev pub begun_in : Image → List Made → ℕ → Frames → List Bool
begun_in image made zero fs = []
begun_in image made (suc n) fs = (alone image made fs).begun ∷ begun_in image made n (alone image made fs).frames

-- a loan has made all its turns of these frames, which had begun so many statements, where objects are known to be made as this: each is
-- private, and none but the last may have used up the budget
pub record IsMadeOf (made : List Made) (had : ℕ) (fs : Frames) (l : Lending) : Type 0 where
  pub private : (i : ℕ) → i < l.turns → IsPrivate l.image made (after_turns l.image made i fs)
  pub below : (i : ℕ) → i < l.turns → begun_after l.image made i fs had < l.budget
  pub alike : Alike l.image (made_by made) (after_turns l.image made l.turns fs) (frames_in l.frames)
  pub begun : l.frames.begun ≡ begun_after l.image made l.turns fs had

-- it is a loan of the activity of this worker as that stands: it began with its frames and its count
pub record IsLoanOf (w : ℕ) (l : Lending) (st : State Memory Frames) : Type 0 where
  pub activity : ℕ
  pub on : on_worker w st.book.line ≡ Some activity
  pub stands : place_of st.book.line activity ≡ Some (On w)
  pub runs : (st.book.activity activity).next ≡ Runs
  pub made : List Made
  pub known : Knows (made_in l.image st.store) (made_by made)
  pub turns : IsMadeOf made (st.book.activity activity).begun (st.frames activity) l
  pub fits : IsSoundImage l.image → FitInRoom l.image l.frames
