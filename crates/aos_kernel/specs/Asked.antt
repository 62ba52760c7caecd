-- What the test tells by which the kernel releases a lock.
use Rattle.std.specs.Prelude.{◌≡◌, ℕ, List, Some}
use Rattle.aos_base.specs.declared.kernel.Event.{Event}
use Rattle.aos_base.specs.declared.kernel.LockName.{LockName}
use Rattle.aos_base.specs.declared.kernel.Verdict.{Verdict}
use Rattle.aos_base.specs.Lock.{Condition}
use Rattle.aos_base.specs.Book.{At, place_of}
use Rattle.aos_base.specs.Machine.{State}
use Rattle.aos_code.specs.declared.image.Image.{Image}
use Rattle.aos_code.specs.Memory.{Memory}
use Rattle.aos_code.specs.Machine.{Frames, verdict}
use Rattle.aos_kernel.specs.declared.conditions.Conditions.{Conditions}
use Rattle.aos_kernel.specs.declared.tables.KernelTables.{KernelTables}
use Rattle.aos_kernel.specs.Conditions.{SameKnown}
use Rattle.aos_kernel.specs.Shows.{Shows}

-- a test is made over the image and over what the tables have: their store, and of each activity what counts
pub record IsOver (image : Image) (d : KernelTables) (t : Conditions) : Type 0 where
  pub program : t.image.now ≡ image
  pub store : t.store.now ≡ d.store
  pub activities : SameKnown d.activities.items t.activities.items

-- Of each activity that awaits a condition, in whatever state the tables show, it tells what this condition comes to over the activity's
-- own frames in that state's store.
abbrev pub JudgesWaiters : (Conditions → ℕ → Verdict) → Type 0
JudgesWaiters tells =
    (image : Image) (earlier : List Event) (d : KernelTables) (st : State Memory Frames) (t : Conditions)
    → Shows image earlier d st → IsOver image d t
    → (l : LockName) (a c : ℕ) → place_of st.book.line a ≡ Some (At l (Condition c))
    → tells t a ≡ verdict image st.store (st.frames a) c
