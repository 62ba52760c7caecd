-- Steps of one worker, one behind another.
use Rattle.std.specs.Prelude.{◌≡◌, ◌<◌, ◌≤◌, ℕ, ◌++◌, List, replicate}
use Rattle.aos_base.specs.declared.kernel.Event.{Event}
use Rattle.aos_base.specs.Machine.{Step, State, happens, execution}
use Rattle.aos_base.specs.Schedule.{choices}
use Rattle.aos_code.specs.declared.image.Image.{Image}
use Rattle.aos_code.specs.Memory.{Memory}
use Rattle.aos_code.specs.Machine.{Frames, machine}
use Rattle.aos_kernel.specs.declared.tables.KernelTables.{KernelTables}
use Rattle.aos_kernel.specs.declared.log.Stepped.{Stepped}
use Rattle.aos_kernel.specs.declared.log.Stepped.TheVariants.{Turned, Dispatched, Idle, Over}
use Rattle.aos_kernel.specs.Run.{Run, state_of, comes_to}
use Rattle.aos_kernel.specs.Shows.{Shows}

-- so many steps of a worker come to what the tables show, and no event happens in any of them
pub record GoesQuietly (image : Image) (earlier : List Event) (w made : ℕ) (new : KernelTables) (st : State Memory Frames) : Type 0 where
  pub shows : Shows image earlier new (execution (machine image) (replicate made (Step w)) st)
  pub quiet : (i : ℕ) → i ≤ made → (execution (machine image) (replicate i (Step w)) st).book.events ≡ st.book.events

-- a step that changes nothing
abbrev pub IsNone : Stepped → Type 0
IsNone Turned = ⊥
IsNone Dispatched = ⊥
IsNone Idle = Unit {0}
IsNone Over = Unit {0}

-- so many steps of a worker have been made, and no event has happened in any of them but the last
pub record AreSteps (made w : ℕ) (old new : Run) : Type 0 where
  pub state : state_of new ≡ execution (machine old.image) (replicate made (Step w)) (state_of old)
  pub log : choices new.log ≡ choices old.log ++ replicate made (Step w)
  pub quiet : (i : ℕ) → i < made → (execution (machine old.image) (replicate i (Step w)) (state_of old)).book.events ≡ (state_of old).book.events

-- where none has been made, all is as it was; and where some were asked for, a step would change nothing
abbrev pub WhereNone : (made most w : ℕ) → Run → Run → Type 0
WhereNone made most w old new =
    made ≡ 0 → (new ≡ old) × (1 ≤ most → IsNone (comes_to w old) × (happens (machine old.image) (Step w) (state_of old) ≡ state_of old))

-- so many have been made, and no event has happened
pub record AreQuietSteps (made w : ℕ) (old new : Run) : Type 0 where
  pub state : state_of new ≡ execution (machine old.image) (replicate made (Step w)) (state_of old)
  pub log : choices new.log ≡ choices old.log ++ replicate made (Step w)
  pub quiet : (i : ℕ) → i ≤ made → (execution (machine old.image) (replicate i (Step w)) (state_of old)).book.events ≡ (state_of old).book.events
  pub none : made ≡ 0 → new ≡ old
