-- The laws, each as a statement over any machine whose stores and frames are of these types.
use Rattle.std.specs.Prelude.{◌≡◌, ◌≢◌, ◌+◌, ◌<◌, ℕ, Option, Some, None, List, [], ◌∷◌, ◌++◌, Bool, IsTrue}
use Rattle.aos_base.specs.declared.kernel.LockName.{LockName}
use Rattle.aos_base.specs.declared.kernel.Verdict.{Verdict}
use Rattle.aos_base.specs.declared.kernel.Did.{Did}
use Rattle.aos_base.specs.declared.kernel.Did.TheVariants.{Went}
use Rattle.aos_base.specs.declared.kernel.Outcome.TheVariants as outcome_is
use Rattle.aos_base.specs.Lock.{Waiting, heir, after_heir, Alike}
use Rattle.aos_base.specs.Book.{On, Runs, Activity, Book, on_worker, place_of, outcome}
use Rattle.aos_base.specs.Machine.{Choice, Machine, State, start_of, happens, execution}
use Rattle.aos_base.specs.Observation.{observation}
use Rattle.aos_concurrency.specs.Orderly.{Orderly}
use Rattle.aos_concurrency.specs.Regions.{Outside, KeepsFits, KeepsRegions}
use Rattle.aos_concurrency.specs.Admits.{Admits, AlwaysAdmits}
use Rattle.aos_concurrency.specs.Waits.{NeverWaits}
use Rattle.aos_concurrency.specs.Sound.{Fitting}
use Rattle.aos_concurrency.specs.Mutual.{Mutual}
use Rattle.aos_concurrency.specs.Traps.{RecordsTraps, AreTold}
use Rattle.aos_concurrency.specs.Simulates.{Simulates}
use Rattle.aos_concurrency.specs.Acting.{acting, Changes, KeepsTidy}
use Rattle.aos_concurrency.specs.Handover.{GuardsBy, HandsOver}
use Rattle.aos_concurrency.specs.Private.{steps, ArePrivate, GoesOn, settled, begun_by, front, NoneOf, IsLent}

module _ (S F : Type 0) where
  -- where the machine keeps its regions, mutual exclusion holds in every state of every execution
  abbrev pub Exclusive : Type 0
  Exclusive =
      (m : Machine S F) (fits : S → Did → F → Bool) (s : S) (f : F) (budget : ℕ) (cs : List Choice)
      → KeepsRegions m (λ t w g. IsTrue (fits t w g)) → IsTrue (fits s Went f) → m.regions f ≡ []
      → Mutual m (execution m cs (start_of s f budget))

  -- so whoever asks for a lock that it doesn't own is in no region of it
  abbrev pub AskedFromOutside : Type 0
  AskedFromOutside =
      (m : Machine S F) (fits : S → Did → F → Bool) (s : S) (f : F) (budget : ℕ)
      → KeepsRegions m (λ t w g. IsTrue (fits t w g)) → IsTrue (fits s Went f) → m.regions f ≡ []
      → AlwaysAdmits m (Outside m) (start_of s f budget)

  -- where no turn enters a region or awaits a condition the outcome is never Dead
  abbrev pub NeverDead : Type 0
  NeverDead =
      (m : Machine S F) (fits : S → Did → F → Bool) (s : S) (f : F) (budget : ℕ) (cs : List Choice)
      → NeverWaits m (λ t w g. IsTrue (fits t w g)) → IsTrue (fits s Went f)
      → outcome (execution m cs (start_of s f budget)).book ≢ outcome_is.Dead

  -- with no premise on the machine, each activity stands in at most one place, and none that hasn't been started stands
  abbrev pub InOrder : Type 0
  InOrder = (m : Machine S F) (s : S) (f : F) (budget : ℕ) (cs : List Choice) → Orderly (execution m cs (start_of s f budget))

  -- an entry adds the trap row of its turn, where that traps, in any state
  abbrev pub TrapsRecorded : Type 0
  TrapsRecorded = (m : Machine S F) (c : Choice) (st : State S F) → RecordsTraps m c st

  -- so each state's trap rows are those of its trap events
  abbrev pub TrapsTold : Type 0
  TrapsTold = (m : Machine S F) (s : S) (f : F) (budget : ℕ) (cs : List Choice) → AreTold (execution m cs (start_of s f budget)).book

  -- a waiter that was given its lock because its condition held is the owner until its turn, and a local condition holds until then
  abbrev pub HandedOver : Type 0
  HandedOver =
      (m : Machine S F) (fits : S → Did → F → Bool) (tidy : S → (ℕ → Option F) → Bool) (agree : LockName → S → S → Bool) (is_local : LockName → ℕ → Bool)
      (s : S) (f : F) (budget : ℕ) (before others : List Choice) (entry : Choice) (a : ℕ) (l : LockName) (c : ℕ)
      → KeepsRegions m (λ t w g. IsTrue (fits t w g))
      → GuardsBy m (λ t w g. IsTrue (fits t w g)) (λ t g. IsTrue (tidy t g)) (λ k t u. IsTrue (agree k t u)) (λ k d. IsTrue (is_local k d))
      → IsTrue (fits s Went f) → m.regions f ≡ [] → IsTrue (tidy s (acting m (start_of s f budget)))
      → HandsOver m (λ k d. IsTrue (is_local k d)) (execution m before (start_of s f budget)) entry a l c others

  -- an entry changes the store and the frames of those that act in five ways only
  abbrev pub FiveWays : Type 0
  FiveWays =
      (m : Machine S F) (admitted : LockName → F → Bool) (fits : S → Did → F → Bool) (c : Choice) (st : State S F)
      → KeepsFits m (λ l g. IsTrue (admitted l g)) (λ t w g. IsTrue (fits t w g))
      → Fitting (λ l g. IsTrue (admitted l g)) (λ t w g. IsTrue (fits t w g)) st → Admits m (λ l g. IsTrue (admitted l g)) st
      → Changes m (λ l g. IsTrue (admitted l g)) (λ t w g. IsTrue (fits t w g)) st.store (acting m st) (happens m c st).store (acting m (happens m c st))

  -- so what each of the five ways keeps holds in every state of every execution
  abbrev pub StaysTidy : Type 0
  StaysTidy =
      (m : Machine S F) (admitted : LockName → F → Bool) (fits : S → Did → F → Bool) (tidy : S → (ℕ → Option F) → Bool)
      (s : S) (f : F) (budget : ℕ) (cs : List Choice)
      → KeepsFits m (λ l g. IsTrue (admitted l g)) (λ t w g. IsTrue (fits t w g))
      → KeepsTidy m (λ l g. IsTrue (admitted l g)) (λ t w g. IsTrue (fits t w g)) (λ t g. IsTrue (tidy t g))
      → IsTrue (fits s Went f) → AlwaysAdmits m (λ l g. IsTrue (admitted l g)) (start_of s f budget)
      → IsTrue (tidy s (acting m (start_of s f budget)))
      → let st = execution m cs (start_of s f budget) in IsTrue (tidy st.store (acting m st))

  -- private turns of a worker's activity are steps of that worker
  abbrev pub Settles : Type 0
  Settles =
      (m : Machine S F) (w a : ℕ) (f g : F) (begun : List Bool) (st : State S F)
      → GoesOn a begun st.book → on_worker w st.book.line ≡ Some a → (st.book.activity a).next ≡ Runs → st.frames a ≡ f → ArePrivate m f begun g
      → execution m (steps w begun) st ≡ settled a g begun st

  -- also where others have made their steps since the frames were lent, and none was the worker's
  abbrev pub SettlesLater : Type 0
  SettlesLater =
      (m : Machine S F) (w a : ℕ) (entry : Activity) (f g : F) (begun : List Bool) (cs : List Choice) (st : State S F)
      → Orderly st → IsLent w a entry f st → entry.next ≡ Runs → NoneOf w cs
      → let later = execution m cs st in GoesOn a begun later.book → ArePrivate m f begun g
      → execution m (steps w begun) later ≡ settled a g begun later

  -- with no premise on the machine, a worker has one activity at most
  abbrev pub OneOnWorker : Type 0
  OneOnWorker =
      (m : Machine S F) (s : S) (f : F) (budget : ℕ) (cs : List Choice) (w a b : ℕ)
      → let line = (execution m cs (start_of s f budget)).book.line in place_of line a ≡ Some (On w) → place_of line b ≡ Some (On w) → a ≡ b

  -- and one that has none has none while others alone make steps and ticks, from any state on
  abbrev pub StaysIdle : Type 0
  StaysIdle =
      (m : Machine S F) (w : ℕ) (cs : List Choice) (st : State S F)
      → NoneOf w cs → on_worker w st.book.line ≡ None → on_worker w (execution m cs st).book.line ≡ None

-- the outcome stays Going before each while the activity's count stays below the budget before the last
abbrev pub LastInBudget : Type 0
LastInBudget =
    (a : ℕ) (begun : List Bool) (b : Book)
    → outcome b ≡ outcome_is.Going → (b.activity a).begun + begun_by (front begun) < b.budget
    → GoesOn a begun b

module _ (S F T G : Type 0) where
  -- from starts that are related, two machines that make the same turns
  abbrev FromRelated : (Machine S F → Machine T G → State S F → State T G → Type 0) → Type 0
  FromRelated Q =
      (m : Machine S F) (n : Machine T G) (admitted : LockName → F → Bool) (stores : S → T → Bool) (frames : S → T → Did → F → G → Bool)
      (s : S) (t : T) (f : F) (g : G) (budget : ℕ)
      → Simulates (λ x y. IsTrue (stores x y)) (λ x y w h k. IsTrue (frames x y w h k)) (λ l h. IsTrue (admitted l h)) m n
      → IsTrue (stores s t) → IsTrue (frames s t Went f g) → AlwaysAdmits m (λ l h. IsTrue (admitted l h)) (start_of s f budget)
      → Q m n (start_of s f budget) (start_of t g budget)

  -- have the same observation after every schedule
  abbrev pub SeenAlike : Type 0
  SeenAlike = FromRelated (λ m n st tu. (cs : List Choice) → observation m (execution m cs st) ≡ observation n (execution n cs tu))

  -- and the same events
  abbrev pub ToldAlike : Type 0
  ToldAlike = FromRelated (λ m n st tu. (cs : List Choice) → (execution m cs st).book.events ≡ (execution n cs tu).book.events)

-- a release chooses the same heir of alike lists
abbrev pub SameHeir : Type 0
SameHeir = (verdict : ℕ → ℕ → Verdict) (es fs : List Waiting) → Alike es fs → heir verdict es ≡ heir verdict fs

-- and leaves alike lists
abbrev pub StayAlike : Type 0
StayAlike = (verdict : ℕ → ℕ → Verdict) (es fs : List Waiting) → Alike es fs → Alike (after_heir (heir verdict es) es) (after_heir (heir verdict fs) fs)

-- as does one who joins both
abbrev pub JoinAlike : Type 0
JoinAlike = (e : Waiting) (es fs : List Waiting) → Alike es fs → Alike (es ++ e ∷ []) (fs ++ e ∷ [])
