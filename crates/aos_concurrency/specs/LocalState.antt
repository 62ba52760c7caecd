-- One activity of a state, and the work before which its frames stand.
use Rattle.std.specs.Prelude.{ℕ, Option, Some, None, List}
use Rattle.aos_base.specs.declared.kernel.LockName.{LockName}
use Rattle.aos_base.specs.declared.kernel.Did.{Did}
use Rattle.aos_base.specs.declared.kernel.Did.TheVariants.{Went, Ended, Enter, Leave, Await, Start, Trapped}
use Rattle.aos_base.specs.Lock.{Entry, Condition}
use Rattle.aos_base.specs.Book.{RunState, On, Ready, At, Stand, Next, Runs, WillTrap, Unwinds, Gone, Activity, place_of}
use Rattle.aos_base.specs.Machine.{State}

-- where it stands, what its next turn is, and its frames
pub record LocalState (F : Type 0) : Type 0 where
  pub place : Option RunState
  pub next : Next
  pub frames : F

abbrev pub local_state_in : {F : Type 0} → List Stand → (ℕ → Activity) → (ℕ → F) → ℕ → LocalState F
local_state_in line activity frames a = record { place = place_of line a; next = (activity a).next; frames = frames a }

abbrev pub local_state : {S F : Type 0} → State S F → ℕ → LocalState F
local_state st a = local_state_in st.book.line st.book.activity st.frames a

-- the work before which an activity stands that runs, by its place
abbrev pub before : RunState → Did
before (On w) = Went
before (Ready p) = Went
before (At l Entry) = Enter l
before (At l (Condition c)) = Await l c

-- With which frames an activity may be let into a region of a lock: with any, or with none

abbrev pub Anyone : {F : Type 0} → LockName → F → Type 0
Anyone l f = Unit {0}

abbrev pub NoOne : {F : Type 0} → LockName → F → Type 0
NoOne l f = ⊥

module _ {F : Type 0} (Admitted : LockName → F → Type 0) where
  -- work behind which the activity goes on, once the kernel has done its part; into a region, with frames that are admitted
  abbrev pub GoesPast : Did → F → Type 0
  GoesPast Went f = ⊥
  GoesPast Ended f = ⊥
  GoesPast (Enter l) f = Admitted l f
  GoesPast (Leave l) f = Unit {0}
  GoesPast (Await l c) f = Unit {0}
  GoesPast (Start o) f = Unit {0}
  GoesPast (Trapped n c) f = ⊥

-- work at which the activity may trap
abbrev pub MayTrap : Did → Type 0
MayTrap Went = ⊥
MayTrap Ended = ⊥
MayTrap (Enter l) = Unit {0}
MayTrap (Leave l) = ⊥
MayTrap (Await l c) = Unit {0}
MayTrap (Start o) = Unit {0}
MayTrap (Trapped n c) = Unit {0}

-- R of the work before which an activity stands at a place; whoever waits to enter is admitted besides
abbrev pub AtRunState : (Admitted : LockName → Type 0) (R : Did → Type 0) → RunState → Type 0
AtRunState Admitted R (On w) = R Went
AtRunState Admitted R (Ready p) = R Went
AtRunState Admitted R (At l Entry) = Admitted l × R (Enter l)
AtRunState Admitted R (At l (Condition c)) = R (Await l c)

-- so it is by its place while it runs; from a trap on, R of the work at which it trapped
abbrev pub AtWork : (Admitted : LockName → Type 0) (R : Did → Type 0) → Next → Option RunState → Type 0
AtWork Admitted R Runs None = Unit {0}
AtWork Admitted R Runs (Some p) = AtRunState Admitted R p
AtWork Admitted R (WillTrap n) place = (w : Did) × (MayTrap w × R w)
AtWork Admitted R (Unwinds locks) place = (w : Did) × (MayTrap w × R w)
AtWork Admitted R Gone place = Unit {0}
