-- The store and the frames of those that act: what the kernel's part of an execution does to them.
use Rattle.std.specs.Prelude.{◌≡◌, ℕ, nat_eq, Option, Some, None}
use Rattle.aos_base.specs.declared.kernel.LockName.{LockName}
use Rattle.aos_base.specs.declared.kernel.Did.{Did}
use Rattle.aos_base.specs.declared.kernel.Did.TheVariants.{Went, Start}
use Rattle.aos_base.specs.Book.{Next, Runs, WillTrap, Unwinds, Gone, put}
use Rattle.aos_base.specs.Machine.{Machine, State}
use Rattle.aos_concurrency.specs.LocalState.{local_state, GoesPast, MayTrap}

module _ {S F : Type 0} (m : Machine S F) where
  abbrev pub acts : Next → F → Option F
  acts Runs f = Some f
  acts (WillTrap n) f = m.anew f
  acts (Unwinds locks) f = m.anew f
  acts Gone f = None

  -- the frames with which each activity goes on: its own or, from a trap on, those with which it may begin anew
  abbrev pub acting : State S F → ℕ → Option F
  acting st a = acts (local_state st a).next (local_state st a).frames

module _ {S F : Type 0} (m : Machine S F) (Admitted : LockName → F → Type 0) (Fits : S → Did → F → Type 0) where
  -- The five ways in which the store and the frames of those that act change, with `own` the frames of the activity a.
  -- Whoever begins anew changes nothing.
  pub data Change : S → (ℕ → Option F) → S → (ℕ → Option F) → Type 0 where
    -- it makes its own part of a turn
    ByTurn : (store : S) (frames : ℕ → Option F) (a : ℕ) (own : F)
        → frames a ≡ Some own → Fits store Went own
        → Change store frames (m.turn store own).store (put nat_eq frames a (Some (m.turn store own).frames))
    -- it goes past the work that it left to the kernel
    ByGoingPast : (store : S) (frames : ℕ → Option F) (a : ℕ) (work : Did) (own : F)
        → frames a ≡ Some own → GoesPast Admitted work own → Fits store work own
        → Change store frames store (put nat_eq frames a (Some (m.past own)))
    -- it starts a new one, the activity of the object o
    ByStart : (store : S) (frames : ℕ → Option F) (new a o : ℕ) (own : F)
        → frames new ≡ None → frames a ≡ Some own → Fits store (Start o) own
        → Change store frames store (put nat_eq frames new (Some (m.body store o)))
    -- it traps: its frames give way to those with which it may begin anew
    ByTrap : (store : S) (frames : ℕ → Option F) (a : ℕ) (work : Did) (own : F)
        → frames a ≡ Some own → MayTrap work → Fits store work own
        → Change store frames store (put nat_eq frames a (m.anew own))
    -- it ends
    ByEnd : (store : S) (frames : ℕ → Option F) (a : ℕ) (own : F) → frames a ≡ Some own
        → Change store frames store (put nat_eq frames a None)

  -- one change after another
  pub data Changes : S → (ℕ → Option F) → S → (ℕ → Option F) → Type 0 where
    Unchanged : (store : S) (frames : ℕ → Option F) → Changes store frames store frames
    OneThen : (store : S) (frames : ℕ → Option F) (next : S) (next_frames : ℕ → Option F) (last : S) (last_frames : ℕ → Option F)
        → Change store frames next next_frames → Changes next next_frames last last_frames
        → Changes store frames last last_frames

  -- an invariant of the machine that each of the five ways keeps
  abbrev pub KeepsTidy : (Tidy : S → (ℕ → Option F) → Type 0) → Type 0
  KeepsTidy Tidy =
      (store : S) (frames : ℕ → Option F) (next : S) (next_frames : ℕ → Option F)
      → Change store frames next next_frames → Tidy store frames → Tidy next next_frames
