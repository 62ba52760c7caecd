-- Which entries of a schedule add trap rows, and which rows.
use Rattle.std.specs.Prelude.{◌≡◌, ℕ, suc, Option, Some, None, List, [], ◌∷◌, ◌++◌, Bool, true, false, if◌then◌else◌, ◌==◌, ◌&&◌, is_some, filter, map, option_map}
use Rattle.aos_base.specs.declared.kernel.Verdict.{Verdict}
use Rattle.aos_base.specs.declared.kernel.Verdict.TheVariants.{Holds, Fails, Traps}
use Rattle.aos_base.specs.declared.kernel.Did.{Did}
use Rattle.aos_base.specs.declared.kernel.Did.TheVariants.{Went, Ended, Enter, Leave, Await, Start, Trapped}
use Rattle.aos_base.specs.declared.kernel.Event.{Event}
use Rattle.aos_base.specs.declared.kernel.Event.TheVariants as event
use Rattle.aos_base.specs.declared.kernel.Outcome.{Outcome}
use Rattle.aos_base.specs.declared.kernel.Outcome.TheVariants as outcome_is
use Rattle.aos_base.specs.Book.{Next, Runs, WillTrap, Unwinds, Gone, Book, TrapRow, on_worker, is_full, may_restart, outcome}
use Rattle.aos_base.specs.Machine.{Choice, Step, Tick, Machine, State, turned, happens}

-- whose turn an entry of a schedule is
abbrev pub turn_of : Choice → Book → Option ℕ
turn_of (Step w) b = on_worker w b.line
turn_of (Tick w) b = None

abbrev pub is_trap : Event → Bool
is_trap (event.Start a) = false
is_trap (event.Enter l a) = false
is_trap (event.Wait l a w) = false
is_trap (event.Pass l a b w) = false
is_trap (event.Free l a) = false
is_trap (event.Trap a n) = true
is_trap (event.End a) = false

-- events without a trap were added, and no trap row
pub record AddsNoTrap (b c : Book) : Type 0 where
  pub told : List Event
  pub events : c.events ≡ b.events ++ told
  pub none : filter is_trap told ≡ []
  pub traps : c.traps ≡ b.traps

abbrev pub event_of : TrapRow → Event
event_of row = event.Trap row.activity row.number

-- one event and one row of a trap were added
pub record AddsTrap (row : TrapRow) (b c : Book) : Type 0 where
  pub events : c.events ≡ b.events ++ event_of row ∷ []
  pub traps : c.traps ≡ b.traps ++ row ∷ []

-- this row was added, if it is one
abbrev pub Adds : Option TrapRow → Book → Book → Type 0
Adds None b c = AddsNoTrap b c
Adds (Some row) b c = AddsTrap row b c

-- the trap rows are those of the trap events, in their order
abbrev pub AreTold : Book → Type 0
AreTold b = filter is_trap b.events ≡ map event_of b.traps

-- why an activity traps
pub record Fault : Type 0 where
  pub number : ℕ
  pub code : ℕ

abbrev pub of_number : ℕ → Fault
of_number n = record { number = n; code = 0 }

abbrev pub is_owner : Option ℕ → ℕ → Bool
is_owner None a = false
is_owner (Some b) a = b == a

abbrev pub fault_in : Verdict → Option Fault
fault_in Holds = None
fault_in Fails = None
fault_in (Traps n) = Some (of_number n)

-- nothing happens once the outcome isn't Going
abbrev pub row_if : Outcome → Option TrapRow → Option TrapRow
row_if outcome_is.Going row = row
row_if outcome_is.Ended row = None
row_if outcome_is.Dead row = None
row_if outcome_is.Spent row = None

module _ {S F : Type 0} (m : Machine S F) where
  -- at the work that a turn has left: the lock's owner asks for it, the condition traps, there is no room for one more activity,
  -- or the turn itself trapped
  abbrev pub fault_at : ℕ → Did → State S F → Option Fault
  fault_at a Went st = None
  fault_at a Ended st = None
  fault_at a (Enter l) st = if is_owner (st.book.owner l) a then Some (of_number 9) else None
  fault_at a (Leave l) st = None
  fault_at a (Await l c) st = fault_in (m.verdict st.store (st.frames a) c)
  fault_at a (Start o) st = if is_full st.book then Some (of_number 13) else None
  fault_at a (Trapped n c) st = Some (record { number = n; code = c })

  -- the row of a trap: its place is that of the frames, and a body that is SAFE begins anew, at most 8 times
  abbrev pub row_of : ℕ → State S F → Fault → TrapRow
  row_of a st why =
      let r = (st.book.activity a).restarts in
      record {
        number = why.number;
        code = why.code;
        activity = a;
        at = m.position (st.frames a);
        restart = if is_some (m.anew (st.frames a)) && may_restart r then suc r else 0;
        calls = [];
      }

  -- the row of an activity's turn, if it traps: behind its own part, or as it is due
  abbrev pub row_in : ℕ → Next → State S F → Option TrapRow
  row_in a Runs st =
      let t = m.turn st.store (st.frames a) in
      let own = turned m a t st in
      option_map (row_of a own) (fault_at a t.left own)
  row_in a (WillTrap n) st = Some (row_of a st (of_number n))
  row_in a (Unwinds locks) st = None
  row_in a Gone st = None

  abbrev pub row_by : Option ℕ → State S F → Option TrapRow
  row_by None st = None
  row_by (Some a) st = row_in a (st.book.activity a).next st

  -- an entry adds a trap row exactly where it tells a trap: that of the turn, where it is one that traps
  abbrev pub RecordsTraps : Choice → State S F → Type 0
  RecordsTraps c st = Adds (row_if (outcome st.book) (row_by (turn_of c st.book) st)) st.book (happens m c st).book
