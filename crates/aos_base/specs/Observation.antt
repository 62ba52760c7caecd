-- What is seen of an execution.
use Rattle.std.specs.Prelude.{ℕ, zero, suc, Option, Some, None, List, [], ◌∷◌, ◌++◌, Bool, not}
use Rattle.aos_base.specs.declared.kernel.LockName.{LockName}
use Rattle.aos_base.specs.declared.kernel.Outcome.{Outcome}
use Rattle.aos_base.specs.declared.kernel.Outcome.TheVariants.{Going, Ended, Dead, Spent}
use Rattle.aos_base.specs.Lock.{enters}
use Rattle.aos_base.specs.Book.{RunState, On, Ready, At, Stand, Where, TrapRow, place_of, outcome}
use Rattle.aos_base.specs.Machine.{Machine, State}

-- who waits for a lock: to enter, or else for a condition
pub record WaitRow : Type 0 where
  pub activity : ℕ
  pub lock : LockName
  pub awaits : Bool
  pub at : Where

pub record Observation : Type 0 where
  pub outcome : Outcome
  pub output : List ℕ
  pub traps : List TrapRow
  pub waits : List WaitRow  -- where the outcome is Dead
  pub spent : Option ℕ  -- who used up the budget, where it is Spent
  pub status : ℕ

-- Ended without and with a trap, Dead, Spent, and Going
abbrev pub status_of : Outcome → List TrapRow → ℕ
status_of Ended [] = 0
status_of Ended (t ∷ ts) = 3
status_of Dead traps = 4
status_of Spent traps = 5
status_of Going traps = 9

abbrev pub waits_if : Outcome → List WaitRow → List WaitRow
waits_if Dead rows = rows
waits_if Going rows = []
waits_if Ended rows = []
waits_if Spent rows = []

abbrev pub spent_if : Outcome → Option ℕ → Option ℕ
spent_if Spent a = a
spent_if Going a = None
spent_if Ended a = None
spent_if Dead a = None

module _ {S F : Type 0} (m : Machine S F) where
  abbrev pub wait_row : ℕ → Option RunState → F → List WaitRow
  wait_row a None f = []
  wait_row a (Some (On w)) f = []
  wait_row a (Some (Ready p)) f = []
  wait_row a (Some (At l wants)) f = record { activity = a; lock = l; awaits = not (enters wants); at = m.position f } ∷ []

  -- of the activities below k, in their order
  abbrev pub waits_below : ℕ → List Stand → (ℕ → F) → List WaitRow
  waits_below zero line frames = []
  waits_below (suc k) line frames = waits_below k line frames ++ wait_row k (place_of line k) (frames k)

  unfoldable pub observation : State S F → Observation
  observation st =
      let o = outcome st.book in
      record {
        outcome = o;
        output = st.book.output;
        traps = st.book.traps;
        waits = waits_if o (waits_below st.book.started st.book.line st.frames);
        spent = spent_if o st.book.spent;
        status = status_of o st.book.traps;
      }
