-- What is seen of a program's execution.
use Rattle.std.specs.Prelude.{◌≡◌, ◌≢◌, ℕ, List, []}
use Rattle.aos_base.specs.declared.kernel.Outcome.TheVariants.{Going, Ended, Dead, Spent}
use Rattle.aos_base.specs.declared.kernel.Event.{Event}
use Rattle.aos_base.specs.declared.kernel.Sched.{Sched}
use Rattle.aos_base.specs.Machine.{Choice, execution}
use Rattle.aos_base.specs.Observation.{Observation, observation}
use Rattle.aos_base.specs.Schedule.{choices}
use Rattle.aos_typed.specs.Program.{Program}
use Rattle.aos_typed.specs.Source.{source, first_state}
use Rattle.aos_script.specs.declared.script.Script.{Script}
use Rattle.aos_script.specs.Listing.{choices_of}
use Rattle.aos_script.specs.Print.{IsPrintable}
use Rattle.aos_cell.specs.Bound.{IsPreempted}

-- the observation of the program's execution under a schedule, with a budget
unfoldable pub seen_of : Program → ℕ → List Choice → Observation
seen_of p budget schedule =
    observation (source p) (execution (source p) schedule (first_state p budget))

-- that under a script, with its budget
abbrev pub replay_of : Program → Script → Observation
replay_of p s = seen_of p s.budget (choices_of s)

-- the events of the program's execution under a schedule, with a budget
unfoldable pub events_of : Program → ℕ → List Choice → List Event
events_of p budget schedule =
    (execution (source p) schedule (first_state p budget)).book.events

-- those under a script, with its budget
abbrev pub replay_events : Program → Script → List Event
replay_events p s = events_of p s.budget (choices_of s)

-- a schedule, written as entries, of so many workers with a budget, as a script
abbrev pub script_of : (workers budget : ℕ) → List Sched → Script
script_of workers budget schedule =
    record { workers = workers; budget = budget; runs = schedule }

-- The observation of the program's execution under some schedule of so many workers, at whose end
-- nothing more happens. As a script the schedule can be printed: the numbers are in their ranges, and
-- each step and tick is of one of the workers. None of these makes more than 256 turns without a tick
-- or a dispatch of it between them.
pub record Seen (workers budget : ℕ) (p : Program) (o : Observation) : Type 0 where
  pub schedule : List Sched
  pub script : IsPrintable (script_of workers budget schedule)
  pub preempted : (w : ℕ) → IsPreempted (source p) w (choices schedule) 0 (first_state p budget)
  pub over : o.outcome ≢ Going
  pub seen : o ≡ replay_of p (script_of workers budget schedule)

-- What may be seen at the end

abbrev pub EndsWell : Observation → Type 0
EndsWell o = (o.outcome ≡ Ended) × (o.traps ≡ [])

abbrev pub EndsWithTrap : Observation → Type 0
EndsWithTrap o = (o.outcome ≡ Ended) × (o.traps ≢ [])

abbrev pub IsDead : Observation → Type 0
IsDead o = o.outcome ≡ Dead

abbrev pub IsSpent : Observation → Type 0
IsSpent o = o.outcome ≡ Spent

abbrev pub IsGoing : Observation → Type 0
IsGoing o = o.outcome ≡ Going
