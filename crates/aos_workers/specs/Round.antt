-- A round of a worker: at most 256 steps and a tick.
use Rattle.std.specs.Prelude.{◌≡◌, ◌≢◌, ◌⊎◌, ◌<◌, ◌≤◌, ◌==◌, ◌+◌, ℕ, false, if◌then◌else◌, Option, None, List, [], ◌∷◌, ◌++◌}
use Rattle.aos_base.specs.declared.kernel.Outcome.{Outcome}
use Rattle.aos_base.specs.declared.kernel.Outcome.TheVariants.{Going}
use Rattle.aos_base.specs.Book.{on_worker, first_ready, outcome}
use Rattle.aos_base.specs.Machine.{Choice, Step, Tick, Machine, State, happens}
use Rattle.aos_base.specs.Schedule.{choices}
use Rattle.aos_code.specs.Machine.{machine, first_state}
use Rattle.aos_kernel.specs.Run.{Run, state_of}
use Rattle.aos_cell.specs.declared.rule.Part.{Part}
use Rattle.aos_cell.specs.declared.rule.View.{View}
use Rattle.aos_cell.specs.Bound.{turns_after, IsPreempted}
use Rattle.aos_cell.specs.Rule.{AreOf, SameProgram, AddsOthers, HasPart, workers_of}

abbrev pub outcome_of : Run → Outcome
outcome_of r = outcome (state_of r).book

-- the activity that stands on a worker
abbrev pub activity_of : ℕ → Run → Option ℕ
activity_of w r = on_worker w (state_of r).book.line

-- What it makes of the kernel

-- a worker that has made n turns since its last tick or dispatch may make 256 steps: with none, without an activity, or where
-- nothing more happens
abbrev pub IsFresh : ℕ → ℕ → Run → Type 0
IsFresh w n r = (n ≡ 0) ⊎ ((activity_of w r ≡ None) ⊎ (outcome_of r ≢ Going))

-- the worker alone has made entries, and kept the bound if it was fresh
pub record Works (w : ℕ) (old new : Run) : Type 0 where
  pub own : List Choice
  pub added : choices new.log ≡ choices old.log ++ own
  pub all : AreOf (w ∷ []) own
  pub program : SameProgram old new
  pub lent : new.lent ≡ old.lent
  pub preempted : (n : ℕ) → n ≤ 256 → IsFresh w n old → IsPreempted (machine old.image) w own n (state_of old)

-- What it answers

module _ {S F : Type 0} (m : Machine S F) (w : ℕ) where
  -- 1 for a turn of w, and 0 for any other choice
  abbrev pub turn_in : Choice → State S F → ℕ
  turn_in (Step v) st = if v == w then turns_after (on_worker w st.book.line) 0 else 0
  turn_in (Tick v) st = 0

  -- how many turns of w a schedule has
  abbrev pub turns_in : List Choice → State S F → ℕ
  turns_in [] st = 0
  turns_in (c ∷ cs) st = turn_in c st + turns_in cs (happens m c st)

-- the turns that w has made in the execution
abbrev pub turns_made : ℕ → Run → ℕ
turns_made w r = turns_in (machine r.image) w (choices r.log) (first_state r.image r.budget)

-- w has made more turns, unless nothing more happens, or w has no activity and nothing is ready
abbrev pub Advances : ℕ → Run → Run → Type 0
Advances w old new =
    (turns_made w old < turns_made w new)
    ⊎ ((outcome_of new ≢ Going) ⊎ ((activity_of w new ≡ None) × (first_ready (state_of new).book.line ≡ None)))

-- the outcome, with more turns, and no activity is left with the worker where it is Going
abbrev pub Answers : ℕ → Run → Run → Outcome → Type 0
Answers w old new o = (o ≡ outcome_of new) × Advances w old new × (o ≡ Going → activity_of w new ≡ None)

-- By a pass

abbrev pub first_worker : List ℕ → ℕ
first_worker [] = 0
first_worker (w ∷ ws) = w

-- the worker of a pass that has one
abbrev pub worker_in : View → ℕ
worker_in v = first_worker (workers_of v)

-- a pass whose one worker may make a round
pub record Ready (w : ℕ) (p : Part) : Type 0 where
  pub worker : p.workers ≡ w ∷ []
  pub idle : p.has ≡ false
  pub none_lent : p.lent ≡ []
  pub gives : 257 ≤ p.gives
  pub fresh : (activity_of w p.last ≡ None) ⊎ AddsOthers (w ∷ []) p.first p.last  -- no activity, or no entry so far

abbrev pub IsReady : ℕ → View → Type 0
IsReady w v = HasPart (Ready w) v

-- the pass after a round: what was given stands
pub record Rounded (w : ℕ) (p q : Part) : Type 0 where
  pub worker : q.workers ≡ w ∷ []
  pub idle : q.has ≡ false
  pub none_lent : q.lent ≡ []
  pub gives : p.gives ≤ q.gives + 257
  pub first : q.first ≡ p.first
  pub grows : (added : List Choice) × (choices q.last.log ≡ choices p.last.log ++ added)

abbrev pub HasRounded : ℕ → View → View → Type 0
HasRounded w v after = HasPart (λ p. HasPart (Rounded w p) after) v

-- of the logs that a pass gave or took last, before a round and after it
abbrev pub RoundAnswers : ℕ → View → View → Outcome → Type 0
RoundAnswers w v after o = HasPart (λ p. HasPart (λ q. Answers w p.last q.last o) after) v
