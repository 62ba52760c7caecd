-- Schedules written as entries: runs of steps, and ticks.
use Rattle.std.specs.Prelude.{ℕ, ◌<◌, ◌≤◌, List, [], ◌∷◌, ◌++◌, replicate}
use Rattle.aos_base.specs.declared.kernel.Sched.{Sched}
use Rattle.aos_base.specs.declared.kernel.Sched.TheVariants.{Steps, Tick as TickEntry}
use Rattle.aos_base.specs.Machine.{Choice, Step, Tick}

-- the choices that an entry stands for
abbrev pub entry_choices : Sched → List Choice
entry_choices (Steps w k) = replicate k (Step w)
entry_choices (TickEntry w) = Tick w ∷ []

-- the choices that a list of entries stands for
abbrev pub choices : List Sched → List Choice
choices [] = []
choices (e ∷ log) = entry_choices e ++ choices log

-- an entry is of one of so many workers, and a run has 1 to 10^9 steps
abbrev pub IsEntry : ℕ → Sched → Type 0
IsEntry workers (Steps w k) = (w < workers) × (1 ≤ k) × (k ≤ 1000000000)
IsEntry workers (TickEntry w) = w < workers
