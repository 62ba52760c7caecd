-- What the functions that read single lines say.
use Rattle.std.specs.Prelude.{◌≡◌, ◌≢◌, All, ℕ, ◌≤◌, ◌+◌, List, [], ◌∷◌, ◌++◌, length, codes}
use Rattle.aos_base.specs.declared.kernel.Sched.{Sched}
use Rattle.aos_base.specs.Schedule.{IsEntry}
use Rattle.aos_script.specs.declared.error.ScriptErr.{ScriptErr}
use Rattle.aos_script.specs.declared.error.ScriptErr.TheVariants.{BadLine, BadWorker, NoMemory}
use Rattle.aos_script.specs.declared.line.Flaw.{Flaw}
use Rattle.aos_script.specs.declared.line.Flaw.TheVariants.{Form, Worker}
use Rattle.aos_script.specs.Number.{IsNumber}
use Rattle.aos_script.specs.Listing.{AreSkipped, IsSetting, IsRun, AreRuns}

-- lines that are skipped, up to those that are left, of which the first has this number
pub record Skips (ls : List (List ℕ)) (n : ℕ) (left : List (List ℕ)) : Type 0 where
  pub skipped : List (List ℕ)
  pub whole : ls ≡ skipped ++ left
  pub others : AreSkipped skipped
  pub counted : n ≡ length skipped + 1

-- the first of the lines isn't this setting, or there is no line
abbrev pub LacksSetting : List ℕ → ℕ → List (List ℕ) → Type 0
LacksSetting name most [] = Unit {0}
LacksSetting name most (line ∷ ls) = (n : ℕ) → ¬ IsSetting name most line n

-- the first of the lines is this setting, and more are behind it
pub record TakesSetting (name : List ℕ) (most : ℕ) (ls : List (List ℕ)) (n : ℕ) (more : List (List ℕ)) : Type 0 where
  pub line : List ℕ
  pub whole : ls ≡ line ∷ more
  pub setting : IsSetting name most line n

-- no number; or one that isn't below the number of workers
abbrev pub LacksWorker : ℕ → List ℕ → Flaw → Type 0
LacksWorker workers word Form = (n : ℕ) → ¬ IsNumber word n
LacksWorker workers word Worker = (n : ℕ) × IsNumber word n × (workers ≤ n)

-- no run line; or one of a worker that there isn't
abbrev pub HasFlaw : ℕ → List ℕ → Flaw → Type 0
HasFlaw workers line Form = (r : Sched) → ¬ IsRun line r
HasFlaw workers line Worker = (r : Sched) × IsRun line r × ¬ IsEntry workers r

-- run lines of workers that there are, up to the lines that are left
pub record ReadsRuns (workers : ℕ) (ls : List (List ℕ)) (runs : List Sched) (left : List (List ℕ)) : Type 0 where
  pub before : List (List ℕ)
  pub whole : ls ≡ before ++ left
  pub each : AreRuns before runs
  pub entries : All (IsEntry workers) runs

-- the first of the lines is neither a run line nor the last, or there is no line
abbrev pub GoesWrong : List (List ℕ) → Type 0
GoesWrong [] = Unit {0}
GoesWrong (line ∷ ls) = (line ≢ codes "end") × ((r : Sched) → ¬ IsRun line r)

-- where run lines, the first of which has this number, go wrong
pub data FailsAt (workers first : ℕ) (ls : List (List ℕ)) : ScriptErr → Type 0 where
  no_run : {n : ℕ} (runs : List Sched) (left : List (List ℕ)) → ReadsRuns workers ls runs left → GoesWrong left → n ≡ length runs + first → FailsAt workers first ls (BadLine n)
  behind_end : {n : ℕ} (runs : List Sched) (left : List (List ℕ)) → ReadsRuns workers ls runs (codes "end" ∷ left) → left ≢ [] → n ≡ length runs + first + 1 → FailsAt workers first ls (BadLine n)
  no_worker : {n : ℕ} (runs : List Sched) (line : List ℕ) (left : List (List ℕ)) → ReadsRuns workers ls runs (line ∷ left) → HasFlaw workers line Worker → n ≡ length runs + first → FailsAt workers first ls (BadWorker n)
  no_memory : FailsAt workers first ls NoMemory
