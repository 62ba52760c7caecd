-- What the lines of a script say.
use Rattle.std.specs.Prelude.{◌≡◌, ◌≢◌, All, ℕ, ◌≤◌, List, [], ◌∷◌, ◌++◌, codes}
use Rattle.aos_base.specs.declared.kernel.Sched.{Sched}
use Rattle.aos_base.specs.declared.kernel.Sched.TheVariants.{Steps, Tick}
use Rattle.aos_base.specs.Machine.{Choice}
use Rattle.aos_base.specs.Schedule.{IsEntry, choices}
use Rattle.aos_script.specs.declared.script.Script.{Script}
use Rattle.aos_script.specs.Words.{lines, words}
use Rattle.aos_script.specs.Number.{IsNumber}

-- the first line of a script
abbrev pub head_line : List ℕ
head_line = codes "aos-script 1"

-- what may stand before a script: lines none of which is its first
abbrev pub AreSkipped : List (List ℕ) → Type 0
AreSkipped [] = Unit {0}
AreSkipped (line ∷ ls) = (line ≢ head_line) × AreSkipped ls

-- NAME N, a number from 1 to a limit
pub record IsSetting (name : List ℕ) (most : ℕ) (line : List ℕ) (n : ℕ) : Type 0 where
  pub word : List ℕ
  pub is : words line ≡ name ∷ word ∷ []
  pub number : IsNumber word n
  pub low : 1 ≤ n
  pub high : n ≤ most

-- s W K: so many steps of a worker, which may be any number
pub record IsSteps (line : List ℕ) (w k : ℕ) : Type 0 where
  pub worker : List ℕ
  pub steps : List ℕ
  pub is : words line ≡ codes "s" ∷ worker ∷ steps ∷ []
  pub of : IsNumber worker w
  pub number : IsNumber steps k
  pub low : 1 ≤ k
  pub high : k ≤ 1000000000

-- t W: a tick of a worker
pub record IsTick (line : List ℕ) (w : ℕ) : Type 0 where
  pub worker : List ℕ
  pub is : words line ≡ codes "t" ∷ worker ∷ []
  pub of : IsNumber worker w

-- a run line, and the entry that it stands for
abbrev pub IsRun : List ℕ → Sched → Type 0
IsRun line (Steps w k) = IsSteps line w k
IsRun line (Tick w) = IsTick line w

-- each line is a run line and stands for the entry at its place
abbrev pub AreRuns : List (List ℕ) → List Sched → Type 0
AreRuns [] [] = Unit {0}
AreRuns [] (r ∷ runs) = ⊥
AreRuns (line ∷ ls) [] = ⊥
AreRuns (line ∷ ls) (r ∷ runs) = IsRun line r × AreRuns ls runs

-- Lines in the form of a script: those that are skipped, its first line, two settings, run lines, and `end`. A worker
-- may be any number.
pub record IsListing (ls : List (List ℕ)) (s : Script) : Type 0 where
  pub skipped : List (List ℕ)
  pub workers_line : List ℕ
  pub budget_line : List ℕ
  pub run_lines : List (List ℕ)
  pub whole : ls ≡ skipped ++ head_line ∷ workers_line ∷ budget_line ∷ (run_lines ++ codes "end" ∷ [])
  pub others : AreSkipped skipped
  pub workers : IsSetting (codes "workers") 16 workers_line s.workers
  pub budget : IsSetting (codes "budget") 1000000000 budget_line s.budget
  pub runs : AreRuns run_lines s.runs

-- a text is a script and says this: it has the form, and each worker is below the number of workers
pub record IsScript (text : List ℕ) (s : Script) : Type 0 where
  pub listing : IsListing (lines text) s
  pub workers : All (IsEntry s.workers) s.runs

-- the choices of a schedule that a script stands for
abbrev pub choices_of : Script → List Choice
choices_of s = choices s.runs
