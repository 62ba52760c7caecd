-- The text that a script is printed as.
use Rattle.std.specs.Prelude.{◌≡◌, ◌==◌, All, ℕ, ◌≤◌, false, List, [], ◌∷◌, ◌++◌, map, codes, decimal}
use Rattle.aos_base.specs.declared.kernel.Sched.{Sched}
use Rattle.aos_base.specs.declared.kernel.Sched.TheVariants.{Steps, Tick}
use Rattle.aos_base.specs.Schedule.{IsEntry}
use Rattle.aos_script.specs.declared.script.Script.{Script}
use Rattle.aos_script.specs.Listing.{head_line}
use Rattle.aos_script.specs.Join.{joined}

-- a script can be printed: its numbers are in their ranges, and each entry is of a worker that there is
pub record IsPrintable (s : Script) : Type 0 where
  pub workers : (1 ≤ s.workers) × (s.workers ≤ 16)
  pub budget : (1 ≤ s.budget) × (s.budget ≤ 1000000000)
  pub entries : All (IsEntry s.workers) s.runs

-- the script with neighbouring runs of one worker joined
abbrev pub joined_script : Script → Script
joined_script s = record { workers = s.workers; budget = s.budget; runs = joined s.runs }

-- the line of an entry
abbrev pub run_line : Sched → List ℕ
run_line (Steps w k) = codes "s " ++ decimal w ++ (codes " " ++ decimal k)
run_line (Tick w) = codes "t " ++ decimal w

-- the lines of a script
abbrev pub script_lines : Script → List (List ℕ)
script_lines s =
    head_line
    ∷ (codes "workers " ++ decimal s.workers)
    ∷ (codes "budget " ++ decimal s.budget)
    ∷ (map run_line (joined s.runs) ++ codes "end" ∷ [])

-- lines as a text: each with the byte 10 behind it
abbrev pub text_of : List (List ℕ) → List ℕ
text_of [] = []
text_of (line ∷ ls) = line ++ 10 ∷ text_of ls

-- a line has no line end in it
abbrev pub IsLine : List ℕ → Type 0
IsLine line = All (λ b. (b == 10) ≡ false) line

abbrev pub AreLines : List (List ℕ) → Type 0
AreLines [] = Unit {0}
AreLines (line ∷ ls) = IsLine line × AreLines ls

abbrev pub script_text : Script → List ℕ
script_text s = text_of (script_lines s)
