-- Why a text is no script: the first line that can't stand where it stands.
use Rattle.std.specs.Prelude.{◌≡◌, All, ℕ, ◌≤◌, ◌+◌, ◌-◌, ◌⊎◌, List, ◌++◌, length, take}
use Rattle.aos_base.specs.Schedule.{IsEntry}
use Rattle.aos_script.specs.declared.script.Script.{Script}
use Rattle.aos_script.specs.declared.error.ScriptErr.{ScriptErr}
use Rattle.aos_script.specs.declared.error.ScriptErr.TheVariants.{BadLine, BadWorker, NoMemory}
use Rattle.aos_script.specs.Words.{lines}
use Rattle.aos_script.specs.Listing.{IsListing}

-- some lines in the form of a script begin with these
pub record BeginsListing (ls : List (List ℕ)) : Type 0 where
  pub script : Script
  pub more : List (List ℕ)
  pub listing : IsListing (ls ++ more) script

-- those of some script do
pub record BeginsScript (ls : List (List ℕ)) : Type 0 where
  pub script : Script
  pub more : List (List ℕ)
  pub listing : IsListing (ls ++ more) script
  pub workers : All (IsEntry script.workers) script.runs

-- The lines before this one begin a script. With it they begin nothing of the form; or it is missing, behind the last line.
pub record IsBadLine (text : List ℕ) (n : ℕ) : Type 0 where
  pub counted : 1 ≤ n
  pub before : BeginsScript (take (n - 1) (lines text))
  pub bad : ((n ≤ length (lines text)) × ¬ BeginsListing (take n (lines text)))
      ⊎ ((n ≡ length (lines text) + 1) × ((s : Script) → ¬ IsListing (lines text) s))

-- The lines before this one begin a script. With it they have the form, but begin no script.
pub record IsBadWorker (text : List ℕ) (n : ℕ) : Type 0 where
  pub counted : 1 ≤ n
  pub within : n ≤ length (lines text)
  pub before : BeginsScript (take (n - 1) (lines text))
  pub form : BeginsListing (take n (lines text))
  pub bad : ¬ BeginsScript (take n (lines text))

-- the text is refused with this
abbrev pub IsRefused : List ℕ → ScriptErr → Type 0
IsRefused text (BadLine n) = IsBadLine text n
IsRefused text (BadWorker n) = IsBadWorker text n
IsRefused text NoMemory = ⊥
