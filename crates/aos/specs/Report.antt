-- What is written beside a run's output.
use Rattle.std.specs.Prelude.{ℕ, List, [], ◌++◌, length, Option, Some, None, Bool, true, false}
use Rattle.aos_base.specs.declared.kernel.Outcome.{Outcome}
use Rattle.aos_base.specs.declared.kernel.Outcome.TheVariants.{Going, Ended, Dead, Spent}
use Rattle.aos_base.specs.Book.{TrapRow}
use Rattle.aos_base.specs.Observation.{WaitRow, Observation}
use Rattle.aos_report.specs.Texts.{rows_text, waits_text, budget_text}
use Rattle.aos_report.specs.Texts.{script_ended_text, script_refused_text, no_worker_text}
use Rattle.aos_script.specs.declared.script.Script.{Script}
use Rattle.aos_script.specs.declared.error.ScriptErr.{ScriptErr}
use Rattle.aos_script.specs.declared.error.ScriptErr.TheVariants.{BadLine, BadWorker, NoMemory}
use Rattle.aos_script.specs.Listing.{choices_of}
use Rattle.aos_script.specs.Print.{script_text}

abbrev pub spent_text : Option ℕ → ℕ → List ℕ
spent_text None budget = []
spent_text (Some a) budget = budget_text a budget

-- the lines of the traps, then those of who waits, and then the line of the activity that used up
-- the budget
abbrev pub report_of : List (List ℕ) → ℕ → List TrapRow → List WaitRow → Option ℕ → List ℕ
report_of names budget traps waits spent =
    rows_text names traps ++ waits_text names waits ++ spent_text spent budget

abbrev pub report : List (List ℕ) → ℕ → Observation → List ℕ
report names budget o = report_of names budget o.traps o.waits o.spent

-- where the log is wanted, the text of the script that it is
abbrev pub log_text : (log : Bool) → Script → List ℕ
log_text true s = script_text s
log_text false s = []

-- those of a run by workers, whose schedule is this script's
abbrev pub run_report : (log : Bool) → List (List ℕ) → Script → Observation → List ℕ
run_report log names s o = report names s.budget o ++ log_text log s

-- the line of a script that came to its end while the run was going on
abbrev pub ended_text : Outcome → ℕ → List ℕ
ended_text Going steps = script_ended_text steps
ended_text Ended steps = []
ended_text Dead steps = []
ended_text Spent steps = []

-- the same of a run by a script
abbrev pub replay_report : List (List ℕ) → Script → Observation → List ℕ
replay_report names s o =
    report names s.budget o ++ ended_text o.outcome (length (choices_of s))

-- the line of a text that is no script
abbrev pub script_line : ScriptErr → List ℕ
script_line (BadLine n) = script_refused_text n
script_line (BadWorker n) = no_worker_text n
script_line NoMemory = []
