-- The words of the command line, and the command that they are.
use Rattle.std.specs.Prelude.{◌≡◌, ℕ, ◌≤◌, nat_le, ◌&&◌, List, [], ◌∷◌, length, map}
use Rattle.std.specs.Prelude.{Option, Some, None, Bool, false, option_map, option_and_then, if◌then◌else◌}
use Rattle.std.specs.Prelude.{codes, String, string_bytes}
use Rattle.std.specs.Option.{option_map_or}
use Rattle.std.specs.Str.{bytes_eq}
use Rattle.std.specs.Borrow.{Bor}
use Rattle.std.specs.declared.alloc.Global.{Global}
use Rattle.clap.specs.Walk.{Row, Text, all_of, first_of, is_empty}
use Rattle.clap.specs.Simple.{App, matches_of}
use Rattle.clap.specs.Faults.{fault_of}
use Rattle.aos_words.specs.Number.{number_in}
use Rattle.aos_words.specs.Forms.{run_form, replay_form, files_form, gen_form}

-- words, each of them bytes
abbrev pub Words : Type 0
Words = List (List ℕ)

abbrev pub words_of : List (String Global) → Words
words_of words = map (λ w. string_bytes w) words

-- the same of words that are borrowed
abbrev pub borrowed : List (Bor (List ℕ)) → Words
borrowed words = map (λ w. w.now) words

-- a command: to run files with so many workers and a budget, and to tell the log of that run or not,
-- to run them by a script, and to tell what its probes saw or not, to tell which of their conditions
-- are local, or to tell their storage layout; or to run the generated module of so many pairs with so
-- many workers
pub data Command : Type 0 where
  Run : (workers budget : ℕ) → (log : Bool) → (files : Words) → Command
  Replay : (script : List ℕ) → (watch : Bool) → (files : Words) → Command
  Check : (files : Words) → Command
  List_ : (files : Words) → Command
  Gen : (workers pairs : ℕ) → Command

abbrev pub most_workers : ℕ
most_workers = 16

abbrev pub most_budget : ℕ
most_budget = 1000000000

abbrev pub default_budget : ℕ
default_budget = 1000000

abbrev pub most_files : ℕ
most_files = 64

abbrev pub most_pairs : ℕ
most_pairs = 500

-- What clap finds under the names of a command

-- the number in a word, or the default where there is no word
abbrev pub number_or : ℕ → ℕ → ℕ → Option Text → Option ℕ
number_or least most default None = Some default
number_or least most default (Some word) = number_in least most word

abbrev pub workers_of : List Row → Option ℕ
workers_of rows = number_or 1 most_workers 1 (first_of (codes "workers") rows)

abbrev pub budget_of : List Row → Option ℕ
budget_of rows = number_or 1 most_budget default_budget (first_of (codes "budget") rows)

-- whether the option of this name is there, which has no value
abbrev pub is_set : Text → List Row → Bool
is_set name rows = option_map_or (λ t. bytes_eq t (codes "true")) (first_of name rows) false

abbrev pub few : Words → Option Words
few files =
    if nat_le 1 (length files) && nat_le (length files) most_files then Some files else None

abbrev pub files_of : List Row → Option Words
files_of rows = option_and_then few (all_of (codes "FILE") rows)

abbrev pub run_of : List Row → Option Command
run_of rows =
    option_and_then (λ workers. option_and_then (λ budget. option_map (λ files.
    Run workers budget (is_set (codes "log") rows) files)
    (files_of rows)) (budget_of rows)) (workers_of rows)

abbrev pub replay_of : List Row → Option Command
replay_of rows =
    option_and_then (λ script. option_map (λ files.
    Replay script (is_set (codes "watch") rows) files)
    (files_of rows)) (first_of (codes "script") rows)

abbrev pub pairs_of : List Row → Option ℕ
pairs_of rows = option_and_then (number_in 1 most_pairs) (first_of (codes "N") rows)

abbrev pub gen_of : List Row → Option Command
gen_of rows =
    option_and_then (λ workers. option_map (λ pairs. Gen workers pairs) (pairs_of rows))
    (workers_of rows)

-- The command that words are

-- what clap finds in words for a simple command, the first of which stands for the program's name;
-- None where its definition doesn't take the words behind that
abbrev pub taken : App → Words → Option (List Row)
taken form words = if is_empty (fault_of form words) then Some (matches_of form words) else None

-- what is made of it
abbrev pub by : {A : Type 0} → App → (List Row → Option A) → Words → Option A
by form made words = option_and_then made (taken form words)

abbrev pub check_of : Words → Option Command
check_of words = option_map (λ files. Check files) (by (files_form (codes "check")) files_of words)

abbrev pub list_of : Words → Option Command
list_of words = option_map (λ files. List_ files) (by (files_form (codes "list")) files_of words)

abbrev pub command_by : List ℕ → Words → Option Command
command_by name words =
    if bytes_eq name (codes "run") then by run_form run_of words
    else if bytes_eq name (codes "replay") then by replay_form replay_of words
    else if bytes_eq name (codes "check") then check_of words
    else if bytes_eq name (codes "list") then list_of words
    else if bytes_eq name (codes "gen") then by gen_form gen_of words
    else None

-- the command that words are; None where they are none
abbrev pub command_of : Words → Option Command
command_of [] = None
command_of (name ∷ others) = command_by name (name ∷ others)

-- the words are this command
abbrev pub Asks : Words → Command → Type 0
Asks words c = command_of words ≡ Some c

-- What is known of any command that words are

abbrev pub IsWithin : (least most : ℕ) → ℕ → Type 0
IsWithin least most n = (least ≤ n) × (n ≤ most)

abbrev pub AreFew : Words → Type 0
AreFew files = IsWithin 1 most_files (length files)

pub record RunsInRange (workers budget : ℕ) (files : Words) : Type 0 where
  pub workers_in : IsWithin 1 most_workers workers
  pub budget_in : IsWithin 1 most_budget budget
  pub files_in : AreFew files

pub record GenInRange (workers pairs : ℕ) : Type 0 where
  pub workers_in : IsWithin 1 most_workers workers
  pub pairs_in : IsWithin 1 most_pairs pairs

-- its numbers are in their ranges
abbrev pub IsInRange : Command → Type 0
IsInRange (Run workers budget log files) = RunsInRange workers budget files
IsInRange (Replay script watch files) = AreFew files
IsInRange (Check files) = AreFew files
IsInRange (List_ files) = AreFew files
IsInRange (Gen workers pairs) = GenInRange workers pairs
