-- The files that a command wants.
use Rattle.std.specs.Prelude.{◌≡◌, ℕ, List, [], ◌∷◌, ◌++◌, map, slice_get, unwrap_or}
use Rattle.aos_gen.specs.Generated.{file_name, module_text}
use Rattle.aos_words.specs.Words.{Words, Command, Run, Replay, Check, List_, Gen}

-- a file that a command wants, and the most bytes that it may have
pub record Wanted : Type 0 where
  pub file : List ℕ
  pub most : ℕ

-- the most bytes of a module's text, and of a script
abbrev pub text_limit : ℕ
text_limit = 1048576

abbrev pub script_limit : ℕ
script_limit = 67108864

abbrev pub text_file : List ℕ → Wanted
text_file file = record { file = file; most = text_limit }

abbrev pub text_files : Words → List Wanted
text_files files = map text_file files

abbrev pub script_file : List ℕ → Wanted
script_file file = record { file = file; most = script_limit }

-- the files that a command wants, in the order in which they are fetched
abbrev pub wanted_files : Command → List Wanted
wanted_files (Run workers budget log files) = text_files files
wanted_files (Replay script watch files) = script_file script ∷ text_files files
wanted_files (Check files) = text_files files
wanted_files (List_ files) = text_files files
wanted_files (Gen workers pairs) = []

-- this file is wanted, behind those before it
pub record IsWanted (files : List Wanted) (w : Wanted) : Type 0 where
  pub before : List Wanted
  pub others : List Wanted
  pub order : files ≡ before ++ w ∷ others

-- the file of the generated module, which is made and not fetched, and its text with so many pairs
abbrev pub gen_files : Words
gen_files = file_name ∷ []

abbrev pub gen_texts : (pairs : ℕ) → List (List ℕ)
gen_texts pairs = module_text pairs ∷ []

-- the name of the file with this number, counted from 0 in the order of the command
abbrev pub name_of : Words → ℕ → List ℕ
name_of files number = unwrap_or (slice_get files number) []
