-- The causes of the program's answers.
use Rattle.std.specs.Prelude.{◌≡◌, ℕ, List, [], ◌∷◌, ◌++◌, Bool, false, None}
use Rattle.aos_base.specs.declared.text.Pos.{Pos}
use Rattle.aos_base.specs.declared.text.Refusal.{Refusal}
use Rattle.aos_base.specs.Observation.{Observation}
use Rattle.aos_typed.specs.Program.{Program}
use Rattle.aos_typed.specs.WellTyped.{IsWellTyped}
use Rattle.aos_report.specs.Texts.{refusal_text, usage_text, unread_text, too_long_text}
use Rattle.aos_script.specs.declared.script.Script.{Script}
use Rattle.aos_script.specs.declared.error.ScriptErr.{ScriptErr}
use Rattle.aos_script.specs.Listing.{IsScript}
use Rattle.aos_script.specs.Refusals.{IsRefused as IsRefusedScript}
use Rattle.aos_symbols.specs.Outcome.{went, refused as refused_by}
use Rattle.aos_compile.specs.Elaborates.{ComesTo, names_of}
use Rattle.aos_words.specs.Words.{Words, Command, Run, Replay, Check, List_, Gen, command_of, Asks, default_budget}
use Rattle.aos.specs.Wanted.{Wanted, wanted_files, IsWanted, gen_files, gen_texts, name_of}
use Rattle.aos.specs.Call.{ShelfUse, SinkUse, ProbesUse, Call, ShelfFailed, SinkFailed}
use Rattle.aos.specs.Call.{GotWhole, GotPart, GotNothing}
use Rattle.aos.specs.Fetched.{NoFile, LongFile, Fetches, AreHad, Had}
use Rattle.aos.specs.Report.{run_report, replay_report, script_line}
use Rattle.aos.specs.Seen.{Seen, replay_of, replay_events, script_of}
use Rattle.aos.specs.Told.{IsToldBy}
use Rattle.aos.specs.Watched.{Watched, watch_text}

abbrev pub whole : Pos
whole = record { line = 0; col = 0 }

-- the words are this command, and all files that it wants are had, with these texts
pub record Has (words : Words) (shelf : ShelfUse) (c : Command) (all : List (List ℕ))
    : Type 0 where
  pub asks : Asks words c
  pub had : Had shelf.texts (wanted_files c) all

-- The words are a command that runs the modules of these files, which have these texts, by so many
-- workers with a budget, and tells the log of the run or not. It fetches the files, or it generates
-- the one module and fetches nothing.
pub data Runs (words : Words) (shelf : ShelfUse)
    : (workers budget : ℕ) (log : Bool) (files : Words) (texts : List (List ℕ)) → Type 0 where
  of_files : {workers budget : ℕ} {log : Bool} {files texts : List (List ℕ)}
      → Has words shelf (Run workers budget log files) texts
      → Runs words shelf workers budget log files texts
  of_pairs : {workers pairs : ℕ} → Has words shelf (Gen workers pairs) []
      → Runs words shelf workers default_budget false gen_files (gen_texts pairs)

-- the words are a command whose modules are these files, which have these texts; where it has a
-- script, that is one
pub data Takes (words : Words) (shelf : ShelfUse)
    : (files : Words) → (texts : List (List ℕ)) → Type 0 where
  to_run : {workers budget : ℕ} {log : Bool} {files texts : List (List ℕ)}
      → Runs words shelf workers budget log files texts → Takes words shelf files texts
  to_replay : {script listing : List ℕ} {watch : Bool} {files texts : List (List ℕ)} (s : Script)
      → Has words shelf (Replay script watch files) (listing ∷ texts) → IsScript listing s
      → Takes words shelf files texts
  to_check : {files texts : List (List ℕ)} → Has words shelf (Check files) texts
      → Takes words shelf files texts
  to_list : {files texts : List (List ℕ)} → Has words shelf (List_ files) texts
      → Takes words shelf files texts

-- what is known of a program that was compiled
pub record IsCompiled (p : Program) : Type 0 where
  pub typed : IsWellTyped p

-- each cause of an answer, with the status and the texts for the two sinks
pub data Cause (words : Words) (shelf : ShelfUse) (probes : ProbesUse)
    : (status : ℕ) → (out err : List ℕ) → Type 0 where
  -- the words are no command
  wrong_words : command_of words ≡ None → Cause words shelf probes 2 [] usage_text
  -- the shelf failed at a file, and those before it are had
  unread : {c : Command} {w : Wanted} → Asks words c → (is : IsWanted (wanted_files c) w)
      → AreHad shelf.texts is.before → ShelfFailed shelf
      → Cause words shelf probes 6 [] (unread_text w.file)
  -- the first file that isn't had is absent, or too long
  absent : {c : Command} {w : Wanted} → Asks words c → IsWanted (wanted_files c) w
      → Fetches shelf.texts (wanted_files c) (NoFile w.file)
      → Cause words shelf probes 1 [] (refusal_text w.file 1 whole)
  too_long : {c : Command} {w : Wanted} → Asks words c → IsWanted (wanted_files c) w
      → Fetches shelf.texts (wanted_files c) (LongFile w.file w.most)
      → Cause words shelf probes 6 [] (too_long_text w.file w.most)
  -- all files are had, and the listing is no script
  bad_script : {script listing : List ℕ} {watch : Bool} {files texts : List (List ℕ)}
      (e : ScriptErr)
      → Has words shelf (Replay script watch files) (listing ∷ texts) → IsRefusedScript listing e
      → Cause words shelf probes 10 [] (script_line e)
  -- the texts are refused, and the line names the file that the refusal tells
  refused : {files texts : List (List ℕ)} (r : Refusal) → Takes words shelf files texts
      → ComesTo texts (refused_by r)
      → Cause words shelf probes 1 [] (refusal_text (name_of files r.file) r.rule r.pos)
  -- the texts have a program, which is run by workers
  ran : {workers budget : ℕ} {log : Bool} {files texts : List (List ℕ)}
      (p : Program) (o : Observation) → Runs words shelf workers budget log files texts
      → ComesTo texts (went p) → IsCompiled p → (seen : Seen workers budget p o)
      → Cause words shelf probes o.status o.output
      (run_report log (names_of p) (script_of workers budget seen.schedule) o)
  -- or by the script, whose events the probes are told where they watch
  ran_by : {script listing : List ℕ} {watch : Bool} {files texts : List (List ℕ)} (s : Script)
      (p : Program)
      → Has words shelf (Replay script watch files) (listing ∷ texts) → IsScript listing s
      → ComesTo texts (went p) → IsCompiled p → Watched watch (replay_events p s) probes
      → Cause words shelf probes (replay_of p s).status (replay_of p s).output
      (replay_report (names_of p) s (replay_of p s) ++ watch_text watch probes)
  -- or told of
  told : {c : Command} {texts : List (List ℕ)} {text : List ℕ} (p : Program)
      → Has words shelf c texts → ComesTo texts (went p) → IsCompiled p → IsToldBy c p text
      → Cause words shelf probes 0 text []

-- the status and the texts have a cause, and the sinks got these texts whole
pub record Answered (call : Call) : Type 0 where
  pub out : List ℕ
  pub err : List ℕ
  pub cause : Cause call.words call.shelf call.probes call.status out err
  pub on_out : GotWhole call.out out
  pub on_err : GotWhole call.err err

-- a sink failed while these texts were put: `out`, and `err` got nothing; or `err`, and `out` got
-- its text whole
pub data PutInPart (out err : SinkUse) (out_text err_text : List ℕ) : Type 0 where
  out_failed : SinkFailed out → GotPart out out_text → GotNothing err
      → PutInPart out err out_text err_text
  err_failed : SinkFailed err → GotWhole out out_text → GotPart err err_text
      → PutInPart out err out_text err_text

-- the same of the texts of an answer that has a cause
pub record AnsweredInPart (call : Call) : Type 0 where
  pub status : ℕ
  pub out : List ℕ
  pub err : List ℕ
  pub cause : Cause call.words call.shelf call.probes status out err
  pub in_part : PutInPart call.out call.err out err
