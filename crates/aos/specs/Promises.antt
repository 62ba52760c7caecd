-- What the program promises of every call.
use Rattle.std.specs.Prelude.{◌≡◌, ◌≤◌, ℕ, ◌⊎◌, ◌↔◌, List, [], ◌∷◌, ◌++◌, length, Bool, true, false, Some, None}
use Rattle.aos_base.specs.declared.text.Refusal.{Refusal}
use Rattle.aos_base.specs.Observation.{Observation}
use Rattle.aos_typed.specs.Program.{Program}
use Rattle.aos_script.specs.declared.script.Script.{Script}
use Rattle.aos_script.specs.declared.error.ScriptErr.{ScriptErr}
use Rattle.aos_script.specs.Listing.{IsScript}
use Rattle.aos_script.specs.Refusals.{IsRefused as IsRefusedScript}
use Rattle.aos_report.specs.Texts.{refusal_text}
use Rattle.aos_symbols.specs.Outcome.{Outcome, went, refused}
use Rattle.aos_compile.specs.Elaborates.{ComesTo, IsAccepted, names_of}
use Rattle.aos_sim.specs.Monitors.{HasMonitors}
use Rattle.aos_stability.specs.Lasts.{Lasts}
use Rattle.aos_words.specs.Words.{Words, Command, Run, Replay, Gen, command_of, Asks, default_budget}
use Rattle.aos.specs.Wanted.{wanted_files, gen_texts, name_of}
use Rattle.aos.specs.Call.{SinkUse, Call, Tells, ShelfFailed, GotWhole, GotNothing, SinksWorked}
use Rattle.aos.specs.Call.{IsUndisturbed}
use Rattle.aos.specs.Fetched.{NoFile, LongFile, Fetches}
use Rattle.aos.specs.Report.{run_report, replay_report}
use Rattle.aos.specs.Seen.{Seen, replay_of, replay_events, script_of}
use Rattle.aos.specs.Seen.{EndsWell, EndsWithTrap, IsDead, IsSpent, IsGoing}
use Rattle.aos.specs.Told.{IsToldBy, IsTelling}
use Rattle.aos.specs.Watched.{Watched, watch_text}
use Rattle.aos.specs.Cause.{Has, Runs, Takes, Answered, AnsweredInPart}

-- the status of a run that is over: ended without a trap, ended with one, dead, or spent
abbrev pub IsRunStatus : ℕ → Type 0
IsRunStatus status = (status ≡ 0) ⊎ ((status ≡ 3) ⊎ ((status ≡ 4) ⊎ (status ≡ 5)))

-- or of one that was still going on as its script ended
abbrev pub IsReplayStatus : ℕ → Type 0
IsReplayStatus status = IsRunStatus status ⊎ (status ≡ 9)

-- the first file that isn't had is absent; or all are had, a listing is a script, and the texts
-- aren't accepted
pub data IsAbsentOrRefused (call : Call) : Type 0 where
  is_absent : {c : Command} (file : List ℕ) → Asks call.words c
      → Fetches call.shelf.texts (wanted_files c) (NoFile file) → IsAbsentOrRefused call
  is_refused : {files texts : List (List ℕ)} → Takes call.words call.shelf files texts
      → ¬ IsAccepted texts → IsAbsentOrRefused call

module _ (call : Call) where
  -- the words are this command, whose files have these texts, and the texts of its modules are
  -- accepted; the shelf tells its texts, and didn't fail
  pub record IsAsked (c : Command) (all texts : List (List ℕ)) : Type 0 where
    pub has : Has call.words call.shelf c all
    pub accepted : IsAccepted texts
    pub tells : Tells call.shelf
    pub worked : ¬ ShelfFailed call.shelf

  -- the words are a command whose modules are these files, where it has a script that is one, and
  -- the modules' texts come to this; the shelf tells its texts, and didn't fail
  pub record LeadsTo (files : Words) (o : Outcome Program) : Type 0 where
    pub texts : List (List ℕ)
    pub takes : Takes call.words call.shelf files texts
    pub comes : ComesTo texts o
    pub tells : Tells call.shelf
    pub worked : ¬ ShelfFailed call.shelf

  -- The status and what the sinks got are those of an execution of the texts' program by so many
  -- workers with a budget. Where the log is wanted, the script of its schedule stands last.
  pub record ShowsTexts (workers budget : ℕ) (log : Bool) (texts : List (List ℕ)) : Type 0 where
    pub program : Program
    pub comes : ComesTo texts (went program)
    pub observation : Observation
    pub seen : Seen workers budget program observation
    pub status : call.status ≡ observation.status
    pub on_out : GotWhole call.out observation.output
    pub on_err : GotWhole call.err
        (run_report log (names_of program) (script_of workers budget seen.schedule) observation)

  -- They are those of the execution under a script. Where the probes watch, each was told the events
  -- of that execution, and their lines stand last.
  pub record ShowsReplay (watch : Bool) (s : Script) (texts : List (List ℕ)) : Type 0 where
    pub program : Program
    pub comes : ComesTo texts (went program)
    pub status : call.status ≡ (replay_of program s).status
    pub on_out : GotWhole call.out (replay_of program s).output
    pub on_err : GotWhole call.err
        (replay_report (names_of program) s (replay_of program s) ++ watch_text watch call.probes)
    pub watched : Watched watch (replay_events program s) call.probes

  -- the status is 0, and `out` got what the command tells of the texts' program
  pub record ShowsProgram (c : Command) (texts : List (List ℕ)) : Type 0 where
    pub program : Program
    pub comes : ComesTo texts (went program)
    pub text : List ℕ
    pub is : IsToldBy c program text
    pub status : call.status ≡ 0
    pub on_out : GotWhole call.out text
    pub on_err : GotWhole call.err []

  -- the status is that of a refusal, and the line names the file that the refusal tells
  pub record ShowsRefusal (files : Words) (r : Refusal) : Type 0 where
    pub status : call.status ≡ 1
    pub on_out : GotWhole call.out []
    pub on_err : GotWhole call.err (refusal_text (name_of files r.file) r.rule r.pos)

  -- the first file that isn't had has more bytes than it may have
  pub record IsTooLong : Type 0 where
    pub command : Command
    pub file : List ℕ
    pub most : ℕ
    pub asks : Asks call.words command
    pub long : Fetches call.shelf.texts (wanted_files command) (LongFile file most)

  -- the files are had, and the listing is no script
  pub record IsNoScript : Type 0 where
    pub script : List ℕ
    pub listing : List ℕ
    pub watch : Bool
    pub files : Words
    pub texts : List (List ℕ)
    pub error : ScriptErr
    pub has : Has call.words call.shelf (Replay script watch files) (listing ∷ texts)
    pub refused : IsRefusedScript listing error

  -- what is seen of the texts' program is such: of the execution that the sinks show, or of that
  -- under the script
  pub data IsSeen (Such : Observation → Type 0) : Type 0 where
    in_run : {workers budget : ℕ} {log : Bool} {files texts : List (List ℕ)}
        → Runs call.words call.shelf workers budget log files texts
        → (shown : ShowsTexts workers budget log texts) → Such shown.observation → IsSeen Such
    in_replay : {script listing : List ℕ} {watch : Bool} {files texts : List (List ℕ)} (s : Script)
        (p : Program)
        → Has call.words call.shelf (Replay script watch files) (listing ∷ texts)
        → IsScript listing s → ComesTo texts (went p) → Such (replay_of p s) → IsSeen Such

  -- the words are a command that tells of programs, whose files are had, and the texts are accepted
  pub record IsTold : Type 0 where
    pub command : Command
    pub texts : List (List ℕ)
    pub telling : IsTelling command
    pub has : Has call.words call.shelf command texts
    pub accepted : IsAccepted texts

  -- unless a sink or memory failed: the status is this only where the fact holds; and it is where
  -- the fact holds, the shelf tells its texts, and the shelf didn't fail
  pub record IsStatusWhere (status : ℕ) (fact : Type 0) : Type 0 where
    pub only_where : IsUndisturbed call → call.status ≡ status → fact
    pub wherever : Tells call.shelf → IsUndisturbed call → fact → ¬ ShelfFailed call.shelf
        → call.status ≡ status

  abbrev pub Headline : Type 0
  Headline =
      (workers budget : ℕ) (log : Bool) (files : Words) (texts : List (List ℕ))
      → IsAsked (Run workers budget log files) texts texts → IsUndisturbed call
      → ShowsTexts workers budget log texts

  abbrev pub Complete : Type 0
  Complete =
      (workers budget : ℕ) (log : Bool) (files : Words) (texts : List (List ℕ))
      → IsAsked (Run workers budget log files) texts texts → SinksWorked call
      → (call.status ≡ 8) ⊎ (IsRunStatus call.status × ShowsTexts workers budget log texts)

  -- the module is generated, so nothing is asked of the shelf
  abbrev pub Generates : Type 0
  Generates =
      (workers pairs : ℕ) → Asks call.words (Gen workers pairs) → IsAccepted (gen_texts pairs)
      → IsUndisturbed call → ShowsTexts workers default_budget false (gen_texts pairs)

  abbrev pub GeneratesComplete : Type 0
  GeneratesComplete =
      (workers pairs : ℕ) → Asks call.words (Gen workers pairs) → IsAccepted (gen_texts pairs)
      → SinksWorked call → (call.status ≡ 8)
      ⊎ (IsRunStatus call.status × ShowsTexts workers default_budget false (gen_texts pairs))

  abbrev pub Replays : Type 0
  Replays =
      (s : Script) (script listing : List ℕ) (watch : Bool) (files : Words)
      (texts : List (List ℕ))
      → IsAsked (Replay script watch files) (listing ∷ texts) texts → IsScript listing s
      → IsUndisturbed call → ShowsReplay watch s texts

  abbrev pub ReplaysComplete : Type 0
  ReplaysComplete =
      (s : Script) (script listing : List ℕ) (watch : Bool) (files : Words)
      (texts : List (List ℕ))
      → IsAsked (Replay script watch files) (listing ∷ texts) texts → IsScript listing s
      → SinksWorked call
      → (call.status ≡ 8) ⊎ (IsReplayStatus call.status × ShowsReplay watch s texts)

  abbrev pub TellsPrograms : Type 0
  TellsPrograms =
      (c : Command) (texts : List (List ℕ)) → IsTelling c → IsAsked c texts texts
      → IsUndisturbed call → ShowsProgram c texts

  abbrev pub TellsComplete : Type 0
  TellsComplete =
      (c : Command) (texts : List (List ℕ)) → IsTelling c → IsAsked c texts texts
      → SinksWorked call → (call.status ≡ 8) ⊎ ShowsProgram c texts

  abbrev pub Refuses : Type 0
  Refuses =
      (files : Words) (r : Refusal) → LeadsTo files (refused r) → IsUndisturbed call
      → ShowsRefusal files r

  abbrev pub WrongWords : Type 0
  WrongWords = IsUndisturbed call → ((call.status ≡ 2) ↔ (command_of call.words ≡ None))

  abbrev pub KeepsMonitors : Type 0
  KeepsMonitors =
      (texts : List (List ℕ)) (p : Program) → ComesTo texts (went p) → HasMonitors p

  abbrev pub KeepsConditions : Type 0
  KeepsConditions =
      (texts : List (List ℕ)) (p : Program) → ComesTo texts (went p) → 1 ≤ length texts
      → length texts ≤ 64 → Lasts p

-- a sink that tells its bytes got just this text
pub record GotJust (sink : SinkUse) (text : List ℕ) : Type 0 where
  pub had : List ℕ
  pub before : sink.before ≡ Some had
  pub after : sink.after ≡ Some (had ++ text)

-- both calls have one status, and put the same on `out`
pub record IsSame (call again : Call) : Type 0 where
  pub out : List ℕ
  pub first : GotWhole call.out out
  pub second : GotWhole again.out out
  pub status : again.status ≡ call.status

-- What a run whose log is wanted put on `err` is a script that shows the same again: of modules with
-- the same texts, in any call that keeps the promise on replays.
abbrev pub LogIsReplayed : Call → Type 0
LogIsReplayed call =
    (workers budget : ℕ) (files : Words) (texts : List (List ℕ)) (listing : List ℕ)
    → IsAsked call (Run workers budget true files) texts texts → IsUndisturbed call
    → GotJust call.err listing
    → (again : Call) (script : List ℕ) (watch : Bool) (others : Words) → ReplaysComplete again
    → IsAsked again (Replay script watch others) (listing ∷ texts) texts → SinksWorked again
    → (again.status ≡ 8) ⊎ IsSame call again

-- what `aos` promises
pub record Promises (call : Call) : Type 0 where
  -- where neither a sink nor memory failed, the answer has a cause, and both sinks got its whole
  -- texts
  pub answers : IsUndisturbed call → Answered call
  -- accepted texts are run: for some schedule of so many workers, none of which makes more than 256
  -- turns without a tick or a dispatch of it, the status and what the sinks got are those of the
  -- execution of their program under it
  pub headline : Headline call
  -- and where no count rose, that is the answer, or memory was wanted
  pub complete : Complete call
  -- the generated module of so many pairs is run so with the budget that a run has where the words
  -- don't say
  pub generates : Generates call
  -- and where no sink failed, that is the answer, or memory was wanted
  pub generates_complete : GeneratesComplete call
  -- by a script: they are those of the execution of the texts' program under the script; where the
  -- probes watch, each was told its events, and else none was told any
  pub replays : Replays call
  -- and where no count rose, that is the answer, or memory was wanted
  pub replays_complete : ReplaysComplete call
  -- the log that a run put on `err` is replayed to the same bytes and status
  pub logs : LogIsReplayed call
  -- of accepted texts `check` tells which conditions are local, and `list` the storage layout
  pub tells : TellsPrograms call
  -- and where no count rose, that is the answer, or memory was wanted
  pub tells_complete : TellsComplete call
  -- the line of refused texts names the file in which the rule is broken
  pub refuses : Refuses call
  -- 0: the execution of the texts' program ended, without a trap; or their program was told of
  pub done : IsStatusWhere call 0 (IsSeen call EndsWell ⊎ IsTold call)
  -- 1: a file is absent, or the texts are refused
  pub absent_or_refused : IsStatusWhere call 1 (IsAbsentOrRefused call)
  -- 2: the words are no command
  pub wrong_words : WrongWords call
  -- 3: the execution of the texts' program ended, with a trap
  pub trapped : IsStatusWhere call 3 (IsSeen call EndsWithTrap)
  -- 4: it is Dead: none of its activities is ready or on a worker, and some haven't ended
  pub dead : IsStatusWhere call 4 (IsSeen call IsDead)
  -- 5: it is Spent: an activity began as many statements as the budget allows
  pub spent : IsStatusWhere call 5 (IsSeen call IsSpent)
  -- 6: the shelf failed, or a file is too long
  pub unread_or_too_long : IsStatusWhere call 6 (ShelfFailed call.shelf ⊎ IsTooLong call)
  -- 9: it is going on where its script ends
  pub script_ended : IsStatusWhere call 9 (IsSeen call IsGoing)
  -- 10: the text that is to be a script is none
  pub no_script : IsStatusWhere call 10 (IsNoScript call)
  -- 7: a sink failed, and nothing more was put
  pub sink_failed : call.status ≡ 7 → AnsweredInPart call
  -- 8: nothing was put
  pub no_memory : call.status ≡ 8 → GotNothing call.out × GotNothing call.err
  -- whatever the schedule and the budget are, the program of texts keeps the laws of its locks in
  -- every state of its execution and at every entry of the schedule
  pub monitors : KeepsMonitors call
  -- so is the program of 1 to 64 texts: from the entry that passes a lock to a waiter whose condition
  -- holds, up to the waiter's next turn, it owns the lock; and its condition, if it is local, still
  -- holds
  pub conditions : KeepsConditions call

-- both calls have one status, and put the same on both sinks
pub record IsAlike (a b : Call) : Type 0 where
  pub out : List ℕ
  pub err : List ℕ
  pub out_of_a : GotWhole a.out out
  pub out_of_b : GotWhole b.out out
  pub err_of_a : GotWhole a.err err
  pub err_of_b : GotWhole b.err err
  pub status : b.status ≡ a.status

-- Without `--watch` no byte and no status of a replay depends on the probes: two calls over the same
-- script and the same texts are alike, whatever probes they were handed.
abbrev pub ProbesDontMatter : Type 0
ProbesDontMatter =
    (a b : Call) (s : Script) (script script' listing : List ℕ) (files files' : Words)
    (texts : List (List ℕ)) → Promises a → Promises b
    → IsAsked a (Replay script false files) (listing ∷ texts) texts
    → IsAsked b (Replay script' false files') (listing ∷ texts) texts → IsScript listing s
    → IsUndisturbed a → IsUndisturbed b → IsAlike a b
