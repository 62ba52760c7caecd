-- The promises of the top call, from the cause of its answer.
use Rattle.std.proofs.Common.{◌≡◌, ◌≢◌, ℕ, List, [], ◌∷◌, ◌++◌, Option, Some, None, Bool, true, false, refl, sym, ap, ◌∙◌, subst, inl, inr, ◌⊎◌}
use Rattle.std.specs.Prelude.{IsSome, ◌==◌}
use Rattle.std.proofs.lemmas.Bool.Decides.{eqb_tells}
use Rattle.std.proofs.lemmas.List.{append_cancel_left}
use Rattle.aos_base.specs.declared.text.Refusal.{Refusal}
use Rattle.aos_base.specs.Observation.{Observation}
use Rattle.aos_typed.specs.Program.{Program}
use Rattle.aos_sim.specs.Monitors.{HasMonitors}
use Rattle.aos_dev.specs.Shelf.{Named}
use Rattle.aos_dev.specs.Sink.{appended}
use Rattle.aos_report.specs.Texts.{refusal_text}
use Rattle.aos_script.specs.declared.script.Script.{Script}
use Rattle.aos_script.specs.declared.error.ScriptErr.{ScriptErr}
use Rattle.aos_script.specs.Listing.{IsScript}
use Rattle.aos_script.specs.Print.{joined_script}
use Rattle.aos_script.specs.Refusals.{IsRefused as IsRefusedScript}
use Rattle.aos_script.proofs.Lasting.{not_both}
use Rattle.aos_script.proofs.Sole.{one_script}
use Rattle.aos_symbols.specs.Outcome.{Outcome as Coming, went, refused as refused_by}
use Rattle.aos_compile.specs.Elaborates.{ComesTo, IsAccepted, names_of}
use Rattle.aos_compile.proofs.OneReading.{one_outcome}
use Rattle.aos_words.specs.Words.{Command, Run, Replay, Check, List_, Gen, command_of, Asks, default_budget}
use Rattle.aos.specs.declared.answer.Answer.{Answer}
use Rattle.aos.specs.Wanted.{Wanted, wanted_files, IsWanted, gen_files, gen_texts, name_of}
use Rattle.aos.specs.Call.{ShelfUse, SinkUse, ProbesUse, Call, Tells, ShelfFailed, GotWhole, GotNothing, SinksWorked, IsUndisturbed}
use Rattle.aos.specs.Fetched.{Fetched, Texts, NoFile, LongFile, Fetches}
use Rattle.aos.specs.Report.{run_report, replay_report}
use Rattle.aos.specs.Seen.{Seen, replay_of, replay_events, script_of, EndsWell, EndsWithTrap, IsDead, IsSpent, IsGoing}
use Rattle.aos.specs.Told.{IsToldBy, IsTelling}
use Rattle.aos.specs.Watched.{Watched, watch_text}
use Rattle.aos.specs.Cause.{Has, Runs, of_files, of_pairs, Takes, to_run, to_replay, to_check, to_list, IsCompiled, Cause, wrong_words, unread, absent, too_long, bad_script, refused, ran, ran_by, told, Answered, PutInPart, out_failed, err_failed, AnsweredInPart}
use Rattle.aos.specs.Promises.{IsRunStatus, IsReplayStatus, IsAbsentOrRefused, is_absent, is_refused, IsAsked, LeadsTo, ShowsTexts, ShowsReplay, ShowsProgram, ShowsRefusal, IsTooLong, IsNoScript, IsSeen, in_run, in_replay, IsTold, IsStatusWhere, GotJust, KeepsConditions, LogIsReplayed, Promises, IsAlike, ProbesDontMatter}
use Rattle.aos.specs.Shown.{Causes, IsWhole, IsStopped}
use Rattle.aos.proofs.Logged.{log_is_script, log_shows}
use Rattle.aos.proofs.Statuses.{differ, run_has, replay_has, run_status, replay_status, no_run, no_replay, none_1, none_2, none_6, none_7, none_8, none_10, Means, is_well, is_trapped, is_dead, is_spent, is_going}

-- What texts come to is one

never_accepted : (texts : List (List ℕ)) (r : Refusal) → ComesTo texts (refused_by r) → ¬ IsAccepted texts
never_accepted texts r h ok = apart r ok.program (one_outcome texts (refused_by r) (went ok.program) h ok.comes)
  where
    apart : (r : Refusal) (p : Program) → refused_by r ≡ went p → ⊥
    apart r p e = cc

one_program : (texts : List (List ℕ)) (p q : Program) → ComesTo texts (went p) → ComesTo texts (went q) → p ≡ q
one_program texts p q h k = injective p q (one_outcome texts (went p) (went q) h k)
  where
    injective : (p q : Program) → went p ≡ went q → p ≡ q
    injective p q e = cc

one_refusal : (texts : List (List ℕ)) (r s : Refusal) → ComesTo texts (refused_by r) → ComesTo texts (refused_by s) → r ≡ s
one_refusal texts r s h k = injective r s (refused_by r) refl (one_outcome texts (refused_by r) (refused_by s) h k)
  where
    injective : (r s : Refusal) (o : Coming Program) → o ≡ refused_by r → o ≡ refused_by s → r ≡ s
    injective r s o e e' = cc

-- What the words ask for is one

one_command : (words : List (List ℕ)) (c d : Command) → Asks words c → Asks words d → c ≡ d
one_command words c d h k = let e : Some c ≡ Some d = sym h ∙ k in injective c d e
  where
    injective : (c d : Command) → Some c ≡ Some d → c ≡ d
    injective c d e = cc

no_command : {A : Type 0} (words : List (List ℕ)) (c : Command) → command_of words ≡ None → Asks words c → A
no_command words c n h = let e : None ≡ Some c = sym n ∙ h in absurd (none_apart c e)
  where
    none_apart : (c : Command) → None ≡ Some c → ⊥
    none_apart c e = cc

-- the modules of a command, and their texts among those of all its files
abbrev modules_of : Command → List (List ℕ)
modules_of (Run workers budget log files) = files
modules_of (Replay script watch files) = files
modules_of (Check files) = files
modules_of (List_ files) = files
modules_of (Gen workers pairs) = gen_files

abbrev behind_first : List (List ℕ) → List (List ℕ)
behind_first [] = []
behind_first (listing ∷ texts) = texts

abbrev texts_in : Command → List (List ℕ) → List (List ℕ)
texts_in (Run workers budget log files) all = all
texts_in (Replay script watch files) all = behind_first all
texts_in (Check files) all = all
texts_in (List_ files) all = all
texts_in (Gen workers pairs) all = gen_texts pairs

-- what is told by a command is told by one that tells
telling : (c : Command) (p : Program) (text : List ℕ) → IsToldBy c p text → IsTelling c
telling (Run workers budget log files) p text is = absurd is
telling (Replay script watch files) p text is = absurd is
telling (Check files) p text is = tt
telling (List_ files) p text is = tt
telling (Gen workers pairs) p text is = absurd is

never_run : {workers budget : ℕ} {log : Bool} {files : List (List ℕ)} (c : Command) → IsTelling c → c ≡ Run workers budget log files → ⊥
never_run c tells e = subst IsTelling e tells

never_replay : {script : List ℕ} {watch : Bool} {files : List (List ℕ)} (c : Command) → IsTelling c → c ≡ Replay script watch files → ⊥
never_replay c tells e = subst IsTelling e tells

never_gen : {workers pairs : ℕ} (c : Command) → IsTelling c → c ≡ Gen workers pairs → ⊥
never_gen c tells e = subst IsTelling e tells

-- commands of two kinds differ
abbrev kind : Command → ℕ
kind (Run workers budget log files) = 0
kind (Replay script watch files) = 1
kind (Check files) = 2
kind (List_ files) = 3
kind (Gen workers pairs) = 4

module _ (words : List (List ℕ)) (shelf : ShelfUse) where
  no_has : {A : Type 0} {c : Command} {all : List (List ℕ)} → command_of words ≡ None → Has words shelf c all → A
  no_has {c} n h = no_command words c n h.asks

  has_apart : {A : Type 0} {c d : Command} {all others : List (List ℕ)} → Has words shelf c all → Has words shelf d others → (kind c == kind d) ≡ false → A
  has_apart {c} {d} h k apart = differ (kind c) (kind d) apart (ap kind (one_command words c d h.asks k.asks))

  -- this comes of the files that the words ask for
  record Comes (f : Fetched) : Type 0 where
    pub command : Command
    pub asks : Asks words command
    pub comes : Fetches shelf.texts (wanted_files command) f

  of_has : {c : Command} {all : List (List ℕ)} → Has words shelf c all → Comes (Texts all)
  of_has {c} h = record { command = c; asks = h.asks; comes = h.had.told }

  -- a command whose modules are these files, which have these texts
  record Parts (files texts : List (List ℕ)) : Type 0 where
    pub command : Command
    pub all : List (List ℕ)
    pub has : Has words shelf command all
    pub files_are : files ≡ modules_of command
    pub texts_are : texts ≡ texts_in command all

  parts_of_run : {workers budget : ℕ} {log : Bool} {files texts : List (List ℕ)} → Runs words shelf workers budget log files texts → Parts files texts
  parts_of_run (of_files {workers} {budget} {log} {files} {texts} h) = record { command = Run workers budget log files; all = texts; has = h; files_are = refl; texts_are = refl }
  parts_of_run (of_pairs {workers} {pairs} h) = record { command = Gen workers pairs; all = []; has = h; files_are = refl; texts_are = refl }

  parts_of : {files texts : List (List ℕ)} → Takes words shelf files texts → Parts files texts
  parts_of (to_run h) = parts_of_run h
  parts_of (to_replay {script} {listing} {watch} {files} {texts} s h read) = record { command = Replay script watch files; all = listing ∷ texts; has = h; files_are = refl; texts_are = refl }
  parts_of (to_check {files} {texts} h) = record { command = Check files; all = texts; has = h; files_are = refl; texts_are = refl }
  parts_of (to_list {files} {texts} h) = record { command = List_ files; all = texts; has = h; files_are = refl; texts_are = refl }

  -- what a command tells that was asked for and tells of programs
  takes_telling : (c : Command) {texts : List (List ℕ)} → IsTelling c → Has words shelf c texts → Takes words shelf (modules_of c) texts
  takes_telling (Run workers budget log files) tells h = absurd tells
  takes_telling (Replay script watch files) tells h = absurd tells
  takes_telling (Check files) tells h = to_check h
  takes_telling (List_ files) tells h = to_list h
  takes_telling (Gen workers pairs) tells h = absurd tells

  -- who runs modules neither replays nor tells
  runs_apart : {A : Type 0} {workers budget : ℕ} {log watch : Bool} {script : List ℕ} {files texts files' others : List (List ℕ)} → Runs words shelf workers budget log files texts → Has words shelf (Replay script watch files') others → A
  runs_apart (of_files h) k = has_apart h k refl
  runs_apart (of_pairs h) k = has_apart h k refl

  runs_told : {A : Type 0} {workers budget : ℕ} {log : Bool} {files texts others : List (List ℕ)} (c : Command) → IsTelling c → Runs words shelf workers budget log files texts → Has words shelf c others → A
  runs_told c tells (of_files {workers} {budget} {log} {files} h) k = absurd (never_run c tells (one_command words c (Run workers budget log files) k.asks h.asks))
  runs_told c tells (of_pairs {workers} {pairs} h) k = absurd (never_gen c tells (one_command words c (Gen workers pairs) k.asks h.asks))

  of_takes : {files texts : List (List ℕ)} → Takes words shelf files texts → (all : List (List ℕ)) × Comes (Texts all)
  of_takes k = let t = parts_of k in (t.all, of_has t.has)

  -- Statuses, whether or not the shelf tells its texts

  pub cause_status : {probes : ProbesUse} {status : ℕ} {out err : List ℕ} → Cause words shelf probes status out err → (status ≢ 7) × (status ≢ 8)
  cause_status (wrong_words n) = (differ 2 7 refl, differ 2 8 refl)
  cause_status (unread h w b f) = (differ 6 7 refl, differ 6 8 refl)
  cause_status (absent h w n) = (differ 1 7 refl, differ 1 8 refl)
  cause_status (too_long h w n) = (differ 6 7 refl, differ 6 8 refl)
  cause_status (bad_script x h n) = (differ 10 7 refl, differ 10 8 refl)
  cause_status (refused r k n) = (differ 1 7 refl, differ 1 8 refl)
  cause_status (ran {workers} {budget} p o h comes good s) = (no_run workers budget p o 7 s none_7, no_run workers budget p o 8 s none_8)
  cause_status (ran_by s p h read comes good w) = (no_replay p s 7 none_7, no_replay p s 8 none_8)
  cause_status (told p h comes good is) = (differ 0 7 refl, differ 0 8 refl)

  two_only : {probes : ProbesUse} {status : ℕ} {out err : List ℕ} → Cause words shelf probes status out err → status ≡ 2 → command_of words ≡ None
  two_only (wrong_words n) e = n
  two_only (unread h w b f) e = differ 6 2 refl e
  two_only (absent h w n) e = differ 1 2 refl e
  two_only (too_long h w n) e = differ 6 2 refl e
  two_only (bad_script x h n) e = differ 10 2 refl e
  two_only (refused r k n) e = differ 1 2 refl e
  two_only (ran {workers} {budget} p o h comes good s) e = no_run workers budget p o 2 s none_2 e
  two_only (ran_by s p h read comes good w) e = no_replay p s 2 none_2 e
  two_only (told p h comes good is) e = differ 0 2 refl e

  two_if : {probes : ProbesUse} {status : ℕ} {out err : List ℕ} → Cause words shelf probes status out err → command_of words ≡ None → status ≡ 2
  two_if (wrong_words n) none = refl
  two_if (unread {c} h w b f) none = no_command words c none h
  two_if (absent {c} h w n) none = no_command words c none h
  two_if (too_long {c} h w n) none = no_command words c none h
  two_if (bad_script x h n) none = no_has none h
  two_if (refused r k n) none = let t = of_takes k in no_command words t.1.command none t.1.asks
  two_if (ran p o h comes good s) none = let t = parts_of_run h in no_command words t.command none t.has.asks
  two_if (ran_by s p h read comes good w) none = no_has none h
  two_if (told p h comes good is) none = no_has none h

module _ (call : Call) where
  abbrev Of : ℕ → List ℕ → List ℕ → Type 0
  Of status out err = Cause call.words call.shelf call.probes status out err

  -- 1
  one_only : {status : ℕ} {out err : List ℕ} → Of status out err → status ≡ 1 → IsAbsentOrRefused call
  one_only (wrong_words n) e = differ 2 1 refl e
  one_only (unread h w b f) e = differ 6 1 refl e
  one_only (absent {c} {w} h v n) e = is_absent w.file h n
  one_only (too_long h w n) e = differ 6 1 refl e
  one_only (bad_script x h n) e = differ 10 1 refl e
  one_only (refused {files} {texts} r k n) e = is_refused k (never_accepted texts r n)
  one_only (ran {workers} {budget} p o h comes good s) e = no_run workers budget p o 1 s none_1 e
  one_only (ran_by s p h read comes good w) e = no_replay p s 1 none_1 e
  one_only (told p h comes good is) e = differ 0 1 refl e

  -- 6
  six_only : {status : ℕ} {out err : List ℕ} → Of status out err → status ≡ 6 → ShelfFailed call.shelf ⊎ IsTooLong call
  six_only (wrong_words n) e = differ 2 6 refl e
  six_only (unread h w b f) e = inl f
  six_only (absent h w n) e = differ 1 6 refl e
  six_only (too_long {c} {w} h v n) e = inr (record { command = c; file = w.file; most = w.most; asks = h; long = n })
  six_only (bad_script x h n) e = differ 10 6 refl e
  six_only (refused r k n) e = differ 1 6 refl e
  six_only (ran {workers} {budget} p o h comes good s) e = no_run workers budget p o 6 s none_6 e
  six_only (ran_by s p h read comes good w) e = no_replay p s 6 none_6 e
  six_only (told p h comes good is) e = differ 0 6 refl e

  -- 10
  ten_only : {status : ℕ} {out err : List ℕ} → Of status out err → status ≡ 10 → IsNoScript call
  ten_only (wrong_words n) e = differ 2 10 refl e
  ten_only (unread h w b f) e = differ 6 10 refl e
  ten_only (absent h w n) e = differ 1 10 refl e
  ten_only (too_long h w n) e = differ 6 10 refl e
  ten_only (bad_script {script} {listing} {watch} {files} {texts} x h n) e = record { script = script; listing = listing; watch = watch; files = files; texts = texts; error = x; has = h; refused = n }
  ten_only (refused r k n) e = differ 1 10 refl e
  ten_only (ran {workers} {budget} p o h comes good s) e = no_run workers budget p o 10 s none_10 e
  ten_only (ran_by s p h read comes good w) e = no_replay p s 10 none_10 e
  ten_only (told p h comes good is) e = differ 0 10 refl e

  -- 0, 3, 4, 5 and 9; what is told of a program has 0
  module _ (n : ℕ) (Such : Observation → Type 0) (m : Means n Such) where
    seen_or_told : {status : ℕ} {out err : List ℕ} → Of status out err → call.status ≡ status → GotWhole call.out out → GotWhole call.err err → status ≡ n → IsSeen call Such ⊎ ((0 ≡ n) × IsTold call)
    seen_or_told (wrong_words x) same on_out on_err e = differ 2 n m.no_2 e
    seen_or_told (unread h w b f) same on_out on_err e = differ 6 n m.no_6 e
    seen_or_told (absent h w x) same on_out on_err e = differ 1 n m.no_1 e
    seen_or_told (too_long h w x) same on_out on_err e = differ 6 n m.no_6 e
    seen_or_told (bad_script y h x) same on_out on_err e = differ 10 n m.no_10 e
    seen_or_told (refused r k x) same on_out on_err e = differ 1 n m.no_1 e
    seen_or_told (ran {workers} {budget} p o h comes good s) same on_out on_err e =
        inl (in_run h (record { program = p; comes = comes; observation = o; seen = s; status = same; on_out = on_out; on_err = on_err }) (m.only o (run_has workers budget p o s) e))
    seen_or_told (ran_by s p h read comes good w) same on_out on_err e = inl (in_replay s p h read comes (m.only (replay_of p s) (replay_has p s) e))
    seen_or_told (told {c} {texts} {text} p h comes good is) same on_out on_err e =
        inr (e, record { command = c; texts = texts; telling = telling c p text is; has = h; accepted = record { program = p; comes = comes } })

-- Accepted texts are run

record IsRunOf (workers budget : ℕ) (log : Bool) (texts : List (List ℕ)) (status : ℕ) (out err : List ℕ) : Type 0 where
  pub program : Program
  pub comes : ComesTo texts (went program)
  pub compiled : IsCompiled program
  pub observation : Observation
  pub seen : Seen workers budget program observation
  pub status_is : status ≡ observation.status
  pub out_is : out ≡ observation.output
  pub err_is : err ≡ run_report log (names_of program) (script_of workers budget seen.schedule) observation

-- a generated module is run, whatever the shelf tells
module _ (words : List (List ℕ)) (shelf : ShelfUse) (workers pairs : ℕ) (asked : Asks words (Gen workers pairs)) where
  -- another command isn't asked for
  not_other : {A : Type 0} {c : Command} → Asks words c → (kind c == 4) ≡ false → A
  not_other {c} h apart = differ (kind c) 4 apart (ap kind (one_command words c (Gen workers pairs) h asked))

  -- nothing is fetched
  none_wanted : {A : Type 0} {c : Command} {w : Wanted} → Asks words c → IsWanted (wanted_files c) w → A
  none_wanted {c} {w} h is =
      let e : [] ≡ is.before ++ w ∷ is.others = ap wanted_files (one_command words (Gen workers pairs) c asked h) ∙ is.order in
      absurd (apart is.before w is.others e)
    where
      apart : (before : List Wanted) (w : Wanted) (others : List Wanted) → [] ≡ before ++ w ∷ others → ⊥
      apart [] w others e = cc
      apart (v ∷ before) w others e = cc

  runs_pairs : {workers' budget : ℕ} {log : Bool} {files texts : List (List ℕ)} {status : ℕ} {out err : List ℕ} → Runs words shelf workers' budget log files texts → IsRunOf workers' budget log texts status out err → IsRunOf workers default_budget false (gen_texts pairs) status out err
  runs_pairs (of_files h) run = not_other h.asks refl
  runs_pairs {status} {out} {err} (of_pairs {workers = workers'} {pairs = pairs'} h) run =
      let same : Gen workers' pairs' ≡ Gen workers pairs = one_command words (Gen workers' pairs') (Gen workers pairs) h.asks asked in
      let ws : workers' ≡ workers = cc same in
      let ps : pairs' ≡ pairs = cc same in
      subst (λ w. IsRunOf w default_budget false (gen_texts pairs) status out err) ws (subst (λ p. IsRunOf workers' default_budget false (gen_texts p) status out err) ps run)

  generates_it : {probes : ProbesUse} {status : ℕ} {out err : List ℕ} → Cause words shelf probes status out err → IsAccepted (gen_texts pairs) → IsRunOf workers default_budget false (gen_texts pairs) status out err
  generates_it (wrong_words n) ok = no_command words (Gen workers pairs) n asked
  generates_it (unread h w b f) ok = none_wanted h w
  generates_it (absent h w n) ok = none_wanted h w
  generates_it (too_long h w n) ok = none_wanted h w
  generates_it (bad_script x h n) ok = not_other h.asks refl
  generates_it (refused {files} {texts} r k comes) ok =
      let t = parts_of words shelf k in
      let same : texts ≡ gen_texts pairs = t.texts_are ∙ ap (λ c. texts_in c t.all) (one_command words t.command (Gen workers pairs) t.has.asks asked) in
      absurd (never_accepted (gen_texts pairs) r (subst (λ ts. ComesTo ts (refused_by r)) same comes) ok)
  generates_it (ran p o h comes good s) ok =
      runs_pairs h (record { program = p; comes = comes; compiled = good; observation = o; seen = s; status_is = refl; out_is = refl; err_is = refl })
  generates_it (ran_by s p h read comes good w) ok = not_other h.asks refl
  generates_it (told {c} {text} p h comes good is) ok = absurd (never_gen c (telling c p text is) (one_command words c (Gen workers pairs) h.asks asked))

-- Where the shelf tells its texts and didn't fail

fetches_one : (texts : Option (List Named)) (files : List _) (f g : Fetched) → IsSome texts → Fetches texts files f → Fetches texts files g → f ≡ g
fetches_one None files f g tells h k = absurd (cc tells)
fetches_one (Some ts) files f g tells h k = sym h ∙ k

module _ (words : List (List ℕ)) (shelf : ShelfUse) (tells : Tells shelf) where
  -- what comes of the files is one
  one_fate : {f g : Fetched} → Comes words shelf f → Comes words shelf g → f ≡ g
  one_fate {f} {g} h k =
      fetches_one shelf.texts (wanted_files k.command) f g tells
      (subst (λ c. Fetches shelf.texts (wanted_files c) f) (one_command words h.command k.command h.asks k.asks) h.comes) k.comes

  not_absent : {A : Type 0} {file : List ℕ} {all : List (List ℕ)} → Comes words shelf (NoFile file) → Comes words shelf (Texts all) → A
  not_absent {A} {file} {all} h k = let e : NoFile file ≡ Texts all = one_fate h k in absurd (cc e)

  not_long : {A : Type 0} {file : List ℕ} {most : ℕ} {all : List (List ℕ)} → Comes words shelf (LongFile file most) → Comes words shelf (Texts all) → A
  not_long {A} {file} {most} {all} h k = let e : LongFile file most ≡ Texts all = one_fate h k in absurd (cc e)

  not_both_lacks : {A : Type 0} {file other : List ℕ} {most : ℕ} → Comes words shelf (LongFile file most) → Comes words shelf (NoFile other) → A
  not_both_lacks {A} {file} {other} {most} h k = let e : LongFile file most ≡ NoFile other = one_fate h k in absurd (cc e)

  -- so are the command and the texts that its files have
  same_command : {c d : Command} {all others : List (List ℕ)} → Has words shelf c all → Has words shelf d others → c ≡ d
  same_command {c} {d} h k = one_command words c d h.asks k.asks

  same_texts : {c d : Command} {all others : List (List ℕ)} → Has words shelf c all → Has words shelf d others → all ≡ others
  same_texts {all} {others} h k = let e : Texts all ≡ Texts others = one_fate (of_has words shelf h) (of_has words shelf k) in cc e

  same_run : {workers budget workers' budget' : ℕ} {log log' : Bool} {files texts files' texts' : List (List ℕ)} → Has words shelf (Run workers budget log files) texts → Has words shelf (Run workers' budget' log' files') texts' → (workers ≡ workers') × (budget ≡ budget') × (log ≡ log') × (files ≡ files')
  same_run {workers} {budget} {workers'} {budget'} {log} {log'} {files} {files'} h k =
      let e : Run workers budget log files ≡ Run workers' budget' log' files' = same_command h k in
      (cc e, cc e, cc e, cc e)

  -- who runs files goes by the workers, the budget and the log that the words say
  same_setting : {workers budget workers' budget' : ℕ} {log log' : Bool} {files texts files' texts' : List (List ℕ)} → Runs words shelf workers budget log files texts → Has words shelf (Run workers' budget' log' files') texts' → (workers ≡ workers') × (budget ≡ budget') × (log ≡ log')
  same_setting (of_files h) k = let e = same_run h k in (e.0, e.1, e.2)
  same_setting (of_pairs h) k = has_apart words shelf h k refl

  same_replay : {script listing script' listing' : List ℕ} {watch watch' : Bool} {files texts files' texts' : List (List ℕ)} → Has words shelf (Replay script watch files) (listing ∷ texts) → Has words shelf (Replay script' watch' files') (listing' ∷ texts') → (listing ≡ listing') × (watch ≡ watch') × (files ≡ files') × (texts ≡ texts')
  same_replay {script} {listing} {script'} {listing'} {watch} {watch'} {files} {texts} {files'} {texts'} h k =
      let e : Replay script watch files ≡ Replay script' watch' files' = same_command h k in
      let e' : listing ∷ texts ≡ listing' ∷ texts' = same_texts h k in
      (cc e', cc e, cc e, cc e')

  same_takes : {files texts files' texts' : List (List ℕ)} → Takes words shelf files texts → Takes words shelf files' texts' → (files ≡ files') × (texts ≡ texts')
  same_takes h k =
      let a = parts_of words shelf h in
      let b = parts_of words shelf k in
      let same = same_command a.has b.has in (
        a.files_are ∙ ap modules_of same ∙ sym b.files_are,
        a.texts_are ∙ (λ i. texts_in (same i) (same_texts a.has b.has i)) ∙ sym b.texts_are,
      )

  -- a listing that is a script is never refused
  no_bad : {A : Type 0} {script listing : List ℕ} {watch : Bool} {files texts files' texts' : List (List ℕ)} (e : ScriptErr) → Takes words shelf files texts → Has words shelf (Replay script watch files') (listing ∷ texts') → IsRefusedScript listing e → A
  no_bad e (to_run h) k bad = runs_apart words shelf h k
  no_bad e (to_check h) k bad = has_apart words shelf h k refl
  no_bad e (to_list h) k bad = has_apart words shelf h k refl
  no_bad {listing} e (to_replay s h read) k bad = absurd (not_both listing s e (subst (λ y. IsScript y s) (same_replay h k).0 read) bad)

  same_script : {script listing script' listing' : List ℕ} {watch watch' : Bool} {files texts files' texts' : List (List ℕ)} (s s' : Script) → Has words shelf (Replay script watch files) (listing ∷ texts) → IsScript listing s → Has words shelf (Replay script' watch' files') (listing' ∷ texts') → IsScript listing' s' → s' ≡ s
  same_script {listing} s s' h read k read' = one_script listing s' s (subst (λ y. IsScript y s') (same_replay k h).0 read') read

  module _ (calm : ¬ ShelfFailed shelf) where
    if_absent : {probes : ProbesUse} {status : ℕ} {out err file : List ℕ} → Cause words shelf probes status out err → Comes words shelf (NoFile file) → status ≡ 1
    if_absent (wrong_words n) k = no_command words k.command n k.asks
    if_absent (unread h w b f) k = absurd (calm f)
    if_absent (absent h w n) k = refl
    if_absent (too_long {c} h v n) k = not_both_lacks (record { command = c; asks = h; comes = n }) k
    if_absent (bad_script x h n) k = not_absent k (of_has words shelf h)
    if_absent (refused r t n) k = not_absent k (of_takes words shelf t).1
    if_absent (ran p o h comes good s) k = not_absent k (of_takes words shelf (to_run h)).1
    if_absent (ran_by s p h read comes good w) k = not_absent k (of_has words shelf h)
    if_absent (told p h comes good is) k = not_absent k (of_has words shelf h)

    if_long : {probes : ProbesUse} {status : ℕ} {out err file : List ℕ} {most : ℕ} → Cause words shelf probes status out err → Comes words shelf (LongFile file most) → status ≡ 6
    if_long (wrong_words n) k = no_command words k.command n k.asks
    if_long (unread h w b f) k = absurd (calm f)
    if_long (absent {c} h v n) k = not_both_lacks k (record { command = c; asks = h; comes = n })
    if_long (too_long h w n) k = refl
    if_long (bad_script x h n) k = not_long k (of_has words shelf h)
    if_long (refused r t n) k = not_long k (of_takes words shelf t).1
    if_long (ran p o h comes good s) k = not_long k (of_takes words shelf (to_run h)).1
    if_long (ran_by s p h read comes good w) k = not_long k (of_has words shelf h)
    if_long (told p h comes good is) k = not_long k (of_has words shelf h)

    -- of the causes only these are left where all files are had, and a listing is a script
    if_takes : {probes : ProbesUse} {status : ℕ} {out err : List ℕ} {files texts : List (List ℕ)} (P : ℕ → List ℕ → List ℕ → Type 0) → Cause words shelf probes status out err → Takes words shelf files texts →
        ((r : Refusal) → ComesTo texts (refused_by r) → P 1 [] (refusal_text (name_of files r.file) r.rule r.pos))
        → ((workers budget : ℕ) (log : Bool) (files' texts' : List (List ℕ)) (p : Program) (o : Observation) → Runs words shelf workers budget log files' texts' → ComesTo texts (went p) → IsCompiled p → (s : Seen workers budget p o) → P o.status o.output (run_report log (names_of p) (script_of workers budget s.schedule) o))
        → ((script listing : List ℕ) (watch : Bool) (files' texts' : List (List ℕ)) (s : Script) (p : Program) → Has words shelf (Replay script watch files') (listing ∷ texts') → IsScript listing s → ComesTo texts (went p) → IsCompiled p → Watched watch (replay_events p s) probes → P (replay_of p s).status (replay_of p s).output (replay_report (names_of p) s (replay_of p s) ++ watch_text watch probes))
        → ((c : Command) (texts' : List (List ℕ)) (text : List ℕ) (p : Program) → Has words shelf c texts' → ComesTo texts (went p) → IsCompiled p → IsToldBy c p text → P 0 text [])
        → P status out err
    if_takes P (wrong_words n) k not_one run by tell = let t = of_takes words shelf k in no_command words t.1.command n t.1.asks
    if_takes P (unread h w b f) k not_one run by tell = absurd (calm f)
    if_takes P (absent {c} h v n) k not_one run by tell = not_absent (record { command = c; asks = h; comes = n }) (of_takes words shelf k).1
    if_takes P (too_long {c} h v n) k not_one run by tell = not_long (record { command = c; asks = h; comes = n }) (of_takes words shelf k).1
    if_takes P (bad_script x h n) k not_one run by tell = no_bad x k h n
    if_takes P (refused r t comes) k not_one run by tell =
        let e = same_takes t k in
        subst (λ fs. P 1 [] (refusal_text (name_of fs r.file) r.rule r.pos)) (sym e.0) (not_one r (subst (λ ts. ComesTo ts (refused_by r)) e.1 comes))
    if_takes P (ran {workers} {budget} {log} {files} {texts} p o h comes good s) k not_one run by tell =
        run workers budget log files texts p o h (subst (λ ts. ComesTo ts (went p)) (same_takes (to_run h) k).1 comes) good s
    if_takes P (ran_by {script} {listing} {watch} {files} {texts} s p h read comes good w) k not_one run by tell =
        by script listing watch files texts s p h read (subst (λ ts. ComesTo ts (went p)) (same_takes (to_replay s h read) k).1 comes) good w
    if_takes P (told {c} {texts} {text} p h comes good is) k not_one run by tell =
        tell c texts text p h (subst (λ ts. ComesTo ts (went p)) (same_takes (takes_telling words shelf c (telling c p text is) h) k).1 comes) good is

    -- by the workers and with the budget that the words say
    run_along : {workers budget workers' budget' : ℕ} {log log' : Bool} {texts : List (List ℕ)} {status : ℕ} {out err : List ℕ} → (workers ≡ workers') × (budget ≡ budget') × (log ≡ log') → IsRunOf workers budget log texts status out err → IsRunOf workers' budget' log' texts status out err
    run_along {workers} {budget} {workers'} {budget'} {log} {log'} {texts} {status} {out} {err} e h =
        subst (λ w. IsRunOf w budget' log' texts status out err) e.0
        (subst (λ b. IsRunOf workers b log' texts status out err) e.1
        (subst (λ l. IsRunOf workers budget l texts status out err) e.2 h))

    runs_it : {probes : ProbesUse} {workers budget : ℕ} {log : Bool} {status : ℕ} {out err : List ℕ} {files texts : List (List ℕ)} → Cause words shelf probes status out err → Has words shelf (Run workers budget log files) texts → IsAccepted texts → IsRunOf workers budget log texts status out err
    runs_it {workers} {budget} {log} {texts} c k ok =
        if_takes (IsRunOf workers budget log texts) c (to_run (of_files k))
        (λ r comes. absurd (never_accepted texts r comes ok))
        (λ workers' budget' log' files' texts' p o h comes good s. run_along (same_setting h k) (record { program = p; comes = comes; compiled = good; observation = o; seen = s; status_is = refl; out_is = refl; err_is = refl }))
        (λ script listing watch files' texts' s p h read comes good w. has_apart words shelf k h refl)
        (λ d texts' text p h comes good is. absurd (never_run d (telling d p text is) (same_command h k)))

    record IsReplayOf (watch : Bool) (probes : ProbesUse) (s : Script) (texts : List (List ℕ)) (status : ℕ) (out err : List ℕ) : Type 0 where
      pub program : Program
      pub comes : ComesTo texts (went program)
      pub status_is : status ≡ (replay_of program s).status
      pub out_is : out ≡ (replay_of program s).output
      pub err_is : err ≡ replay_report (names_of program) s (replay_of program s) ++ watch_text watch probes
      pub watched : Watched watch (replay_events program s) probes

    -- where the probes watch as the words say
    replay_along : {watch watch' : Bool} {probes : ProbesUse} {s : Script} {texts : List (List ℕ)} {status : ℕ} {out err : List ℕ} → watch ≡ watch' → IsReplayOf watch probes s texts status out err → IsReplayOf watch' probes s texts status out err
    replay_along {watch} {watch'} {probes} {s} {texts} {status} {out} {err} e h = subst (λ w. IsReplayOf w probes s texts status out err) e h

    replays_it : {probes : ProbesUse} {status : ℕ} {out err script listing : List ℕ} {watch : Bool} {files texts : List (List ℕ)} (s : Script) → Cause words shelf probes status out err → Has words shelf (Replay script watch files) (listing ∷ texts) → IsScript listing s → IsAccepted texts → IsReplayOf watch probes s texts status out err
    replays_it {probes} {status} {out} {err} {script} {listing} {watch} {files} {texts} s c k read ok =
        if_takes (IsReplayOf watch probes s texts) c (to_replay s k read)
        (λ r comes. absurd (never_accepted texts r comes ok))
        (λ workers budget log files' texts' p o h comes good seen. runs_apart words shelf h k)
        (λ script' listing' watch' files' texts' s' p h read' comes good w.
        let same = same_script s s' k read h read' in
        replay_along (same_replay h k).1 (record {
          program = p;
          comes = comes;
          status_is = ap (λ z. (replay_of p z).status) same;
          out_is = ap (λ z. (replay_of p z).output) same;
          err_is = ap (λ z. replay_report (names_of p) z (replay_of p z) ++ watch_text watch' probes) same;
          watched = subst (λ z. Watched watch' (replay_events p z) probes) same w;
        }))
        (λ d texts' text p h comes good is. absurd (never_replay d (telling d p text is) (same_command h k)))

    -- or told of
    record IsTextOf (c : Command) (texts : List (List ℕ)) (status : ℕ) (out err : List ℕ) : Type 0 where
      pub program : Program
      pub comes : ComesTo texts (went program)
      pub is : IsToldBy c program out
      pub status_is : status ≡ 0
      pub err_is : err ≡ []

    tells_it : {probes : ProbesUse} {c : Command} {status : ℕ} {out err : List ℕ} {texts : List (List ℕ)} → Cause words shelf probes status out err → IsTelling c → Has words shelf c texts → IsAccepted texts → IsTextOf c texts status out err
    tells_it {c} {texts} cause t k ok =
        if_takes (IsTextOf c texts) cause (takes_telling words shelf c t k)
        (λ r comes. absurd (never_accepted texts r comes ok))
        (λ workers budget log files' texts' p o h comes good seen. runs_told words shelf c t h k)
        (λ script listing watch files' texts' s p h read comes good w. absurd (never_replay c t (same_command k h)))
        (λ d texts' text p h comes good is. record { program = p; comes = comes; is = subst (λ x. IsToldBy x p text) (same_command h k) is; status_is = refl; err_is = refl })

    -- refused texts are told of
    record IsRefusalOf (files : List (List ℕ)) (r : Refusal) (status : ℕ) (out err : List ℕ) : Type 0 where
      pub status_is : status ≡ 1
      pub out_is : out ≡ []
      pub err_is : err ≡ refusal_text (name_of files r.file) r.rule r.pos

    refuses_it : {probes : ProbesUse} {status : ℕ} {out err : List ℕ} {files texts : List (List ℕ)} (r : Refusal) → Cause words shelf probes status out err → Takes words shelf files texts → ComesTo texts (refused_by r) → IsRefusalOf files r status out err
    refuses_it {files} {texts} r c k comes =
        if_takes (IsRefusalOf files r) c k
        (λ r' comes'. record { status_is = refl; out_is = refl; err_is = ap (λ (x : Refusal). refusal_text (name_of files x.file) x.rule x.pos) (one_refusal texts r' r comes' comes) })
        (λ workers budget log files' texts' p o h comes' good s. absurd (never_accepted texts r comes (record { program = p; comes = comes' })))
        (λ script listing watch files' texts' s p h read comes' good w. absurd (never_accepted texts r comes (record { program = p; comes = comes' })))
        (λ d texts' text p h comes' good is. absurd (never_accepted texts r comes (record { program = p; comes = comes' })))

module _ (call : Call) (tells : Tells call.shelf) (calm : ¬ ShelfFailed call.shelf) where
  one_if : {status : ℕ} {out err : List ℕ} → Of call status out err → IsAbsentOrRefused call → status ≡ 1
  one_if c (is_absent {c = d} file asks lack) = if_absent call.words call.shelf tells calm c (record { command = d; asks = asks; comes = lack })
  one_if c (is_refused k never) =
      if_takes call.words call.shelf tells calm (λ n out err. n ≡ 1) c k
      (λ r comes. refl)
      (λ workers budget log files' texts' p o h comes good s. absurd (never (record { program = p; comes = comes })))
      (λ script listing watch files' texts' s p h read comes good w. absurd (never (record { program = p; comes = comes })))
      (λ d texts' text p h comes good is. absurd (never (record { program = p; comes = comes })))

  six_if : {status : ℕ} {out err : List ℕ} → Of call status out err → ShelfFailed call.shelf ⊎ IsTooLong call → status ≡ 6
  six_if c (inl f) = absurd (calm f)
  six_if c (inr l) = if_long call.words call.shelf tells calm c (record { command = l.command; asks = l.asks; comes = l.long })

  ten_if : {status : ℕ} {out err : List ℕ} → Of call status out err → IsNoScript call → status ≡ 10
  ten_if (wrong_words n) k = no_has call.words call.shelf n k.has
  ten_if (unread h w b f) k = absurd (calm f)
  ten_if (absent {c} h v n) k = not_absent call.words call.shelf tells (record { command = c; asks = h; comes = n }) (of_has call.words call.shelf k.has)
  ten_if (too_long {c} h v n) k = not_long call.words call.shelf tells (record { command = c; asks = h; comes = n }) (of_has call.words call.shelf k.has)
  ten_if (bad_script x h n) k = refl
  ten_if (refused r t comes) k = no_bad call.words call.shelf tells k.error t k.has k.refused
  ten_if (ran p o h comes good s) k = runs_apart call.words call.shelf h k.has
  ten_if (ran_by s p h read comes good w) k = no_bad call.words call.shelf tells k.error (to_replay s h read) k.has k.refused
  ten_if (told {c} {text} p h comes good is) k = absurd (never_replay c (telling c p text is) (same_command call.words call.shelf tells h k.has))

  seen_if : {status : ℕ} {out err : List ℕ} (n : ℕ) (Such : Observation → Type 0) → Means n Such → Of call status out err → call.status ≡ status → IsSeen call Such → status ≡ n
  seen_if n Such m c same (in_run {workers} {budget} h shown such) =
      sym same ∙ shown.status ∙ m.also shown.observation (run_has workers budget shown.program shown.observation shown.seen) such
  seen_if n Such m c same (in_replay {texts} s p h read comes such) =
      if_takes call.words call.shelf tells calm (λ k out err. k ≡ n) c (to_replay s h read)
      (λ r comes'. absurd (never_accepted texts r comes' (record { program = p; comes = comes })))
      (λ workers budget log files' texts' q o k comes' good seen. runs_apart call.words call.shelf k h)
      (λ script listing watch files' texts' z q k read' comes' good w.
      let same_program = one_program texts p q comes comes' in
      let script_is = same_script call.words call.shelf tells z s k read' h read in
      let same_seen : replay_of p s ≡ replay_of q z = (λ i. replay_of (same_program i) (script_is i)) in
      m.also (replay_of q z) (replay_has q z) (subst Such same_seen such))
      (λ d texts' text q k comes' good is. absurd (never_replay d (telling d q text is) (same_command call.words call.shelf tells k h)))

  told_if : {status : ℕ} {out err : List ℕ} → Of call status out err → IsTold call → status ≡ 0
  told_if cause t = (tells_it call.words call.shelf tells calm cause t.telling t.has t.accepted).status_is

-- The promises

module _ (call : Call) (answered : IsUndisturbed call → Answered call) (in_part : call.status ≡ 7 → AnsweredInPart call) (nothing : call.status ≡ 8 → GotNothing call.out × GotNothing call.err) (monitors : (p : Program) → HasMonitors p) (conditions : KeepsConditions call) where
  shows : (workers budget : ℕ) (log : Bool) (files texts : List (List ℕ)) → IsAsked call (Run workers budget log files) texts texts → IsUndisturbed call → ShowsTexts call workers budget log texts
  shows workers budget log files texts k u =
      let a = answered u in
      let r = runs_it call.words call.shelf k.tells k.worked a.cause k.has k.accepted in
      record {
        program = r.program;
        comes = r.comes;
        observation = r.observation;
        seen = r.seen;
        status = r.status_is;
        on_out = subst (GotWhole call.out) r.out_is a.on_out;
        on_err = subst (GotWhole call.err) r.err_is a.on_err;
      }

  shows_pairs : (workers pairs : ℕ) → Asks call.words (Gen workers pairs) → IsAccepted (gen_texts pairs) → IsUndisturbed call → ShowsTexts call workers default_budget false (gen_texts pairs)
  shows_pairs workers pairs asked ok u =
      let a = answered u in
      let r = generates_it call.words call.shelf workers pairs asked a.cause ok in
      record {
        program = r.program;
        comes = r.comes;
        observation = r.observation;
        seen = r.seen;
        status = r.status_is;
        on_out = subst (GotWhole call.out) r.out_is a.on_out;
        on_err = subst (GotWhole call.err) r.err_is a.on_err;
      }

  shows_replay : (s : Script) (script listing : List ℕ) (watch : Bool) (files texts : List (List ℕ)) → IsAsked call (Replay script watch files) (listing ∷ texts) texts → IsScript listing s → IsUndisturbed call → ShowsReplay call watch s texts
  shows_replay s script listing watch files texts k read u =
      let a = answered u in
      let r = replays_it call.words call.shelf k.tells k.worked s a.cause k.has read k.accepted in
      record {
        program = r.program;
        comes = r.comes;
        status = r.status_is;
        on_out = subst (GotWhole call.out) r.out_is a.on_out;
        on_err = subst (GotWhole call.err) r.err_is a.on_err;
        watched = r.watched;
      }

  shows_program : (c : Command) (texts : List (List ℕ)) → IsTelling c → IsAsked call c texts texts → IsUndisturbed call → ShowsProgram call c texts
  shows_program c texts tells k u =
      let a = answered u in
      let t = tells_it call.words call.shelf k.tells k.worked a.cause tells k.has k.accepted in
      record {
        program = t.program;
        comes = t.comes;
        text = a.out;
        is = t.is;
        status = t.status_is;
        on_out = a.on_out;
        on_err = subst (GotWhole call.err) t.err_is a.on_err;
      }

  shows_refusal : (files : List (List ℕ)) (r : Refusal) → LeadsTo call files (refused_by r) → IsUndisturbed call → ShowsRefusal call files r
  shows_refusal files r k u =
      let a = answered u in
      let t = refuses_it call.words call.shelf k.tells k.worked r a.cause k.takes k.comes in
      record {
        status = t.status_is;
        on_out = subst (GotWhole call.out) t.out_is a.on_out;
        on_err = subst (GotWhole call.err) t.err_is a.on_err;
      }

  -- what a sink got that tells its bytes
  just_got : (sink : SinkUse) (text listing : List ℕ) → GotWhole sink text → GotJust sink listing → listing ≡ text
  just_got sink text listing got just = append_cancel_left just.had listing text (injective just.had listing text (sym just.after ∙ got ∙ ap (λ b. appended b text) just.before))
    where
      injective : (had a b : List ℕ) → Some (had ++ a) ≡ Some (had ++ b) → had ++ a ≡ had ++ b
      injective had a b e = cc e

  logs : LogIsReplayed call
  logs workers budget files texts listing k u just again script watch others complete asked worked =
      let a = answered u in
      let r = runs_it call.words call.shelf k.tells k.worked a.cause k.has k.accepted in
      let s = script_of workers budget r.seen.schedule in
      let o = r.observation in
      let same_text : listing ≡ run_report true (names_of r.program) s o = just_got call.err a.err listing a.on_err just ∙ r.err_is in
      let read : IsScript listing (joined_script s) = subst (λ l. IsScript l (joined_script s)) (sym same_text) (log_is_script r.program s o r.compiled.typed r.seen.script) in
      elim (complete (joined_script s) script listing watch others texts asked read worked) [
        | inl eight ↦ inl eight
        | inr shown ↦
            let q = shown.1 in
            let same : replay_of q.program (joined_script s) ≡ o = ap (λ p. replay_of p (joined_script s)) (one_program texts q.program r.program q.comes r.comes) ∙ log_shows r.program s r.seen.script ∙ sym r.seen.seen in
            inr (record {
              out = o.output;
              first = subst (GotWhole call.out) r.out_is a.on_out;
              second = subst (λ (x : Observation). GotWhole again.out x.output) same q.on_out;
              status = q.status ∙ ap (λ (x : Observation). x.status) same ∙ sym r.status_is;
            })
      ]

  none_failed : {out err : List ℕ} → PutInPart call.out call.err out err → SinksWorked call → ⊥
  none_failed (out_failed f w k) worked = worked.out f
  none_failed (err_failed f w k) worked = worked.err f

  -- where no sink failed, memory was wanted or a fact on an undisturbed answer holds
  whole_or_memory : (P : Type 0) → SinksWorked call → (IsUndisturbed call → P) → (call.status ≡ 8) ⊎ P
  whole_or_memory P worked u =
      elim (eqb_tells call.status 7) [
        | inl h ↦ absurd (none_failed (in_part h.1).in_part worked)
        | inr h7 ↦ elim (eqb_tells call.status 8) [
          | inl h ↦ inl h.1
          | inr h8 ↦ inr (u (record { no_sink_failed = h7.1; no_memory_wanted = h8.1 }))
        ]
      ]

  run_answer : (workers budget : ℕ) (log : Bool) (files texts : List (List ℕ)) → IsAsked call (Run workers budget log files) texts texts → IsUndisturbed call → IsRunStatus call.status × ShowsTexts call workers budget log texts
  run_answer workers budget log files texts k u =
      let s = shows workers budget log files texts k u in
      (subst IsRunStatus (sym s.status) (run_status workers budget s.program s.observation s.seen), s)

  pairs_answer : (workers pairs : ℕ) → Asks call.words (Gen workers pairs) → IsAccepted (gen_texts pairs) → IsUndisturbed call → IsRunStatus call.status × ShowsTexts call workers default_budget false (gen_texts pairs)
  pairs_answer workers pairs asked ok u =
      let s = shows_pairs workers pairs asked ok u in
      (subst IsRunStatus (sym s.status) (run_status workers default_budget s.program s.observation s.seen), s)

  replay_answer : (s : Script) (script listing : List ℕ) (watch : Bool) (files texts : List (List ℕ)) → IsAsked call (Replay script watch files) (listing ∷ texts) texts → IsScript listing s → IsUndisturbed call → IsReplayStatus call.status × ShowsReplay call watch s texts
  replay_answer s script listing watch files texts k read u =
      let r = shows_replay s script listing watch files texts k read u in (subst IsReplayStatus (sym r.status) (replay_status r.program s), r)

  -- what a status tells of what is seen
  where_seen : (n : ℕ) (Such : Observation → Type 0) → Means n Such → (0 == n) ≡ false → IsStatusWhere call n (IsSeen call Such)
  where_seen n Such m apart = record {
    only_where = λ u e. let a = answered u in elim (seen_or_told call n Such m a.cause refl a.on_out a.on_err e) [
      | inl seen ↦ seen
      | inr told' ↦ differ 0 n apart told'.0
    ];
    wherever = λ tells u fact calm. seen_if call tells calm n Such m (answered u).cause refl fact;
  }

  where_done : IsStatusWhere call 0 (IsSeen call EndsWell ⊎ IsTold call)
  where_done = record {
    only_where = λ u e. let a = answered u in elim (seen_or_told call 0 EndsWell is_well a.cause refl a.on_out a.on_err e) [
      | inl seen ↦ inl seen
      | inr told' ↦ inr told'.1
    ];
    wherever = λ tells u fact calm. elim fact [
      | inl seen ↦ seen_if call tells calm 0 EndsWell is_well (answered u).cause refl seen
      | inr told' ↦ told_if call tells calm (answered u).cause told'
    ];
  }

  pub promises : Promises call
  promises = record {
    answers = answered;
    headline = shows;
    complete = λ workers budget log files texts k worked. whole_or_memory (IsRunStatus call.status × ShowsTexts call workers budget log texts) worked (run_answer workers budget log files texts k);
    generates = shows_pairs;
    generates_complete = λ workers pairs asked ok worked. whole_or_memory (IsRunStatus call.status × ShowsTexts call workers default_budget false (gen_texts pairs)) worked (pairs_answer workers pairs asked ok);
    replays = shows_replay;
    replays_complete = λ s script listing watch files texts k read worked. whole_or_memory (IsReplayStatus call.status × ShowsReplay call watch s texts) worked (replay_answer s script listing watch files texts k read);
    logs = logs;
    tells = shows_program;
    tells_complete = λ c texts tells k worked. whole_or_memory (ShowsProgram call c texts) worked (shows_program c texts tells k);
    refuses = shows_refusal;
    done = where_done;
    absent_or_refused = record { only_where = λ u e. one_only call (answered u).cause e; wherever = λ tells u fact calm. one_if call tells calm (answered u).cause fact };
    wrong_words = λ u. ((λ e. two_only call.words call.shelf (answered u).cause e), (λ n. two_if call.words call.shelf (answered u).cause n));
    trapped = where_seen 3 EndsWithTrap is_trapped refl;
    dead = where_seen 4 IsDead is_dead refl;
    spent = where_seen 5 IsSpent is_spent refl;
    unread_or_too_long = record { only_where = λ u e. six_only call (answered u).cause e; wherever = λ tells u fact calm. six_if call tells calm (answered u).cause fact };
    script_ended = where_seen 9 IsGoing is_going refl;
    no_script = record { only_where = λ u e. ten_only call (answered u).cause e; wherever = λ tells u fact calm. ten_if call tells calm (answered u).cause fact };
    sink_failed = in_part;
    no_memory = nothing;
    monitors = λ texts p comes. monitors p;
    conditions = conditions;
  }

-- an answer with its cause keeps them
pub of_answer : (call : Call) (a : Answer) → Causes call.words call.shelf call.probes a → (call.status ≢ 7 → IsWhole a call.status call.out call.err) → (call.status ≡ 7 → IsStopped a call.out call.err) → call.status ≢ 8 → ((p : Program) → HasMonitors p) → KeepsConditions call → Promises call
of_answer call a cause whole stopped memory monitors conditions =
    promises call
    (λ u. let w = whole u.no_sink_failed in record { out = a.out.items; err = a.err.items; cause = subst (λ s. Cause call.words call.shelf call.probes s a.out.items a.err.items) (sym w.same) cause; on_out = w.on_out; on_err = w.on_err })
    (λ e. record { status = a.status; out = a.out.items; err = a.err.items; cause = cause; in_part = stopped e })
    (λ e. absurd (memory e)) monitors conditions

-- so does want of memory before anything was put
pub of_no_memory : (call : Call) → call.status ≡ 8 → GotNothing call.out → GotNothing call.err → ((p : Program) → HasMonitors p) → KeepsConditions call → Promises call
of_no_memory call eight out err monitors conditions =
    promises call (λ u. absurd (u.no_memory_wanted eight)) (λ e. differ 8 7 refl (sym eight ∙ e)) (λ e. (out, err)) monitors conditions

-- two calls that show the replay of one script over the same texts
alike : (a b : Call) (s : Script) (texts : List (List ℕ)) → ShowsReplay a false s texts → ShowsReplay b false s texts → IsAlike a b
alike a b s texts h k =
    let same = one_program texts h.program k.program h.comes k.comes in
    let text = λ (p : Program). replay_report (names_of p) s (replay_of p s) ++ [] in
    record {
      out = (replay_of h.program s).output;
      err = text h.program;
      out_of_a = h.on_out;
      out_of_b = subst (λ (p : Program). GotWhole b.out (replay_of p s).output) (sym same) k.on_out;
      err_of_a = h.on_err;
      err_of_b = subst (λ (p : Program). GotWhole b.err (text p)) (sym same) k.on_err;
      status = k.status ∙ ap (λ (p : Program). (replay_of p s).status) (sym same) ∙ sym h.status;
    }

pub dont_matter : ProbesDontMatter
dont_matter a b s script script' listing files files' texts pa pb k k' read u u' =
    alike a b s texts (pa.replays s script listing false files texts k read u) (pb.replays s script' listing false files' texts k' read u')
