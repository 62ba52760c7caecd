-- Answers with their causes.
use Rattle.std.proofs.Common.{◌≡◌, ℕ, ◌≤◌, List, [], ◌∷◌, ◌++◌, length, Bool, false, arith, refl, sym, ap, ◌∙◌, subst, inl, inr}
use Rattle.std.specs.Prelude.{◌⊎◌, ◌^◌, Result, Ok, Err, IfOk, Vec}
use Rattle.std.specs.declared.alloc.Global.{Global}
use Rattle.std.proofs.lemmas.List.Elements.{All-nil, All-cons}
use Rattle.aos_base.specs.declared.text.NoMemory.{NoMemory}
use Rattle.aos_base.specs.Observation.{Observation}
use Rattle.aos_base.specs.Schedule.{choices}
use Rattle.aos_typed.specs.Program.{Program}
use Rattle.aos_typed.specs.Source.{source, first_state}
use Rattle.aos_code.specs.declared.image.Image.{Image}
use Rattle.aos_code.specs.Machine.{machine, first_state as first_of}
use Rattle.aos_report.specs.Texts.{refusal_text}
use Rattle.aos_script.specs.declared.script.Script.{Script}
use Rattle.aos_script.specs.declared.error.ScriptErr.{ScriptErr}
use Rattle.aos_script.specs.declared.error.ScriptErr.TheVariants.{NoMemory as NoMemoryOf}
use Rattle.aos_script.specs.Listing.{IsScript, choices_of}
use Rattle.aos_script.specs.Refusals.{IsRefused as IsRefusedScript}
use Rattle.aos_compile.specs.Elaborates.{names_of}
use Rattle.aos_gen.specs.Generated.{module_text}
use Rattle.aos_gen.proofs.Length.{within}
use Rattle.aos_words.specs.Words.{Words, Command, Replay, Gen, default_budget, most_pairs}
use Rattle.aos.specs.declared.answer.Answer.{Answer}
use Rattle.aos.specs.declared.run.Setting.{Setting}
use Rattle.aos.specs.declared.telling.Telling.{Telling}
use Rattle.aos.specs.declared.telling.Telling.TheVariants.{Locals, Layout}
use Rattle.aos.specs.Call.{ShelfUse, ProbesUse}
use Rattle.aos.specs.Wanted.{wanted_files, text_limit, text_files, gen_files, gen_texts, name_of}
use Rattle.aos.specs.Report.{run_report, replay_report, script_line}
use Rattle.aos.specs.Seen.{Seen, seen_of, replay_of, events_of, replay_events, script_of}
use Rattle.aos.specs.Cause.{Has, Runs, of_pairs, Takes, to_check, to_list, Cause, refused, ran, ran_by, told}
use Rattle.aos.specs.Shown.{image_seen_of, image_replay_of, image_events_of, IsSet, IsReady, IsAnswer, IsImageOf, TellsRefusal, ShowsRun, ShowsReplayOf, TellsOfProgram, asks_for, Causes, Serves, ServesRun, ServesTexts, ServesWith, AreTexts}
use Rattle.aos.specs.Watched.{Watched, watch_text}
use Rattle.aos.proofs.Bounds.{same_bound}

module _ {probes : ProbesUse} (words : List (List ℕ)) (shelf : ShelfUse) where
  -- an answer with this status and these texts
  pub causes_along : (a : Answer) (status : ℕ) (out err : List ℕ) → IsAnswer a status out err → Cause words shelf probes status out err → Causes words shelf probes a
  causes_along a status out err is h =
      subst (λ x. Cause words shelf probes x a.out.items a.err.items) (sym is.status_is)
      (subst (λ x. Cause words shelf probes status x a.err.items) (sym is.out_is)
      (subst (λ x. Cause words shelf probes status out x) (sym is.err_is) h))

  -- the run of an image that shows the texts' program
  pub ran_causes : (s : Setting) (files texts : List (List ℕ)) (p : Program) (image : Image) (a : Answer) → IsSet s → IsImageOf texts p image → ShowsRun s.workers s.budget s.log image a → Runs words shelf s.workers s.budget s.log files texts → Causes words shelf probes a
  unfolding seen_of image_seen_of
  ran_causes s files texts p image a set made run runs =
      let o = run.observation in
      let schedule = run.seen.schedule in
      let script = script_of s.workers s.budget schedule in
      let seen : Seen s.workers s.budget p o = record {
        schedule = schedule;
        script = record { workers = set.workers_in; budget = set.budget_in; entries = run.seen.entries };
        preempted = λ w. same_bound (machine image) (source p) w (choices schedule) 0 (first_of image s.budget) (first_state p s.budget) (made.shows.books s.budget) (run.seen.preempted w);
        over = run.seen.over;
        seen = run.seen.seen ∙ made.shows.observation s.budget (choices schedule);
      } in
      causes_along a o.status o.output (run_report s.log (names_of p) script o)
      (record { status_is = run.status; out_is = run.out; err_is = run.err ∙ ap (λ ns. run_report s.log ns script o) made.names })
      (ran p o runs made.comes made.compiled seen)

  -- and its run by a script
  pub replay_causes : (script listing : List ℕ) (watch : Bool) (files texts : List (List ℕ)) (s : Script) (p : Program) (image : Image) (a : Answer) → IsScript listing s → IsImageOf texts p image → ShowsReplayOf image s watch probes a → Has words shelf (Replay script watch files) (listing ∷ texts) → Causes words shelf probes a
  unfolding seen_of image_seen_of events_of image_events_of
  replay_causes script listing watch files texts s p image a read made run has =
      let same : image_replay_of image s ≡ replay_of p s = made.shows.observation s.budget (choices_of s) in
      let events : image_events_of image s ≡ replay_events p s = made.shows.events s.budget (choices_of s) in
      causes_along a (replay_of p s).status (replay_of p s).output (replay_report (names_of p) s (replay_of p s) ++ watch_text watch probes)
      (record {
        status_is = run.status ∙ ap (λ (o : Observation). o.status) same;
        out_is = run.out ∙ ap (λ (o : Observation). o.output) same;
        err_is = run.err ∙ (λ i. replay_report (made.names i) s (same i) ++ watch_text watch probes);
      })
      (ran_by s p has read made.comes made.compiled (subst (λ es. Watched watch es probes) events run.watched))

  -- what is told of the program
  pub told_causes : (what : Telling) (files texts : List (List ℕ)) (p : Program) (image : Image) (a : Answer) → IsImageOf texts p image → TellsOfProgram what p a → Has words shelf (asks_for what files) texts → Causes words shelf probes a
  told_causes what files texts p image a made tells has = causes_along a 0 tells.text [] tells.is (told p has made.comes made.compiled (tells.such files))

  -- the refusal of the texts
  pub refused_causes : (files texts : List (List ℕ)) (a : Answer) → TellsRefusal files texts a → Takes words shelf files texts → Causes words shelf probes a
  refused_causes files texts a tells takes =
      let r = tells.refusal in
      causes_along a 1 [] (refusal_text (name_of files r.file) r.rule r.pos) tells.is (refused r takes tells.comes)

module _ (words : List (List ℕ)) (shelf : ShelfUse) where
  pub takes_for : (what : Telling) (files texts : List (List ℕ)) → Has words shelf (asks_for what files) texts → Takes words shelf files texts
  takes_for Locals files texts has = to_check has
  takes_for Layout files texts has = to_list has

-- a fact on an answer, where there is one
pub on_answer : (P Q : Answer → Type 0) (r : Result Answer NoMemory) → ((a : Answer) → P a → Q a) → IfOk r P → IfOk r Q
on_answer P Q (Ok a) f h = f a h
on_answer P Q (Err e) f h = h

-- one that serves a command serves the same under another name
pub serves_with_along : (c d : Command) (shelf : ShelfUse) (probes : ProbesUse) (r : Result Answer NoMemory) → d ≡ c → IfOk r (ServesWith c shelf probes) → IfOk r (ServesWith d shelf probes)
serves_with_along c d shelf probes r is h = subst (λ x. IfOk r (ServesWith x shelf probes)) (sym is) h

-- so does one that serves it whatever becomes of the probes
pub serves_along : (c d : Command) (shelf : ShelfUse) (probes : ProbesUse) (r : Result Answer NoMemory) → d ≡ c → IfOk r (Serves c shelf) → IfOk r (ServesWith d shelf probes)
serves_along c d shelf probes r is h =
    serves_with_along c d shelf probes r is (on_answer (Serves c shelf) (ServesWith c shelf probes) r (λ a serves. serves probes) h)

pub wanted_for : (what : Telling) (files : List (List ℕ)) → wanted_files (asks_for what files) ≡ text_files files
wanted_for Locals files = refl
wanted_for Layout files = refl

-- a script that was read can be run by
pub ready : (listing : List ℕ) (s : Script) → IsScript listing s → length s.runs ≤ 2 ^ 27 → IsReady s
ready listing s h few = record {
  workers = (h.listing.workers.low, h.listing.workers.high);
  budget = (h.listing.budget.low, h.listing.budget.high);
  entries = h.workers;
  few = few;
}

-- a refused script
pub refused_script : (e : ScriptErr) (listing : List ℕ) (r : Result Answer NoMemory) (P : Answer → Type 0) → (e ≡ NoMemoryOf) ⊎ IsRefusedScript listing e → ((a : Answer) → IsRefusedScript listing e → IsAnswer a 10 [] (script_line e) → P a) → (e ≡ NoMemoryOf → IfOk r (λ a. ⊥)) → IfOk r (λ a. IsAnswer a 10 [] (script_line e)) → IfOk r P
refused_script e listing r P (inl m) f none h = on_answer (λ a. ⊥) P r (λ a x. absurd x) (none m)
refused_script e listing r P (inr q) f none h = on_answer (λ a. IsAnswer a 10 [] (script_line e)) P r (λ a x. f a q x) h

pub answer_err : (a : Answer) (status : ℕ) (out err err' : List ℕ) → IsAnswer a status out err → err ≡ err' → IsAnswer a status out err'
answer_err a status out err err' is e = record { status_is = is.status_is; out_is = is.out_is; err_is = is.err_is ∙ e }

-- the generated module's text, alone
pub one_text : (pairs : ℕ) (text : Vec ℕ Global) → pairs ≤ most_pairs → text.items ≡ module_text pairs → AreTexts (text ∷ [])
one_text pairs text few is =
    let Fits : Vec ℕ Global → Type 0 = λ t. length t.items ≤ text_limit in
    let short = within pairs few in
    let fits : length (module_text pairs) ≤ text_limit = omega (arith, short) in
    record {
      some = omega arith;
      few = omega arith;
      limits = All-cons Fits text [] (subst (λ l. length l ≤ text_limit) (sym is) fits) (All-nil Fits);
    }

-- a run of files with such texts serves who asks for a generated module
pub serves_pairs : (s : Setting) (workers pairs : ℕ) (files : Words) (texts : List (List ℕ)) (r : Result Answer NoMemory) → s ≡ record { workers = workers; budget = default_budget; log = false } → files ≡ gen_files → texts ≡ gen_texts pairs → IfOk r (ServesRun s files texts) → IfOk r (ServesTexts (Gen workers pairs) [])
serves_pairs s workers pairs files texts r set named made h =
    on_answer (ServesRun (record { workers = workers; budget = default_budget; log = false }) gen_files (gen_texts pairs)) (ServesTexts (Gen workers pairs) []) r
    (λ a serves shelf had probes words asks. serves words shelf probes (of_pairs (record { asks = asks; had = had })))
    (subst (λ ts. IfOk r (ServesRun (record { workers = workers; budget = default_budget; log = false }) gen_files ts)) made
    (subst (λ fs. IfOk r (ServesRun (record { workers = workers; budget = default_budget; log = false }) fs texts)) named
    (subst (λ x. IfOk r (ServesRun x files texts)) set h)))
