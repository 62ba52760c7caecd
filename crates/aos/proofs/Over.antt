-- What a kernel tells of a run that is over is the image's observation.
use Rattle.std.proofs.Common.{◌≡◌, ◌≢◌, ℕ, List, [], ◌∷◌, ◌++◌, length, map, Option, refl, sym, ap, ◌∙◌, subst}
use Rattle.std.specs.Prelude.{All, Result, IfOk, Bool, true, false}
use Rattle.std.proofs.lemmas.Result.{IfOk-weaker}
use Rattle.aos_base.specs.declared.text.NoMemory.{NoMemory}
use Rattle.aos_base.specs.declared.kernel.Outcome.{Outcome}
use Rattle.aos_base.specs.declared.kernel.Outcome.TheVariants.{Going, Ended, Dead, Spent}
use Rattle.aos_base.specs.Book.{TrapRow, outcome}
use Rattle.aos_base.specs.declared.kernel.Event.{Event}
use Rattle.aos_base.specs.Machine.{State, execution}
use Rattle.aos_base.specs.Observation.{WaitRow, Observation, observation, status_of, waits_if, spent_if, waits_below}
use Rattle.aos_base.specs.Schedule.{choices, IsEntry}
use Rattle.aos_code.specs.declared.image.Image.{Image}
use Rattle.aos_code.specs.Memory.{Memory}
use Rattle.aos_code.specs.Machine.{Frames, machine, first_state}
use Rattle.aos_kernel.specs.Run.{Run, after, state_of, rec_of, traps_of, wait_of, waits_of, spent_of, if_spent}
use Rattle.aos_probe.specs.Meaning.{Seen}
use Rattle.aos_probe.specs.Told.{total_of, after_all}
use Rattle.aos_probe.proofs.Folds.{none_left}
use Rattle.aos_replay.specs.Told.{Told}
use Rattle.aos_cell.specs.Bound.{IsPreempted}
use Rattle.aos_cell.specs.Passes.{RunsOn}
use Rattle.aos_report.specs.Texts.{row_text, rows_text, waits_text, probes_text}
use Rattle.aos_script.specs.declared.script.Script.{Script}
use Rattle.aos_script.specs.Listing.{choices_of}
use Rattle.aos.specs.declared.answer.Answer.{Answer}
use Rattle.aos.specs.Call.{ProbesUse, probes_use}
use Rattle.aos.specs.Report.{report, run_report, replay_report, log_text, spent_text, ended_text}
use Rattle.aos.specs.Seen.{script_of}
use Rattle.aos.specs.Watched.{watch_text}
use Rattle.aos.specs.Shown.{row_of, wait_row_of, names_in, image_seen_of, image_replay_of, image_events_of, kernel_seen_of, script_in, ShowsRun, ShowsReplayOf, TellsOf, TellsLog}

-- a trap's line doesn't tell what the record leaves out
rows_told : (names : List (List ℕ)) (rows : List TrapRow) → rows_text names (map row_of (map rec_of rows)) ≡ rows_text names rows
rows_told names [] = refl
rows_told names (row ∷ rows) = ap (λ l. row_text names row ++ l) (rows_told names rows)

status_told : (o : Outcome) (rows : List TrapRow) → status_of o (map row_of (map rec_of rows)) ≡ status_of o rows
status_told Ended [] = refl
status_told Ended (row ∷ rows) = refl
status_told Dead rows = refl
status_told Spent rows = refl
status_told Going rows = refl

spent_told : (o : Outcome) (a : Option ℕ) → if_spent o a ≡ spent_if o a
spent_told Going a = refl
spent_told Ended a = refl
spent_told Dead a = refl
spent_told Spent a = refl

-- the record of one who waits tells the whole row
rows_back : (rows : List WaitRow) → map wait_row_of (map wait_of rows) ≡ rows
rows_back [] = refl
rows_back (row ∷ rows) = ap (λ rs. row ∷ rs) (rows_back rows)

none_wait : (o : Outcome) (rows : List WaitRow) → o ≢ Dead → waits_if o rows ≡ []
none_wait Going rows lively = refl
none_wait Ended rows lively = refl
none_wait Dead rows lively = absurd (lively refl)
none_wait Spent rows lively = refl

module _ (r : Run) where
  -- those who wait are seen where the outcome is Dead, and else none is
  pub dead_waits : outcome (state_of r).book ≡ Dead → map wait_row_of (waits_of r) ≡ (kernel_seen_of r).waits
  unfolding kernel_seen_of image_seen_of observation
  dead_waits dead =
      let rows = waits_below (machine r.image) (state_of r).book.started (state_of r).book.line (state_of r).frames in
      rows_back rows ∙ ap (λ o. waits_if o rows) (sym dead)

  pub no_waits : outcome (state_of r).book ≢ Dead → (kernel_seen_of r).waits ≡ []
  unfolding kernel_seen_of image_seen_of observation
  no_waits lively = none_wait (outcome (state_of r).book) (waits_below (machine r.image) (state_of r).book.started (state_of r).book.line (state_of r).frames) lively

-- what the kernel hands out is the observation of its state
pub tells : (r : Run) (a : Answer) → a.status ≡ status_of (outcome (state_of r).book) (map row_of (traps_of r)) → a.out.items ≡ (state_of r).book.output → a.err.items ≡ rows_text (names_in r.image) (map row_of (traps_of r)) ++ waits_text (names_in r.image) (kernel_seen_of r).waits ++ spent_text (spent_of r) r.budget → TellsOf r a
unfolding kernel_seen_of image_seen_of observation
tells r a status out err =
    let st = state_of r in
    let names = names_in r.image in
    let waits = waits_text names (kernel_seen_of r).waits in
    record {
      status = status ∙ status_told (outcome st.book) st.book.traps;
      out = out;
      err =
          err ∙ ap (λ l. l ++ waits ++ spent_text (spent_of r) r.budget) (rows_told names st.book.traps)
          ∙ ap (λ s. rows_text names st.book.traps ++ waits ++ spent_text s r.budget) (spent_told (outcome st.book) st.book.spent);
    }

-- the same behind it, and the log where that is wanted
pub tells_log : (log : Bool) (r : Run) (a b : Answer) (lines : List ℕ) → All (IsEntry r.workers) r.log → TellsOf r a → b.status ≡ a.status → b.out.items ≡ a.out.items → b.err.items ≡ a.err.items ++ lines → lines ≡ log_text log (script_in r) → TellsLog log r b
tells_log log r a b lines entries told status out err same =
    record {
      entries = entries;
      status = status ∙ told.status;
      out = out ∙ told.out;
      err = err ∙ (λ i. told.err i ++ same i);
    }

-- a kernel in which nothing had happened, and the same where its workers have come to the end
pub shows_run : (log : Bool) (old now : Run) (a : Answer) → old.log ≡ [] → RunsOn old now → outcome (state_of now).book ≢ Going → TellsLog log now a → ShowsRun old.workers old.budget log old.image a
unfolding kernel_seen_of image_seen_of observation
shows_run log old now a none runs over told =
    let same = runs.0 in
    let bound = runs.1 in
    let added : choices now.log ≡ bound.0 = bound.1 ∙ ap (λ l. choices l ++ bound.0) none in
    let begins : state_of old ≡ first_state old.image old.budget = ap (λ l. after old.image old.budget (choices l)) none in
    record {
      observation = kernel_seen_of now;
      seen = record {
        schedule = now.log;
        entries = subst (λ n. All (IsEntry n) now.log) same.1 told.entries;
        preempted = λ w. subst (λ cs. IsPreempted (machine old.image) w cs 0 (first_state old.image old.budget)) (sym added)
            (subst (λ st. IsPreempted (machine old.image) w bound.0 0 st) begins (bound.2 w));
        over = over;
        seen = λ i. observation (machine (same.0 i)) (after (same.0 i) (same.2 i) (choices now.log));
      };
      status = told.status;
      out = told.out;
      err = told.err ∙ (λ i. run_report log (names_in (same.0 i)) (script_of (same.1 i) (same.2 i) now.log) (kernel_seen_of now));
    }

-- the lines of the probes that are left
pub lines_along : {B : Type 0} (seen : B → Seen) (lines : List ℕ) (given items : List B) → lines ≡ probes_text 0 (map total_of (map seen given)) → given ≡ items → lines ≡ probes_text 0 (map total_of (map seen items))
lines_along seen lines given items is same = is ∙ ap (λ bs. probes_text 0 (map total_of (map seen bs))) same

-- probes that were told what happened since the beginning were told the events of the whole execution
pub told_whole : (image : Image) (s : Script) (old now : Run) (before left : List Seen) → old.log ≡ [] → state_of now ≡ execution (machine image) (choices_of s) (first_state image s.budget) → Told old now before left → left ≡ after_all (image_events_of image s) before
unfolding image_events_of
told_whole image s old now before left none state told =
    let begins : state_of old ≡ first_state old.image old.budget = ap (λ l. after old.image old.budget (choices l)) none in
    let events : image_events_of image s ≡ told.events =
    sym (ap (λ (st : State Memory Frames). st.book.events) state) ∙ told.between
    ∙ ap (λ (st : State Memory Frames). st.book.events ++ told.events) begins in
    told.told ∙ ap (λ es. after_all es before) (sym events)

-- the kernel of a script, the line of one that has ended, and those of the probes
pub shows_replay : (image : Image) (s : Script) (r : Run) (a b : Answer) (line lines : List ℕ) (probes : ProbesUse) → r.image ≡ image → r.budget ≡ s.budget → state_of r ≡ execution (machine image) (choices_of s) (first_state image s.budget) → TellsOf r a →
    b.status ≡ a.status → b.out.items ≡ a.out.items → b.err.items ≡ (a.err.items ++ line) ++ lines → line ≡ ended_text (outcome (state_of r).book) (length (choices_of s)) →
    lines ≡ probes_text 0 (map total_of probes.left) → probes.left ≡ after_all (image_events_of image s) probes.before → ShowsReplayOf image s true probes b
unfolding kernel_seen_of image_seen_of observation
shows_replay image s r a b line lines probes here budget state told status out err ended seen watched =
    let same : kernel_seen_of r ≡ image_replay_of image s = (λ i. observation (machine (here i)) (state i)) in
    record {
      status = status ∙ told.status ∙ ap (λ (o : Observation). o.status) same;
      out = out ∙ told.out ∙ ap (λ (o : Observation). o.output) same;
      err =
          err ∙ (λ i. (told.err i ++ ended i) ++ seen i)
          ∙ (λ i. (report (names_in (here i)) (budget i) (same i) ++ ended_text (same i).outcome (length (choices_of s))) ++ probes_text 0 (map total_of probes.left));
      watched = watched;
    }

-- where no probe was handed in, nothing stands behind the reports
unwatched_text : (events : List Event) (probes : ProbesUse) → probes.before ≡ [] → probes.left ≡ after_all events probes.before → watch_text true probes ≡ []
unwatched_text events probes none told =
    ap (λ ps. probes_text 0 (map total_of ps)) (told ∙ ap (after_all events) none ∙ none_left events)

-- so such a run is that of one in which none watches
pub unwatched : (image : Image) (s : Script) (probes : ProbesUse) (a : Answer) → probes.before ≡ [] → ShowsReplayOf image s true probes a → (ps : List Seen) → ShowsReplayOf image s false (probes_use ps ps) a
unwatched image s probes a none shown ps = record {
  status = shown.status;
  out = shown.out;
  err = shown.err ∙ ap (λ l. replay_report (names_in image) s (image_replay_of image s) ++ l) (unwatched_text (image_events_of image s) probes none shown.watched);
  watched = refl;
}

-- whether they watch is as it was said
pub watch_along : (image : Image) (s : Script) (watch : Bool) (probes : ProbesUse) (r : Result Answer NoMemory) → watch ≡ true → IfOk r (ShowsReplayOf image s true probes) → IfOk r (ShowsReplayOf image s watch probes)
watch_along image s watch probes r is h = subst (λ w. IfOk r (ShowsReplayOf image s w probes)) (sym is) h

pub unwatched_along : (image : Image) (s : Script) (watch : Bool) (ps : List Seen) (r : Result Answer NoMemory) → watch ≡ false → IfOk r (λ a. (qs : List Seen) → ShowsReplayOf image s false (probes_use qs qs) a) → IfOk r (ShowsReplayOf image s watch (probes_use ps ps))
unwatched_along image s watch ps r is h =
    subst (λ w. IfOk r (ShowsReplayOf image s w (probes_use ps ps))) (sym is)
    (IfOk-weaker r _ _ (λ a shown. shown ps) h)
