-- What probes are told while a run goes on: by nothing, by a step or a tick, by one after the other.
use Rattle.std.proofs.Common.{◌≡◌, ◌∙◌, ℕ, zero, suc, Bool, true, List, [], ◌∷◌, ◌++◌, length, drop, replicate, ap, refl, sym, arith, append_assoc}
use Rattle.std.proofs.lemmas.List.{append-nil, drop_at}
use Rattle.aos_base.specs.declared.kernel.Event.{Event}
use Rattle.aos_base.specs.Machine.{Choice, Step, Tick, State, execution}
use Rattle.aos_base.specs.Schedule.{choices}
use Rattle.aos_concurrency.proofs.Executions.{execution-append}
use Rattle.aos_code.specs.Memory.{Memory}
use Rattle.aos_code.specs.Machine.{Frames, machine, first_state}
use Rattle.aos_kernel.specs.Run.{Run, after, state_of, without_last, state_before, events_of, after_tick}
use Rattle.aos_kernel.specs.Steps.{AreSteps}
use Rattle.aos_kernel.proofs.Histories.{state_after, state_before_is}
use Rattle.aos_kernel.proofs.Lending.{less_one}
use Rattle.aos_kernel.proofs.Quietly.{step_behind}
use Rattle.aos_kernel.proofs.Logs.{choices-with_tick}
use Rattle.aos_probe.specs.Meaning.{Seen}
use Rattle.aos_probe.specs.Told.{after_all}
use Rattle.aos_probe.proofs.Folds.{after_all-append}
use Rattle.aos_probe.proofs.Growing.{events_grow}
use Rattle.aos_replay.specs.Told.{Told}

pub tells_nothing : (r : Run) (ps : List Seen) → Told r r ps ps
tells_nothing r ps = record { events = []; between = sym (append-nil (state_of r).book.events); told = refl }

-- where the run stays
pub tells_no_more : (old new : Run) (ps : List Seen) → new ≡ old → Told old new ps ps
tells_no_more old new ps same = record {
  events = [];
  between = ap (λ r. (state_of r).book.events) same ∙ sym (append-nil (state_of old).book.events);
  told = refl;
}

pub tells_then : (a b c : Run) (ps qs rs : List Seen) → Told a b ps qs → Told b c qs rs → Told a c ps rs
tells_then a b c ps qs rs h k = record {
  events = h.events ++ k.events;
  between = k.between ∙ ap (λ l. l ++ k.events) h.between ∙ append_assoc (state_of a).book.events h.events k.events;
  told = k.told ∙ ap (after_all k.events) h.told ∙ sym (after_all-append h.events k.events ps);
}

module _ (old new : Run) (c : Choice) (same : new ≡ record old { log = new.log }) (more : choices new.log ≡ choices old.log ++ c ∷ []) where
  abbrev now : Run
  now = record old { log = new.log }

  abbrev earlier : List Event
  earlier = (state_of old).book.events

  -- the events of one choice more are those of the last
  one_choice : (state_of now).book.events ≡ earlier ++ events_of now
  one_choice =
      let grown = events_grow (machine old.image) c (state_of old) in
      let all : (state_of now).book.events ≡ earlier ++ grown.more =
      ap (λ (s : State Memory Frames). s.book.events) (state_after old new.log c more) ∙ grown.is in
      let last : events_of now ≡ grown.more =
      (λ i. drop (length (state_before_is old new.log c more i).book.events) (all i))
      ∙ drop_at earlier grown.more (length earlier) refl in
      all ∙ ap (λ l. earlier ++ l) (sym last)

  pub tells_choice : (ps qs : List Seen) → qs ≡ after_all (events_of new) ps → Told old new ps qs
  tells_choice ps qs told = record {
    events = events_of new;
    between =
        ap (λ (r : Run). (state_of r).book.events) same ∙ one_choice
        ∙ ap (λ l. earlier ++ l) (sym (ap events_of same));
    told = told;
  }

-- the events of several steps are those of the last
module _ (w : ℕ) (old new : Run) (ps qs : List Seen) where
  pub tells_many : (n : ℕ) → (n ≡ 0 → ⊥) → new ≡ record old { log = new.log } → AreSteps n w old new → qs ≡ after_all (events_of new) ps → Told old new ps qs
  tells_many zero some same h told = absurd (some refl)
  tells_many (suc k) some same h told =
      let m = machine old.image in
      let first = (state_of old).book.events in
      let mid = execution m (replicate k (Step w)) (state_of old) in
      let quiet : mid.book.events ≡ first = h.quiet k (omega arith) in
      let grown = events_grow m (Step w) mid in
      let all : (state_of new).book.events ≡ first ++ grown.more =
      ap (λ (s : State Memory Frames). s.book.events) (h.state ∙ step_behind old.image w k (state_of old)) ∙ grown.is ∙ ap (λ l. l ++ grown.more) quiet in
      let before : state_before new ≡ mid =
      ap state_before same ∙ ap (λ cs. after old.image old.budget (without_last cs)) h.log ∙ ap (λ cs. after old.image old.budget cs) (less_one (choices old.log) w k)
      ∙ execution-append m (choices old.log) (replicate k (Step w)) (first_state old.image old.budget) in
      let last : events_of new ≡ grown.more =
      (λ i. drop (length ((ap (λ (s : State Memory Frames). s.book.events) before ∙ quiet) i)) (all i))
      ∙ drop_at first grown.more (length first) refl in
      record {
        events = events_of new;
        between = all ∙ ap (λ l. first ++ l) (sym last);
        told = told;
      }

module _ (w : ℕ) (old new : Run) (ps qs : List Seen) where
  pub tells_ticked : (ticked : Bool) → ticked ≡ true → new ≡ after_tick ticked w old → new ≡ record old { log = new.log } → qs ≡ after_all (events_of new) ps → Told old new ps qs
  tells_ticked ticked so is same told =
      let log = ap (λ r. choices r.log) (is ∙ ap (λ t. after_tick t w old) so) ∙ choices-with_tick w old.log in
      tells_choice old new (Tick w) same log ps qs told

-- the events that were told are those of the last step or tick
pub told_of : (events : List Event) (ps : List Seen) (r : Run) → events ≡ events_of r → after_all events ps ≡ after_all (events_of r) ps
told_of events ps r is = ap (λ l. after_all l ps) is
