-- The rounds of a worker, and what the caller does alone.
use Rattle.std.proofs.Common.{◌≡◌, ◌≢◌, ℕ, ◌+◌, ◌*◌, ◌≤◌, ◌⊎◌, Bool, true, false, List, [], ◌∷◌, ◌++◌, refl, sym, ap, ◌∙◌, subst, arith, inl, inr, append_assoc}
use Rattle.std.specs.Prelude.{if◌then◌else◌, ◌==◌, None}
use Rattle.std.proofs.lemmas.Bool.Decides.{eqb_tells}
use Rattle.std.proofs.lemmas.List.{append-nil}
use Rattle.aos_base.specs.declared.kernel.Outcome.TheVariants.{Going}
use Rattle.aos_base.specs.Machine.{Choice, Tick, happens}
use Rattle.aos_base.specs.Schedule.{choices}
use Rattle.aos_code.specs.Machine.{machine}
use Rattle.aos_kernel.specs.Run.{Run, state_of, ticks, after_tick, has_activity}
use Rattle.aos_kernel.proofs.Logs.{choices-with_tick}
use Rattle.aos_cell.specs.declared.rule.Part.{Part}
use Rattle.aos_cell.specs.declared.rule.View.{View}
use Rattle.aos_cell.specs.declared.rule.View.TheVariants.{Opens, Spent, Of}
use Rattle.aos_cell.specs.Bound.{turns_since, IsPreempted}
use Rattle.aos_cell.specs.Rule.{SameProgram, AddsOthers, HasPart, workers_of}
use Rattle.aos_cell.specs.Passes.{Ended, RunsOn}
use Rattle.aos_cell.proofs.Schedules.{preempted-append, preempted_end, others_preempted}
use Rattle.aos_cell.proofs.Passes.{program_same, program_then}
use Rattle.aos_workers.specs.Round.{outcome_of, activity_of, Works}
use Rattle.aos_workers.specs.Run.{MayBegin, GoesOn}
use Rattle.aos_workers.proofs.Turns.{is_in, own_alone}
use Rattle.aos_workers.proofs.Rounds.{along, ticked_while, has_none}

-- The rounds of a worker

-- a pass with which the rounds began, and the same after i of them; 8830452760576 is 257 * 2 ^ 35
pub record Between (w i : ℕ) (p q : Part) : Type 0 where
  pub worker : q.workers ≡ w ∷ []
  pub idle : q.has ≡ false
  pub none_lent : q.lent ≡ []
  pub fresh : (activity_of w q.last ≡ None) ⊎ AddsOthers (w ∷ []) q.first q.last
  pub gives : 8830452760576 ≤ q.gives + 257 * i
  pub ended : Ended p q

abbrev pub IsBetween : ℕ → ℕ → View → View → Type 0
IsBetween w i v now = HasPart (λ p. HasPart (Between w i p) now) v

pub begins_rounds : (w : ℕ) (v : View) → workers_of v ≡ w ∷ [] → MayBegin 1 v → IsBetween w 0 v v
begins_rounds w Opens is start = absurd start
begins_rounds w Spent is start = absurd start
begins_rounds w (Of p) is start =
    record {
      worker = is;
      idle = start.idle;
      none_lent = start.none_lent;
      fresh = inr (subst (λ ws. AddsOthers ws p.first p.last) is start.untouched);
      gives = (let g = start.gives in omega arith);
      ended = record { workers = λ x. refl; idle = start.idle; none_lent = start.none_lent; first = refl };
    }

-- What the caller does alone

pub goes_nowhere : (r : Run) → GoesOn r r
goes_nowhere r = record { own = []; added = sym (append-nil (choices r.log)); program = (refl, refl, refl); lent = refl; preempted = λ w n le. le }

-- a schedule that keeps the bound, and then what goes on
behind : (w n : ℕ) (a b c : Run) (own : List Choice) → SameProgram a b → choices b.log ≡ choices a.log ++ own → IsPreempted (machine a.image) w own n (state_of a) → (y : GoesOn b c)
    → IsPreempted (machine a.image) w (own ++ y.own) n (state_of a)
behind w n a b c own same added kept y =
    let few = preempted_end (machine a.image) w own n (state_of a) kept in
    preempted-append (machine a.image) w own y.own n (state_of a) kept
    (along w (turns_since (machine a.image) w own n (state_of a)) a b own y.own same added (y.preempted w (turns_since (machine a.image) w own n (state_of a)) few))

pub goes_then : (a b c : Run) → GoesOn a b → GoesOn b c → GoesOn a c
goes_then a b c x y =
    record {
      own = x.own ++ y.own;
      added = y.added ∙ ap (λ l. l ++ y.own) x.added ∙ append_assoc (choices a.log) x.own y.own;
      program = program_then a b c x.program y.program;
      lent = y.lent ∙ x.lent;
      preempted = λ w n le. behind w n a b c x.own x.program x.added (x.preempted w n le) y;
    }

pub runs_then : (a b c : Run) → RunsOn a b → GoesOn b c → RunsOn a c
runs_then a b c x y =
    let bound = x.1 in (
      program_then a b c x.0 y.program,
      (
        bound.0 ++ y.own,
        y.added ∙ ap (λ l. l ++ y.own) bound.1 ∙ append_assoc (choices a.log) bound.0 y.own,
        λ w. behind w 0 a b c bound.0 x.0 bound.1 (bound.2 w) y,
      ),
    )

-- a tick
pub goes_tick : (v : ℕ) (old new : Run) (ticked : Bool) → new ≡ after_tick ticked v old → new ≡ record old { log = new.log } → GoesOn old new
goes_tick v old new true after_ same =
    record {
      own = Tick v ∷ [];
      added = ap (λ (r : Run). choices r.log) after_ ∙ choices-with_tick v old.log;
      program = program_same old new same;
      lent = ap (λ (r : Run). r.lent) same;
      preempted = λ w n le. (le, after w n le);
    }
  where
    after : (w n : ℕ) → n ≤ 256 → (if v == w then 0 else n) ≤ 256
    after w n le = elim (v == w) as (λ q. (if q then 0 else n) ≤ 256) [
      | true ↦ omega arith
      | false ↦ le
    ]
goes_tick v old new false after_ same = subst (GoesOn old) (sym after_) (goes_nowhere old)

-- a tick of a worker, and then its steps and another
pub goes_round : (v : ℕ) (old mid new : Run) (ticked : Bool) → ticked ≡ ticks v old → mid ≡ after_tick ticked v old → mid ≡ record old { log = mid.log } → Works v mid new → GoesOn old new
goes_round v old mid new true is after_ same work =
    let added : choices mid.log ≡ choices old.log ++ Tick v ∷ [] = ap (λ (r : Run). choices r.log) after_ ∙ choices-with_tick v old.log in
    let program : SameProgram old mid = program_same old mid same in
    let at : (w k : ℕ) → k ≤ 256 → (w ≡ v → k ≡ 0) → IsPreempted (machine old.image) w work.own k (happens (machine old.image) (Tick v) (state_of old)) = λ w k le none.
    elim (eqb_tells w v) [
      | inl e ↦ subst (λ x. IsPreempted (machine old.image) x work.own k (happens (machine old.image) (Tick v) (state_of old))) (sym e.1)
          (along v k old mid (Tick v ∷ []) work.own program added (work.preempted k le (inl (none e.1))))
      | inr e ↦ others_preempted (machine old.image) w (w ∷ []) work.own k (happens (machine old.image) (Tick v) (state_of old)) (is_in w) le (own_alone v w work.own e.1 work.all)
    ] in
    record {
      own = Tick v ∷ work.own;
      added = work.added ∙ ap (λ l. l ++ work.own) added ∙ append_assoc (choices old.log) (Tick v ∷ []) work.own;
      program = program_then old mid new program work.program;
      lent = work.lent ∙ ap (λ (r : Run). r.lent) same;
      preempted = λ w n le. (le, after w n le at);
    }
  where
    after : (w n : ℕ) → n ≤ 256 → ((x k : ℕ) → k ≤ 256 → (x ≡ v → k ≡ 0) → IsPreempted (machine old.image) x work.own k (happens (machine old.image) (Tick v) (state_of old)))
        → IsPreempted (machine old.image) w work.own (if v == w then 0 else n) (happens (machine old.image) (Tick v) (state_of old))
    after w n le at = elim (eqb_tells v w) [
      | inl e ↦ subst (λ q. IsPreempted (machine old.image) w work.own (if q then 0 else n) (happens (machine old.image) (Tick v) (state_of old))) (sym e.0) (at w 0 (omega arith) (λ _. refl))
      | inr e ↦ subst (λ q. IsPreempted (machine old.image) w work.own (if q then 0 else n) (happens (machine old.image) (Tick v) (state_of old))) (sym e.0) (at w n le (λ z. absurd (e.1 (sym z))))
    ]
goes_round v old mid new false is after_ same work =
    let here : Works v old new = subst (λ r. Works v r new) after_ work in
    let free : (activity_of v old ≡ None) ⊎ (outcome_of old ≢ Going) = elim (ticked_while (outcome_of old) (has_activity (activity_of v old)) (sym is)) [
      | inl over ↦ inr over
      | inr none ↦ inl (has_none (activity_of v old) none)
    ] in
    record {
      own = here.own;
      added = here.added;
      program = here.program;
      lent = here.lent;
      preempted = λ w n le. elim (eqb_tells w v) [
        | inl e ↦ subst (λ x. IsPreempted (machine old.image) x here.own n (state_of old)) (sym e.1) (here.preempted n le (inr free))
        | inr e ↦ others_preempted (machine old.image) w (w ∷ []) here.own n (state_of old) (is_in w) le (own_alone v w here.own e.1 here.all)
      ];
    }
