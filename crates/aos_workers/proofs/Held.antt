-- What a pass knows of the kernel before a round, in it and after it.
use Rattle.std.proofs.Common.{◌≡◌, ◌≢◌, ℕ, ◌<◌, ◌≤◌, ◌⊎◌, Bool, false, List, [], ◌∷◌, ◌++◌, length, refl, sym, ap, ◌∙◌, subst, arith, inl, inr, append_assoc}
use Rattle.std.specs.Prelude.{None, Result, Ok, Err, IfOk}
use Rattle.std.proofs.lemmas.Bool.Decides.{eqb_tells}
use Rattle.std.proofs.lemmas.List.{append-nil, append_cancel_left}
use Rattle.aos_base.specs.declared.text.NoMemory.{NoMemory}
use Rattle.aos_base.specs.declared.kernel.Outcome.{Outcome}
use Rattle.aos_base.specs.Book.{on_worker}
use Rattle.aos_base.specs.Machine.{Choice, Tick, happens, execution}
use Rattle.aos_base.specs.Schedule.{choices}
use Rattle.aos_concurrency.proofs.Places.{keeps_none}
use Rattle.aos_code.specs.Machine.{machine}
use Rattle.aos_kernel.specs.Run.{Run, among, state_of, ticks, after_tick}
use Rattle.aos_cell.specs.declared.rule.Part.{Part}
use Rattle.aos_cell.specs.declared.rule.View.{View}
use Rattle.aos_cell.specs.declared.rule.View.TheVariants.{Opens, Spent as Joined, Of}
use Rattle.aos_cell.specs.Total.{times}
use Rattle.aos_cell.specs.Bound.{turns_since, IsPreempted, KeepsBound}
use Rattle.aos_cell.specs.Rule.{AreOf, AreOthers, SameProgram, AddsOthers, HasPart, workers_of}
use Rattle.aos_cell.specs.Steps.{HasWorkers, Follows, taken, Takes, MayGive, given, Gives, HasOne, IsFree}
use Rattle.aos_cell.proofs.Steps.{adds_then}
use Rattle.aos_cell.proofs.Schedules.{far_from, preempted-append, preempted_end, others_since, others_preempted}
use Rattle.aos_cell.proofs.Passes.{program_same, program_then, same_lent, lends_on, not_lent, none_among, its_worker}
use Rattle.aos_workers.specs.Round.{outcome_of, activity_of, IsFresh, turns_made, Advances, Answers, Ready, IsReady, Rounded, HasRounded, RoundAnswers, first_worker, worker_in}
use Rattle.aos_workers.specs.Holding.{MayStep, Stepping, Held, IsHeld, IsWorking, HasAnswered}
use Rattle.aos_workers.proofs.Turns.{is_in, is_worker, own_alone, none_of, others_made}
use Rattle.aos_workers.proofs.Rounds.{state_grows, made_grows, ticked_more, ticked_answers, tick_entry, own_more, own_none}

-- what others added leaves a worker as fresh as it was
still_fresh : (w : ℕ) (first last now : Run) → SameProgram last now → AddsOthers (w ∷ []) last now → (activity_of w last ≡ None) ⊎ AddsOthers (w ∷ []) first last → (bound : KeepsBound first now)
    → IsFresh w (turns_since (machine first.image) w bound.0 0 (state_of first)) now
still_fresh w first last now same others (inl none) bound =
    inr (inl (ap (λ st. on_worker w st.book.line) (state_grows last now others.0 same others.1) ∙ keeps_none (machine last.image) w others.0 (state_of last) (none_of w others.0 others.2) none))
still_fresh w first last now same others (inr untouched) bound =
    let all = adds_then (w ∷ []) first last now untouched others in
    let alike : all.0 ≡ bound.0 = append_cancel_left (choices first.log) all.0 bound.0 (sym all.1 ∙ bound.1) in
    inl (others_since (machine first.image) w (w ∷ []) bound.0 0 (state_of first) (is_in w) (subst (AreOthers (w ∷ [])) alike all.2))

-- Its one worker

pub ready_has : (w : ℕ) (v : View) → IsReady w v → HasWorkers v
ready_has w Opens ready = absurd ready
ready_has w Joined ready = absurd ready
ready_has w (Of p) ready = tt

pub ready_workers : (w : ℕ) (v : View) → IsReady w v → workers_of v ≡ w ∷ []
ready_workers w Opens ready = absurd ready
ready_workers w Joined ready = absurd ready
ready_workers w (Of p) ready = ready.worker

pub ready_one : (w : ℕ) (v : View) → IsReady w v → HasOne v
ready_one w Opens ready = absurd ready
ready_one w Joined ready = absurd ready
ready_one w (Of p) ready = ap length ready.worker

pub ready_free : (w : ℕ) (v : View) → IsReady w v → IsFree v
ready_free w Opens ready = absurd ready
ready_free w Joined ready = absurd ready
ready_free w (Of p) ready = (ready.idle, ready.none_lent)

pub told_worker : (w : ℕ) (v : View) → workers_of v ≡ w ∷ [] → worker_in v ≡ w
told_worker w v is = ap first_worker is

-- Going on with the kernel

-- entries of the worker leave the bound of others as it was
pub bound_more : (w i : ℕ) (first last now new : Run) (cs : List Choice) → AreOf (w ∷ []) cs → choices new.log ≡ choices now.log ++ cs → KeepsBound first now → Stepping w i (λ n. n ≡ 0) first last new → KeepsBound first new
bound_more w i first last now new cs all added bound s =
    let m = machine first.image in
    let st = state_of first in
    let longer : choices new.log ≡ choices first.log ++ (bound.0 ++ cs) = added ∙ ap (λ l. l ++ cs) bound.1 ∙ append_assoc (choices first.log) bound.0 cs in
    let alike : s.own ≡ bound.0 ++ cs = append_cancel_left (choices first.log) s.own (bound.0 ++ cs) (sym s.added ∙ longer) in (
      bound.0 ++ cs,
      longer,
      λ v. elim (eqb_tells v w) [
        | inl e ↦ subst (λ x. IsPreempted m x (bound.0 ++ cs) 0 st) (sym e.1) (subst (λ l. IsPreempted m w l 0 st) alike (s.preempted 0 refl))
        | inr e ↦ preempted-append m v bound.0 cs 0 st (bound.2 v)
            (others_preempted m v (v ∷ []) cs (turns_since m v bound.0 0 st) (execution m bound.0 st) (is_in v) (preempted_end m v bound.0 0 st (bound.2 v)) (own_alone w v cs e.1 all))
      ],
    )

-- a worker that isn't among those of a pass isn't the one that is
far_worker : (w v : ℕ) (ws : List ℕ) → ws ≡ w ∷ [] → times v ws ≡ 0 → v ≢ w
far_worker w v ws is none e = far_from ws v w (its_worker w ws is) none e

-- what the pass has, where entries of its worker are added, and others are lent as before
pub held_more : (a b : Bool) (w gave : ℕ) (p q : Part) (now new : Run) (cs : List Choice) → AreOf (w ∷ []) cs → choices new.log ≡ choices now.log ++ cs → SameProgram now new → among w new.lent ≡ b
    → ((v : ℕ) → v ≢ w → among v new.lent ≡ among v now.lent) → KeepsBound q.first new → Held a w gave p q now → Held b w gave p q new
held_more a b w gave p q now new cs all added same lent others bound h =
    record {
      worker = h.worker;
      has = h.has;
      first = h.first;
      enough = h.enough;
      gives = h.gives;
      extends = record {
        program = program_then q.first now new h.extends.program same;
        own = own_more q.workers q.last now new cs (subst (λ ws. AreOf ws cs) (sym h.worker) all) added h.extends.own;
        bound = bound;
        lent = lends_on q.workers q.last now new (λ v none. others v (far_worker w v q.workers h.worker none)) h.extends.lent;
      };
      range = subst (λ k. w < k) (sym same.1) h.range;
      lent = lent;
      grows = (h.grows.0 ++ cs, added ∙ ap (λ l. l ++ cs) h.grows.1 ∙ append_assoc (choices p.last.log) h.grows.0 cs);
    }

-- Taking the kernel, and giving it back

pub begins_held : (w : ℕ) (v : View) (r : Run) (after : View) → IsReady w v → Takes v r after → IsWorking w 0 0 after after r
begins_held w Opens r after ready took = absurd ready
begins_held w Joined r after ready took = absurd ready
begins_held w (Of p) r after ready took = subst (λ v. IsWorking w 0 0 v v r) (sym took.0) (held, steps)
  where
    held : Held false w 0 (taken p r) (taken p r) r
    held =
        let f = took.1 in
        record {
          worker = ready.worker;
          has = refl;
          first = refl;
          enough = ready.gives;
          gives = omega arith;
          extends = record { program = f.program; own = own_none p.workers r; bound = f.bound; lent = same_lent p.workers r r refl };
          range = f.range w (its_worker w p.workers ready.worker);
          lent = not_lent w p.workers p.lent r (its_worker w p.workers ready.worker) ready.none_lent f.lent;
          grows = ([], sym (append-nil (choices r.log)));
        }

    steps : Stepping w 0 (λ n. n ≡ 0) p.first r r
    steps =
        let f = took.1 in
        let m = machine p.first.image in
        record {
          own = f.bound.0;
          added = f.bound.1;
          program = f.program;
          preempted = λ n none. subst (λ k. IsPreempted m w f.bound.0 k (state_of p.first)) (sym none) (f.bound.2 w);
          few = λ n none. subst (λ k. MayStep w 0 r (turns_since m w f.bound.0 k (state_of p.first))) (sym none)
              (elim (still_fresh w p.first p.last r f.same (subst (λ ws. AddsOthers ws p.last r) ready.worker f.others) ready.fresh f.bound) [
                | inl e ↦ (let least : turns_since m w f.bound.0 0 (state_of p.first) ≤ 0 = omega (arith, e) in inl least)
                | inr e ↦ inr e
              ]);
          more = omega arith;
          gets_on = inr (inr (inl refl));
        }

-- with more gives used
pub gave_more : (w gave later : ℕ) (p q : Part) (r : Run) → gave ≤ later → Held false w gave p q r → Held false w later p q r
gave_more w gave later p q r le k =
    record { worker = k.worker; has = k.has; first = k.first; enough = k.enough; gives = (let a = k.gives in omega (arith, a, le)); extends = k.extends; range = k.range; lent = k.lent; grows = k.grows }

-- what holds of the parts of two views holds of the views
pub by_parts : (P : Part → Part → Type 0) (R : View → View → Type 0) (v current : View) → ((p q : Part) → P p q → R (Of p) (Of q)) → HasPart (λ p. HasPart (P p) current) v → R v current
by_parts P R Opens current by has = absurd has
by_parts P R Joined current by has = absurd has
by_parts P R (Of p) Opens by has = absurd has
by_parts P R (Of p) Joined by has = absurd has
by_parts P R (Of p) (Of q) by has = by p q has

abbrev pub Works : ℕ → ℕ → ℕ → Run → Part → Part → Type 0
Works w i gave r p q = Held false w gave p q r × Stepping w i (λ n. n ≡ 0) q.first p.last r

pub held_yet : (w i gave : ℕ) (v current : View) (r : Run) → gave ≤ 256 → IsWorking w i gave v current r → IsHeld w 256 v current r
held_yet w i gave v current r le = by_parts (Works w i gave r) (λ x y. IsHeld w 256 x y r) v current (λ p q works. gave_more w gave 256 p q r le works.0)

pub works_yet : (w i gave later : ℕ) (v current : View) (r : Run) → gave ≤ later → IsWorking w i gave v current r → IsWorking w i later v current r
works_yet w i gave later v current r le = by_parts (Works w i gave r) (λ x y. IsWorking w i later x y r) v current (λ p q works. (gave_more w gave later p q r le works.0, works.1))

-- its worker may make a step
pub may_step : (w i gave : ℕ) (v current : View) (r : Run) → IsWorking w i gave v current r → (w < r.workers) × (among w r.lent ≡ false)
may_step w i gave v current r = by_parts (Works w i gave r) (λ x y. (w < r.workers) × (among w r.lent ≡ false)) v current (λ p q works. (works.0.range, works.0.lent))

-- the tick behind all steps
module _ (w i gave : ℕ) (v current : View) (now new : Run) (ticked : Bool) (all : 256 ≤ i) (is : ticked ≡ ticks w now) (after_ : new ≡ after_tick ticked w now) (same : new ≡ record now { log = new.log }) where
  pub held_ticked : gave ≤ 256 → IsWorking w i gave v current now → IsHeld w 256 v current new
  held_ticked le = by_parts (Works w i gave now) (λ x y. IsHeld w 256 x y new) v current (λ p q works.
      let t = tick_entry w now new ticked after_ in
      let s = ticked_more w i (λ n. n ≡ 0) q.first p.last now new all works.1 same ticked is after_ in
      let h = works.0 in
      gave_more w gave 256 p q new le (held_more false false w gave p q now new t.0 t.2 t.1 (program_same now new same) (ap (λ (r : Run). among w r.lent) same ∙ h.lent) (λ v far. ap (λ (r : Run). among v r.lent) same)
      (bound_more w i q.first p.last now new t.0 t.2 t.1 h.extends.bound s) h))

  pub held_told : (o : Outcome) → state_of new ≡ happens (machine now.image) (Tick w) (state_of now) → o ≡ outcome_of new → IsWorking w i gave v current now → HasAnswered w v new o
  held_told o state out = by_parts (Works w i gave now) (λ x y. HasAnswered w x new o) v current (λ p q works. ticked_answers w i (λ n. n ≡ 0) q.first p.last now new all works.1 same o ticked is after_ state out)

pub may_give : (lends : Bool) (w gave : ℕ) (p q : Part) (r : Run) → gave ≤ 256 → Held lends w gave p q r → MayGive (Of q) r
may_give lends w gave p q r few h = (h.has, (let enough = h.enough in let gives = h.gives in omega (arith, few, enough, gives)), h.extends)

pub gives_last : (w : ℕ) (v current : View) (r : Run) → IsHeld w 256 v current r → MayGive current r
gives_last w v current r = by_parts (λ p q. Held false w 256 p q r) (λ x y. MayGive y r) v current (λ p q h. may_give false w 256 p q r (omega arith) h)

after_round : (w : ℕ) (p q : Part) (r new : Run) → Ready w p → Follows p r → Held false w 256 (taken p r) q new → Rounded w p (given q new)
after_round w p q r new ready f h =
    record {
      worker = h.worker;
      idle = refl;
      none_lent = none_among q.workers new (λ x member. subst (λ v. among v new.lent ≡ false) (is_worker w x (subst (λ ws. 0 < times x ws) h.worker member)) h.lent);
      gives = (let gives = h.gives in omega (arith, gives));
      first = h.first;
      grows = (f.others.0 ++ h.grows.0, h.grows.1 ∙ ap (λ l. l ++ h.grows.0) f.others.1 ∙ append_assoc (choices p.last.log) f.others.0 h.grows.0);
    }

pub has_rounded : (w : ℕ) (v : View) (r : Run) (after current : View) (new : Run) (last : View) → IsReady w v → Takes v r after → IsHeld w 256 after current new → Gives current new last → HasRounded w v last
has_rounded w Opens r after current new last ready took held gave = absurd ready
has_rounded w Joined r after current new last ready took held gave = absurd ready
has_rounded w (Of p) r after Opens new last ready took held gave = absurd gave
has_rounded w (Of p) r after Joined new last ready took held gave = absurd gave
has_rounded w (Of p) r after (Of q) new last ready took held gave =
    subst (HasRounded w (Of p)) (sym gave) (after_round w p q r new ready took.1 (subst (λ v. IsHeld w 256 v (Of q) new) took.0 held))

-- What the round answers

-- entries of others are no turns of w
pub same_turns : (w : ℕ) (last now : Run) → SameProgram last now → AddsOthers (w ∷ []) last now → turns_made w now ≡ turns_made w last
same_turns w last now same others =
    let a = made_grows w last now others.0 same others.1 in
    let b = others_made (machine last.image) w (w ∷ []) others.0 (state_of last) (is_in w) others.2 in
    omega arith

has_answered : (w : ℕ) (v : View) (r : Run) (after current : View) (new : Run) (last : View) (o : Outcome) → IsReady w v → Takes v r after → Gives current new last → HasAnswered w after new o → RoundAnswers w v last o
has_answered w Opens r after current new last o ready took gave a = absurd ready
has_answered w Joined r after current new last o ready took gave a = absurd ready
has_answered w (Of p) r after Opens new last o ready took gave a = absurd gave
has_answered w (Of p) r after Joined new last o ready took gave a = absurd gave
has_answered w (Of p) r after (Of q) new last o ready took gave a =
    let told : Answers w r new o = subst (λ v. HasAnswered w v new o) took.0 a in
    let turns = same_turns w p.last r took.1.same (subst (λ ws. AddsOthers ws p.last r) ready.worker took.1.others) in
    let gets_on : Advances w p.last new = elim told.1 [
      | inl more ↦ inl (omega arith)
      | inr other ↦ inr other
    ] in
    subst (λ v. RoundAnswers w (Of p) v o) (sym gave) (told.0, gets_on, told.2)

pub all_answered : (w : ℕ) (v : View) (r : Run) (after current : View) (new : Run) (last : View) (result : Result Outcome NoMemory) → IsReady w v → Takes v r after → Gives current new last
    → IfOk result (λ o. HasAnswered w after new o) → IfOk result (λ o. RoundAnswers w v last o)
all_answered w v r after current new last (Ok o) ready took gave a = has_answered w v r after current new last o ready took gave a
all_answered w v r after current new last (Err refused) ready took gave a = tt
