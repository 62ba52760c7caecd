-- Steps of a worker in one call.
use Rattle.std.proofs.Common.{◌≡◌, ◌≢◌, ℕ, zero, suc, ◌+◌, ◌<◌, ◌≤◌, false, ◌++◌, replicate, refl, sym, ap, ◌∙◌, subst, arith, inl, inr, append_assoc}
use Rattle.std.specs.Prelude.{Option, Some, None}
use Rattle.aos_base.specs.declared.kernel.Outcome.TheVariants.{Going}
use Rattle.aos_base.specs.Book.{on_worker}
use Rattle.aos_base.specs.Machine.{Step, Machine, State, happens, execution}
use Rattle.aos_base.specs.Schedule.{choices}
use Rattle.aos_code.specs.Machine.{machine}
use Rattle.aos_kernel.specs.declared.log.Stepped.{Stepped}
use Rattle.aos_kernel.specs.declared.log.Stepped.TheVariants.{Turned, Dispatched, Idle, Over}
use Rattle.aos_kernel.specs.Run.{Run, among, state_of, comes_to, after_step}
use Rattle.aos_kernel.specs.Steps.{IsNone, AreSteps, WhereNone}
use Rattle.aos_kernel.proofs.Histories.{comes_over}
use Rattle.aos_cell.specs.declared.rule.View.{View}
use Rattle.aos_cell.specs.Bound.{turns_by, turns_since, IsPreempted}
use Rattle.aos_cell.proofs.Schedules.{preempted-append, preempted_end}
use Rattle.aos_cell.proofs.Passes.{program_same, program_then}
use Rattle.aos_workers.specs.Round.{outcome_of, turns_made, turns_in, Answers}
use Rattle.aos_workers.specs.Holding.{Stepping, IsHeld, IsWorking, GoesOrStays, HasAnswered}
use Rattle.aos_workers.proofs.Turns.{since-append, turn_counts, dispatch_counts, turn_made}
use Rattle.aos_workers.proofs.Rounds.{state_grows, made_grows, goes_turned, goes_dispatched, entry_of, ends_idle, ends_over}
use Rattle.aos_workers.proofs.Held.{bound_more, held_more, gave_more, by_parts, Works, held_yet}
use Rattle.aos_workers.proofs.Loaned.{own_steps}

-- What they count

module _ {S F : Type 0} (m : Machine S F) (w : ℕ) where
  -- one step more counts one turn at most
  step_counts : (k : ℕ) (st : State S F) → turns_by m w (Step w) k st ≤ suc k
  step_counts k st =
      (elim (on_worker w st.book.line) as (λ (o : Option ℕ). on_worker w st.book.line ≡ o → turns_by m w (Step w) k st ≤ suc k) [
        | None ↦ λ none. (let a = dispatch_counts m w k st none in omega (arith, a))
        | Some a ↦ λ has. (let b = turn_counts m w a k st has in omega (arith, b))
      ]) refl

  -- so many steps count as many turns at most, and keep the bound where there is room for them
  all_count : (n k : ℕ) (st : State S F) → k + n ≤ 256 → (turns_since m w (replicate n (Step w)) k st ≤ k + n) × IsPreempted m w (replicate n (Step w)) k st
  all_count zero k st le = ((omega arith), (omega (arith, le)))
  all_count (suc n) k st le =
      let one = step_counts k st in
      let ih = all_count n (turns_by m w (Step w) k st) (happens m (Step w) st) (omega (arith, le, one)) in
      let a = ih.0 in
      ((omega (arith, a, one)), ((omega (arith, le)), ih.1))

  -- also behind any number, where the first is no turn
  none_count : (n k : ℕ) (st : State S F) → 0 < n → n ≤ 256 → k ≤ 256 → on_worker w st.book.line ≡ None → (turns_since m w (replicate n (Step w)) k st ≤ n) × IsPreempted m w (replicate n (Step w)) k st
  none_count zero k st some_ le few none = absurd (omega (arith, some_))
  none_count (suc n) k st some_ le few none =
      let zero_ = dispatch_counts m w k st none in
      let ih = all_count n (turns_by m w (Step w) k st) (happens m (Step w) st) (omega (arith, le, zero_)) in
      let a = ih.0 in
      ((omega (arith, a, zero_)), (few, ih.1))

  some_made : (n a : ℕ) (st : State S F) → 0 < n → on_worker w st.book.line ≡ Some a → 0 < turns_in m w (replicate n (Step w)) st
  some_made zero a st some_ has = absurd (omega (arith, some_))
  some_made (suc n) a st some_ has = let one = turn_made m w a st has in omega (arith, one)

-- A round that they bring forward

module _ (w i n : ℕ) (first last now new : Run) (some_ : 0 < n) (begun : 0 < i) (le : i + n ≤ 256) (going : outcome_of now ≡ Going) (added : choices new.log ≡ choices now.log ++ replicate n (Step w)) (same : new ≡ record now { log = new.log }) (s : Stepping w i (λ k. k ≡ 0) first last now) where
  many_steps : Stepping w (i + n) (λ k. k ≡ 0) first last new
  many_steps =
      let cs = replicate n (Step w) in
      let m = machine first.image in
      let since = λ (k : ℕ). turns_since m w s.own k (state_of first) in
      let behind : state_of now ≡ execution m s.own (state_of first) = state_grows first now s.own s.program s.added in
      let made : turns_made w new ≡ turns_made w now + turns_in (machine now.image) w cs (state_of now) = made_grows w now new cs (program_same now new same) added in
      let counts : (k : ℕ) → k ≡ 0 → (turns_since m w cs (since k) (execution m s.own (state_of first)) ≤ i + n) × IsPreempted m w cs (since k) (execution m s.own (state_of first)) =
      λ k had. subst (λ st. (turns_since m w cs (since k) st ≤ i + n) × IsPreempted m w cs (since k) st) behind
      (elim (s.few k had) [
        | inl few ↦ (let a = all_count m w n (since k) (state_of now) (omega (arith, few, le)) in let b = a.0 in ((omega (arith, b, few)), a.1))
        | inr f ↦ elim f [
          | inl none ↦ (let a = none_count m w n (since k) (state_of now) some_ (omega (arith, le)) (preempted_end m w s.own k (state_of first) (s.preempted k had)) none in let b = a.0 in ((omega (arith, b)), a.1))
          | inr over ↦ absurd (over going)
        ]
      ]) in
      record {
        own = s.own ++ cs;
        added = added ∙ ap (λ l. l ++ cs) s.added ∙ append_assoc (choices first.log) s.own cs;
        program = program_then first now new s.program (program_same now new same);
        preempted = λ k had. preempted-append m w s.own cs k (state_of first) (s.preempted k had) (counts k had).1;
        few = λ k had.
            let b = since-append m w s.own cs k (state_of first) in
            let d = (counts k had).0 in
            let still : turns_since m w (s.own ++ cs) k (state_of first) ≤ i + n = omega (arith, b, d) in
            inl still;
        more = (let a = s.more in omega (arith, a, made));
        gets_on = elim s.gets_on [
          | inl a ↦ inl (omega (arith, a, made))
          | inr a ↦ elim a [
            | inl over ↦ absurd (over going)
            | inr b ↦ elim b [
              | inl none ↦ absurd (omega (arith, none, begun))
              | inr one ↦ (let t = some_made (machine now.image) w n one.1.0 (state_of now) some_ one.1.1 in let a = s.more in inl (omega (arith, a, made, t)))
            ]
          ]
        ];
      }

-- By what the calls tell

-- the first step of a round, or one that does nothing
module _ (w : ℕ) (now new : Run) (stepped : Stepped) (is : stepped ≡ comes_to w now) (after_ : new ≡ after_step stepped w now) (same : new ≡ record now { log = new.log }) where
  pub begins_turned : stepped ≡ Turned → GoesOrStays w 0 1 now new
  begins_turned was =
      record {
        goes = λ _. record { log = entry_of w 0 now now new stepped is after_ same (inl was); same = same; steps = λ first last s. goes_turned w 0 last now new stepped is after_ same (λ k. k ≡ 0) first was (omega arith) s };
        stays = λ none. absurd (omega (arith, none));
      }

  pub begins_dispatched : state_of new ≡ happens (machine now.image) (Step w) (state_of now) → stepped ≡ Dispatched → GoesOrStays w 0 1 now new
  begins_dispatched state was =
      record {
        goes = λ _. record { log = entry_of w 0 now now new stepped is after_ same (inr was); same = same; steps = λ first last s. goes_dispatched w 0 last now new stepped is after_ same (λ k. k ≡ 0) first state was s };
        stays = λ none. absurd (omega (arith, none));
      }

pub goes_many : (w i n most : ℕ) (now new : Run) → 0 < i → 1 ≤ most → n ≤ most → i + most ≤ 256 → outcome_of now ≡ Going → AreSteps n w now new → WhereNone n most w now new → new ≡ record now { log = new.log } → GoesOrStays w i n now new
goes_many w i n most now new begun some_ few le going made none same =
    record {
      goes = λ any. record { log = made.log; same = same; steps = λ first last s. many_steps w i n first last now new any begun (omega (arith, few, le)) going made.log same s };
      stays = λ zero_. (let a = none zero_ in (a.0, (a.1 some_).0));
    }

pub stays_over : (w i : ℕ) (now : Run) → outcome_of now ≢ Going → GoesOrStays w i 0 now now
stays_over w i now over =
    record {
      goes = λ some_. absurd (omega (arith, some_));
      stays = λ _. (refl, subst IsNone (sym (comes_over w now over)) tt);
    }

-- In a round

pub positive : (n : ℕ) → n ≢ 0 → 0 < n
positive zero far = absurd (far refl)
positive (suc n) far = omega arith

pub held_many : (w i n gave : ℕ) (v current : View) (now new : Run) → 0 < n → gave ≤ i + n → GoesOrStays w i n now new → IsWorking w i gave v current now → IsWorking w (i + n) (i + n) v current new
held_many w i n gave v current now new some_ le goes = by_parts (Works w i gave now) (λ x y. IsWorking w (i + n) (i + n) x y new) v current (λ p q works.
    let g = goes.goes some_ in
    let s = g.steps q.first p.last works.1 in
    let cs = replicate n (Step w) in
    let h = works.0 in (
      gave_more w gave (i + n) p q new le (held_more false false w gave p q now new cs (own_steps w n) g.log (program_same now new g.same) (ap (λ (r : Run). among w r.lent) g.same ∙ h.lent) (λ v far. ap (λ (r : Run). among v r.lent) g.same)
          (bound_more w (i + n) q.first p.last now new cs (own_steps w n) g.log h.extends.bound s) h),
      s,
    ))

-- where none is made
pub held_still : (w i n gave : ℕ) (v current : View) (now new : Run) → n ≡ 0 → gave ≤ 256 → GoesOrStays w i n now new → IsWorking w i gave v current now → IsHeld w 256 v current new
held_still w i n gave v current now new none le goes works = held_yet w i gave v current new le (subst (IsWorking w i gave v current) (sym (goes.stays none).0) works)

-- a step that does nothing ends the round
ends_with : (w i : ℕ) (last now : Run) (stepped : Stepped) → stepped ≡ comes_to w now → IsNone stepped → Answers w last now (outcome_of now)
ends_with w i last now Turned is none = absurd none
ends_with w i last now Dispatched is none = absurd none
ends_with w i last now Idle is none = ends_idle w i last now now Idle is refl refl (outcome_of now) refl refl
ends_with w i last now Over is none = ends_over w i last now now Over is refl refl (outcome_of now) refl refl

pub told_still : (w i n gave : ℕ) (v current : View) (now new : Run) → n ≡ 0 → GoesOrStays w i n now new → IsWorking w i gave v current now → HasAnswered w v new (outcome_of new)
told_still w i n gave v current now new none goes = by_parts (Works w i gave now) (λ x y. HasAnswered w x new (outcome_of new)) v current (λ p q works.
    let a = goes.stays none in subst (λ r. Answers w p.last r (outcome_of r)) (sym a.0) (ends_with w i p.last now (comes_to w now) refl a.1))
