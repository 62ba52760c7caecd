-- Steps of one worker, one behind another, and the log with them.
use Rattle.std.proofs.Common.{◌≡◌, ℕ, suc, ◌+◌, ◌-◌, ◌<◌, ◌≤◌, true, false, List, [], ◌∷◌, ◌++◌, inl, inr, refl, sym, ◌∙◌, ap, subst, arith, length, replicate, append-nil, append_assoc}
use Rattle.std.specs.Prelude.{◌==◌, ◌&&◌, nat_le, All}
use Rattle.std.proofs.lemmas.Bool.Decides.{eqb_tells, leb_tells}
use Rattle.std.proofs.lemmas.List.{replicate_more, replicate-append-replicate}
use Rattle.std.proofs.lemmas.List.Elements.{All-cons}
use Rattle.aos_base.specs.declared.kernel.Sched.{Sched}
use Rattle.aos_base.specs.declared.kernel.Sched.TheVariants.{Steps}
use Rattle.aos_base.specs.Machine.{Step, happens, execution}
use Rattle.aos_base.specs.Schedule.{choices}
use Rattle.aos_code.specs.Machine.{machine}
use Rattle.aos_kernel.specs.declared.log.Stepped.{Stepped}
use Rattle.aos_kernel.specs.declared.log.Stepped.TheVariants.{Turned, Dispatched}
use Rattle.aos_kernel.specs.Run.{Run, state_of, comes_to, after_step}
use Rattle.aos_kernel.specs.Steps.{IsNone, AreSteps, AreQuietSteps}
use Rattle.aos_kernel.proofs.Logs.{choices-append, choices-with_step}
use Rattle.aos_kernel.proofs.Quietly.{step_behind}

-- The log

pub choices_more : (log : List Sched) (w n : ℕ) → choices (log ++ Steps w n ∷ []) ≡ choices log ++ replicate n (Step w)
choices_more log w n = choices-append log (Steps w n ∷ []) ∙ ap (λ l. choices log ++ l) (append-nil (replicate n (Step w)))

pub choices_joined : (log : List Sched) (v k n : ℕ) → choices (log ++ Steps v (k + n) ∷ []) ≡ choices (log ++ Steps v k ∷ []) ++ replicate n (Step v)
choices_joined log v k n =
    choices_more log v (k + n) ∙ ap (λ l. choices log ++ l) (sym (replicate-append-replicate k n (Step v))) ∙ sym (append_assoc (choices log) (replicate k (Step v)) (replicate n (Step v)))
    ∙ ap (λ l. l ++ replicate n (Step v)) (sym (choices_more log v k))

-- where there is room, it is the same worker, and few enough steps
pub room_of : (v w k n most : ℕ) → (v == w && nat_le k (most - n)) ≡ true → n ≤ most → (v ≡ w) × (k + n ≤ most)
room_of v w k n most test few =
    elim (eqb_tells v w) [
      | inl e ↦ elim (leb_tells k (most - n)) [
        | inl f ↦ (e.1, (let at : k ≤ most - n = f.1 in omega (arith, at, few)))
        | inr f ↦ absurd (let z : true ≡ false = sym test ∙ (λ i. e.0 i && f.0 i) in cc z)
      ]
      | inr e ↦ absurd (let z : true ≡ false = sym test ∙ ap (λ q. q && nat_le k (most - n)) e.0 in cc z)
    ]

pub entries_front : (P : Sched → Type 0) (log : List Sched) (e : Sched) → All P (log ++ e ∷ []) → All P log
entries_front P [] e h = λ k d lt. absurd (omega (arith, lt))
entries_front P (x ∷ log) e h =
    let first : 0 < length (x ∷ (log ++ e ∷ [])) = omega arith in
    All-cons P x log (h 0 x first) (entries_front P log e (λ k d lt. let more : suc k < length (x ∷ (log ++ e ∷ [])) = omega (arith, lt) in h (suc k) d more))

pub entries_last : (P : Sched → Type 0) (log : List Sched) (e : Sched) → All P (log ++ e ∷ []) → P e
entries_last P [] e h = let first : 0 < length (e ∷ []) = omega arith in h 0 e first
entries_last P (x ∷ log) e h = entries_last P log e (λ k d lt. let more : suc k < length (x ∷ (log ++ e ∷ [])) = omega (arith, lt) in h (suc k) d more)

-- The steps

pub none_made : (w : ℕ) (r : Run) → AreQuietSteps 0 w r r
none_made w r = record { state = refl; log = sym (append-nil (choices r.log)); quiet = λ i most. (let none : i ≡ 0 = omega (arith, most) in ap (λ k. (execution (machine r.image) (replicate k (Step w)) (state_of r)).book.events) none); none = λ _. refl }

module _ (n w : ℕ) (old mid : Run) (p : AreQuietSteps n w old mid) where
  pub quiet_are : AreSteps n w old mid
  quiet_are = record { state = p.state; log = p.log; quiet = λ i less. p.quiet i (omega (arith, less)) }

  -- and one more
  pub one_more_are : (new : Run) → mid ≡ record old { log = mid.log } → state_of new ≡ happens (machine mid.image) (Step w) (state_of mid) → choices new.log ≡ choices mid.log ++ Step w ∷ [] → AreSteps (n + 1) w old new
  one_more_are new same state log =
      let image : mid.image ≡ old.image = ap (λ (r : Run). r.image) same in
      let many : suc n ≡ n + 1 = omega arith in
      record {
        state =
            state ∙ ap (λ i. happens (machine i) (Step w) (state_of mid)) image ∙ ap (happens (machine old.image) (Step w)) p.state
            ∙ sym (step_behind old.image w n (state_of old)) ∙ ap (λ k. execution (machine old.image) (replicate k (Step w)) (state_of old)) many;
        log = log ∙ ap (λ l. l ++ Step w ∷ []) p.log ∙ append_assoc (choices old.log) (replicate n (Step w)) (Step w ∷ []) ∙ ap (λ l. choices old.log ++ l) (replicate_more n (Step w));
        quiet = λ i less. p.quiet i (omega (arith, less));
      }

pub same_but_log : (old mid new : Run) → mid ≡ record old { log = mid.log } → new ≡ record mid { log = new.log } → new ≡ record old { log = new.log }
same_but_log old mid new first next = next ∙ ap (λ (r : Run). let x : Run = record r { log = new.log } in x) first

-- a step that is made is in the log
pub turned_logs : (w : ℕ) (mid new : Run) (s : Stepped) → s ≡ Turned → new ≡ after_step s w mid → choices new.log ≡ choices mid.log ++ Step w ∷ []
turned_logs w mid new s e is = ap (λ (r : Run). choices r.log) (is ∙ ap (λ x. after_step x w mid) e) ∙ choices-with_step w mid.log

pub dispatched_logs : (w : ℕ) (mid new : Run) (s : Stepped) → s ≡ Dispatched → new ≡ after_step s w mid → choices new.log ≡ choices mid.log ++ Step w ∷ []
dispatched_logs w mid new s e is = ap (λ (r : Run). choices r.log) (is ∙ ap (λ x. after_step x w mid) e) ∙ choices-with_step w mid.log

-- and one that changes nothing is none
pub stays_none : (w : ℕ) (old mid new : Run) (s : Stepped) → mid ≡ old → new ≡ mid → comes_to w mid ≡ s → IsNone s → state_of new ≡ happens (machine mid.image) (Step w) (state_of mid) →
    IsNone (comes_to w old) × (happens (machine old.image) (Step w) (state_of old) ≡ state_of old)
stays_none w old mid new s was stays comes none state = (
  subst IsNone (sym comes ∙ ap (comes_to w) was) none,
  subst (λ (x : Run). happens (machine x.image) (Step w) (state_of x) ≡ state_of x) was (sym state ∙ ap state_of stays),
)
