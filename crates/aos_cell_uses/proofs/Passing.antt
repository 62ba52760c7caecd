-- Each worker makes a step by a pass of its own.
use Rattle.std.proofs.Common.{◌≡◌, ℕ, ◌<◌, ◌⊎◌, List, [], ◌∷◌, ◌++◌, refl, sym, ap, ◌∙◌, subst, arith, inl, inr, append_assoc}
use Rattle.std.specs.Prelude.{Result, Ok, Err, IfOk, OnErr}
use Rattle.std.proofs.lemmas.List.{append-nil, append_cancel_left}
use Rattle.aos_base.specs.declared.text.NoMemory.{NoMemory}
use Rattle.aos_base.specs.Machine.{Choice, Step, execution}
use Rattle.aos_base.specs.Schedule.{choices}
use Rattle.aos_code.specs.Machine.{machine}
use Rattle.aos_kernel.specs.declared.log.Stepped.{Stepped}
use Rattle.aos_kernel.specs.declared.log.Stepped.TheVariants.{Turned, Dispatched, Idle, Over}
use Rattle.aos_kernel.specs.Run.{Run, among, state_of, after_step}
use Rattle.aos_kernel.proofs.Logs.{choices-with_step}
use Rattle.aos_cell.specs.declared.rule.Part.{Part}
use Rattle.aos_cell.specs.declared.rule.View.{View}
use Rattle.aos_cell.specs.declared.rule.View.TheVariants.{Opens, Spent, Of}
use Rattle.aos_cell.specs.Total.{times}
use Rattle.aos_cell.specs.Bound.{turns_since, IsPreempted, KeepsBound}
use Rattle.aos_cell.specs.Rule.{AreOf, AreOthers, SameProgram, AddsOthers, workers_of}
use Rattle.aos_cell.specs.Steps.{Follows, taken, Takes, Extends, MayGive, given, Gives}
use Rattle.aos_cell.specs.Passes.{Starts, MayStart, HasEnded}
use Rattle.aos_cell.proofs.Steps.{adds_then}
use Rattle.aos_cell.proofs.Schedules.{preempted-append, preempted_end, others_since}
use Rattle.aos_cell.proofs.Passes.{program_same, program_then, same_lent, not_lent, none_among, its_worker}
use Rattle.aos_cell_uses.proofs.Schedules.{step_by}

-- A step adds itself to the log, or nothing

pub record Adds (w : ℕ) (old new : Run) : Type 0 where
  pub own : List Choice
  pub added : choices new.log ≡ choices old.log ++ own
  pub one : (own ≡ []) ⊎ (own ≡ Step w ∷ [])
  pub program : SameProgram old new
  pub lent : new.lent ≡ old.lent

module _ (w : ℕ) (old new : Run) (same : new ≡ record old { log = new.log }) where
  adds_nothing : new ≡ old → Adds w old new
  adds_nothing is = record { own = []; added = ap (λ (r : Run). choices r.log) is ∙ sym (append-nil (choices old.log)); one = inl refl; program = program_same old new same; lent = ap (λ (r : Run). r.lent) same }

  adds_itself : choices new.log ≡ choices old.log ++ Step w ∷ [] → Adds w old new
  adds_itself added = record { own = Step w ∷ []; added = added; one = inr refl; program = program_same old new same; lent = ap (λ (r : Run). r.lent) same }

  adds_by : (stepped : Stepped) → new ≡ after_step stepped w old → Adds w old new
  adds_by Turned is = adds_itself (ap (λ (r : Run). choices r.log) is ∙ choices-with_step w old.log)
  adds_by Dispatched is = adds_itself (ap (λ (r : Run). choices r.log) is ∙ choices-with_step w old.log)
  adds_by Idle is = adds_nothing is
  adds_by Over is = adds_nothing is

  pub adds : (result : Result Stepped NoMemory) → IfOk result (λ stepped. new ≡ after_step stepped w old) → OnErr result (new ≡ old) → Adds w old new
  adds (Ok stepped) is none = adds_by stepped is
  adds (Err refused) is none = adds_nothing none

-- A worker that has made none keeps the bound by it

step_keeps : (w : ℕ) (first old new : Run) (bound : KeepsBound first old) → turns_since (machine first.image) w bound.0 0 (state_of first) ≡ 0 → Adds w old new → KeepsBound first new
step_keeps w first old new bound none step = (
  bound.0 ++ step.own,
  step.added ∙ ap (λ l. l ++ step.own) bound.1 ∙ append_assoc (choices first.log) bound.0 step.own,
  λ v. preempted-append (machine first.image) v bound.0 step.own 0 (state_of first) (bound.2 v) (after v step.own step.one),
)
  where
    after : (v : ℕ) (own : List Choice) → (own ≡ []) ⊎ (own ≡ Step w ∷ [])
        → IsPreempted (machine first.image) v own (turns_since (machine first.image) v bound.0 0 (state_of first)) (execution (machine first.image) bound.0 (state_of first))
    after v own one =
        let m = machine first.image in
        let n = turns_since m v bound.0 0 (state_of first) in
        let st = execution m bound.0 (state_of first) in
        let le = preempted_end m v bound.0 0 (state_of first) (bound.2 v) in
        elim one [
          | inl e ↦ subst (λ cs. IsPreempted m v cs n st) (sym e) le
          | inr e ↦ subst (λ cs. IsPreempted m v cs n st) (sym e) (le, step_by m v w n st le (λ same. ap (λ x. turns_since m x bound.0 0 (state_of first)) (sym same) ∙ none))
        ]

-- it has made none since the cell was made
makes_none : (w : ℕ) (p : Part) (r : Run) → 0 < times w p.workers → AddsOthers p.workers p.first p.last → (f : Follows p r) → turns_since (machine p.first.image) w f.bound.0 0 (state_of p.first) ≡ 0
makes_none w p r member untouched f =
    let all = adds_then p.workers p.first p.last r untouched f.others in
    let same : all.0 ≡ f.bound.0 = append_cancel_left (choices p.first.log) all.0 f.bound.0 (sym all.1 ∙ f.bound.1) in
    others_since (machine p.first.image) w p.workers f.bound.0 0 (state_of p.first) member (subst (AreOthers p.workers) same all.2)

own_alone : (w : ℕ) (ws : List ℕ) (own : List Choice) → 0 < times w ws → (own ≡ []) ⊎ (own ≡ Step w ∷ []) → AreOf ws own
own_alone w ws own member (inl e) = subst (AreOf ws) (sym e) tt
own_alone w ws own member (inr e) = subst (AreOf ws) (sym e) (member, tt)

extends : (w : ℕ) (p : Part) (r new : Run) → 0 < times w p.workers → Starts 1 1 p → Follows p r → Adds w r new → Extends (taken p r) new
extends w p r new member start f step =
    record {
      program = program_then p.first r new f.program step.program;
      own = (step.own, step.added, own_alone w p.workers step.own member step.one);
      bound = step_keeps w p.first r new f.bound (makes_none w p r member start.untouched f) step;
      lent = same_lent p.workers r new step.lent;
    }

-- A step by a pass, which takes and gives

pub may_give : (w : ℕ) (v : View) (r : Run) (after : View) (new : Run) → MayStart 1 1 v → workers_of v ≡ w ∷ [] → Takes v r after → Adds w r new → MayGive after new
may_give w Opens r after new start is took step = absurd took
may_give w Spent r after new start is took step = absurd took
may_give w (Of p) r after new start is took step =
    subst (λ x. MayGive x new) (sym took.0) (refl, (let g = start.gives in omega arith), extends w p r new (its_worker w p.workers is) start took.1 step)

pub step_ends : (w : ℕ) (v : View) (r : Run) (after : View) (new : Run) (last : View) → MayStart 1 1 v → Takes v r after → Adds w r new → Gives after new last → HasEnded v last
step_ends w Opens r after new last start took step gave = absurd took
step_ends w Spent r after new last start took step gave = absurd took
step_ends w (Of p) r after new last start took step gave =
    let is : last ≡ Of (given (taken p r) new) = subst (λ x. Gives x new last) took.0 gave in
    subst (HasEnded (Of p)) (sym is) (record { workers = λ w. refl; idle = refl; none_lent = none_among p.workers new (λ x member. ap (among x) step.lent ∙ not_lent x p.workers p.lent r member start.none_lent took.1.lent); first = refl })
