-- Lists for which a lock stands: those that have its entrants and its waiters, each in their order, with conditions of any numbers.
use Rattle.std.proofs.Common.{◌≡◌, ℕ, zero, suc, List, [], ◌∷◌, map, refl, sym, ap, ◌∙◌, Contains, arith}
use Rattle.std.specs.Prelude.{cond, not}
use Rattle.aos_base.specs.declared.kernel.Verdict.{Verdict}
use Rattle.aos_base.specs.Lock.{Waiting, Wants, Entry, Condition, Heir, Nobody, Entrant, Waiter, Trapping, served, judged, first_waiter, entering, first_entrant, or_else, heir, after_heir, enters, entrants, waiters, Alike}
use Rattle.aos_concurrency.proofs.Chosen.{heir_alike}
use Rattle.aos_lock.specs.Heirs.{entrant, waiter, queued, by_waiter, heir_by, passed_to, after_passed}
use Rattle.aos_lock.specs.Waits.{numbers}
use Rattle.aos_lock.proofs.Rows.{entrants-queued, waiters-queued, entrants-without, waiters-without}

-- the same list, whose conditions go by their waiters' numbers
abbrev own_wants : ℕ → Wants → Wants
own_wants a Entry = Entry
own_wants a (Condition number) = Condition a

abbrev own : List Waiting → List Waiting
own es = map (λ e. record { activity = e.activity; wants = own_wants e.activity e.wants }) es

judged-own : (of : ℕ → Verdict) (a : ℕ) (w : Wants) → judged (by_waiter of) a (own_wants a w) ≡ judged (by_waiter of) a w
judged-own of a Entry = refl
judged-own of a (Condition c) = refl

first_waiter-own : (verdict : ℕ → ℕ → Verdict) (of : ℕ → Verdict) (es : List Waiting)
    → ((e : Waiting) → Contains es e → judged verdict e.activity e.wants ≡ judged (by_waiter of) e.activity e.wants)
    → first_waiter (by_waiter of) (own es) ≡ first_waiter verdict es
first_waiter-own verdict of [] h = refl
first_waiter-own verdict of (e ∷ es) h =
    ap (λ v. served v e.activity (first_waiter (by_waiter of) (own es))) (judged-own of e.activity e.wants ∙ sym (h e (zero, omega arith, refl)))
    ∙ ap (served (judged verdict e.activity e.wants) e.activity) (first_waiter-own verdict of es (λ f i. h f (suc i.0, omega (arith, i.1), i.2)))

entering-own : (w : Wants) (a : ℕ) (h k : Heir) → h ≡ k → entering (own_wants a w) a h ≡ entering w a k
entering-own Entry a h k e = refl
entering-own (Condition c) a h k e = e

first_entrant-own : (es : List Waiting) → first_entrant (own es) ≡ first_entrant es
first_entrant-own [] = refl
first_entrant-own (e ∷ es) = entering-own e.wants e.activity _ _ (first_entrant-own es)

heir-own : (verdict : ℕ → ℕ → Verdict) (of : ℕ → Verdict) (es : List Waiting)
    → ((e : Waiting) → Contains es e → judged verdict e.activity e.wants ≡ judged (by_waiter of) e.activity e.wants)
    → heir_by of (own es) ≡ heir verdict es
heir-own verdict of es h =
    ap (λ w. or_else w (first_entrant (own es))) (first_waiter-own verdict of es h) ∙ ap (or_else (first_waiter verdict es)) (first_entrant-own es)

-- the entrants and the waiters of that list
entrants-own : (es : List Waiting) → map entrant (numbers (entrants es)) ≡ entrants (own es)
entrants-own [] = refl
entrants-own (e ∷ es) =
    elim e.wants as (λ w. map entrant (numbers (cond (enters w) (record { activity = e.activity; wants = w } ∷ entrants es) (entrants es)))
    ≡ entrants (record { activity = e.activity; wants = own_wants e.activity w } ∷ own es)) [
      | Entry ↦ ap (λ (fs : List Waiting). entrant e.activity ∷ fs) (entrants-own es)
      | Condition c ↦ entrants-own es
    ]

waiters-own : (es : List Waiting) → map waiter (numbers (waiters es)) ≡ waiters (own es)
waiters-own [] = refl
waiters-own (e ∷ es) =
    elim e.wants as (λ w. map waiter (numbers (cond (not (enters w)) (record { activity = e.activity; wants = w } ∷ waiters es) (waiters es)))
    ≡ waiters (record { activity = e.activity; wants = own_wants e.activity w } ∷ own es)) [
      | Entry ↦ waiters-own es
      | Condition c ↦ ap (λ (fs : List Waiting). waiter e.activity ∷ fs) (waiters-own es)
    ]

-- so the lock has the list's heir
pub heir_shown : (verdict : ℕ → ℕ → Verdict) (of : ℕ → Verdict) (es : List Waiting)
    → ((e : Waiting) → Contains es e → judged verdict e.activity e.wants ≡ judged (by_waiter of) e.activity e.wants)
    → heir_by of (queued (numbers (entrants es)) (numbers (waiters es))) ≡ heir verdict es
heir_shown verdict of es h =
    let ns = numbers (entrants es) in
    let ms = numbers (waiters es) in
    let alike : Alike (queued ns ms) (own es) = record {
      entrants = entrants-queued ns ms ∙ entrants-own es;
      waiters = waiters-queued ns ms ∙ waiters-own es;
    } in
    heir_alike (by_waiter of) (queued ns ms) (own es) alike ∙ heir-own verdict of es h

-- and who is left of the list is left of its entrants and its waiters
pub entrants_left : (h : Heir) (es : List Waiting) → numbers (entrants (after_heir h es)) ≡ after_passed (passed_to h) (numbers (entrants es))
entrants_left Nobody es = refl
entrants_left (Entrant a) es = entrants-without a es
entrants_left (Waiter a) es = entrants-without a es
entrants_left (Trapping a n) es = entrants-without a es

pub waiters_left : (h : Heir) (es : List Waiting) → numbers (waiters (after_heir h es)) ≡ after_passed (passed_to h) (numbers (waiters es))
waiters_left Nobody es = refl
waiters_left (Entrant a) es = waiters-without a es
waiters_left (Waiter a) es = waiters-without a es
waiters_left (Trapping a n) es = waiters-without a es
