-- Lists that are alike have one heir, and stay alike.
use Rattle.std.proofs.Common.{◌≡◌, ℕ, List, [], ◌∷◌, ◌++◌, Bool, true, false, refl, sym, ◌∙◌, ap, not}
use Rattle.std.specs.Prelude.{if◌then◌else◌, filter}
use Rattle.std.proofs.lemmas.List.Elements.{filter-append}
use Rattle.aos_base.specs.declared.kernel.Verdict.{Verdict}
use Rattle.aos_base.specs.Lock.{Waiting, Heir, Entry, Condition, Nobody, Entrant, Waiter, Trapping, judged, served, first_waiter, first_entrant, entering, or_else, heir, without, after_heir, enters, entrants, waiters, Alike}

pub first_of_waiters : (verdict : ℕ → ℕ → Verdict) (es : List Waiting) → first_waiter verdict es ≡ first_waiter verdict (waiters es)
first_of_waiters verdict [] = refl
first_of_waiters verdict (e ∷ es) =
    elim e.wants as (λ w. served (judged verdict e.activity w) e.activity (first_waiter verdict es) ≡ first_waiter verdict (if not (enters w) then record { activity = e.activity; wants = w } ∷ waiters es else waiters es)) [
      | Entry ↦ first_of_waiters verdict es
      | Condition c ↦ ap (served (verdict e.activity c) e.activity) (first_of_waiters verdict es)
    ]

pub first_of_entrants : (es : List Waiting) → first_entrant es ≡ first_entrant (entrants es)
first_of_entrants [] = refl
first_of_entrants (e ∷ es) =
    elim e.wants as (λ w. entering w e.activity (first_entrant es) ≡ first_entrant (if enters w then record { activity = e.activity; wants = w } ∷ entrants es else entrants es)) [
      | Entry ↦ refl
      | Condition c ↦ first_of_entrants es
    ]

-- two queues tell the heir
pub heir_of_queues : (verdict : ℕ → ℕ → Verdict) (es : List Waiting) → heir verdict es ≡ or_else (first_waiter verdict (waiters es)) (first_entrant (entrants es))
heir_of_queues verdict es = λ i. or_else (first_of_waiters verdict es i) (first_of_entrants es i)

-- the choice on alike lists is the same
pub heir_alike : (verdict : ℕ → ℕ → Verdict) (es fs : List Waiting) → Alike es fs → heir verdict es ≡ heir verdict fs
heir_alike verdict es fs h = heir_of_queues verdict es ∙ (λ i. or_else (first_waiter verdict (h.waiters i)) (first_entrant (h.entrants i))) ∙ sym (heir_of_queues verdict fs)

keeps_or_not : {A : Type 0} (p : A → Bool) (b : Bool) (x : A) (ys : List A) → filter p (if b then x ∷ ys else ys) ≡ (if b then (if p x then x ∷ filter p ys else filter p ys) else filter p ys)
keeps_or_not p true x ys = refl
keeps_or_not p false x ys = refl

swapped : {A : Type 0} (a b : Bool) (x : A) (ys zs : List A) → ys ≡ zs → (if b then (if a then x ∷ ys else ys) else ys) ≡ (if a then (if b then x ∷ zs else zs) else zs)
swapped true true x ys zs h = ap (λ y. x ∷ y) h
swapped true false x ys zs h = h
swapped false true x ys zs h = h
swapped false false x ys zs h = h

pub filter_swap : {A : Type 0} (p q : A → Bool) (xs : List A) → filter p (filter q xs) ≡ filter q (filter p xs)
filter_swap p q [] = refl
filter_swap p q (x ∷ xs) =
    keeps_or_not p (q x) x (filter q xs) ∙ swapped (p x) (q x) x _ _ (filter_swap p q xs) ∙ sym (keeps_or_not q (p x) x (filter p xs))

pub without_alike : (a : ℕ) (es fs : List Waiting) → Alike es fs → Alike (without a es) (without a fs)
without_alike a es fs h = record {
  entrants = filter_swap (λ e. enters e.wants) _ es ∙ ap (without a) h.entrants ∙ sym (filter_swap (λ e. enters e.wants) _ fs);
  waiters = filter_swap (λ e. not (enters e.wants)) _ es ∙ ap (without a) h.waiters ∙ sym (filter_swap (λ e. not (enters e.wants)) _ fs);
}

-- and leaves alike lists
pub after_alike : (h : Heir) (es fs : List Waiting) → Alike es fs → Alike (after_heir h es) (after_heir h fs)
after_alike Nobody es fs h = h
after_alike (Entrant a) es fs h = without_alike a es fs h
after_alike (Waiter a) es fs h = without_alike a es fs h
after_alike (Trapping a n) es fs h = without_alike a es fs h

-- who joins both leaves them alike
pub append_alike : (e : Waiting) (es fs : List Waiting) → Alike es fs → Alike (es ++ e ∷ []) (fs ++ e ∷ [])
append_alike e es fs h = record {
  entrants = filter-append (λ x. enters x.wants) es (e ∷ []) ∙ ap (λ x. x ++ entrants (e ∷ [])) h.entrants ∙ sym (filter-append (λ x. enters x.wants) fs (e ∷ []));
  waiters = filter-append (λ x. not (enters x.wants)) es (e ∷ []) ∙ ap (λ x. x ++ waiters (e ∷ [])) h.waiters ∙ sym (filter-append (λ x. not (enters x.wants)) fs (e ∷ []));
}
