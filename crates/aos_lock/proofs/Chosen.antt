-- Who gets a lock: one of those who wait for it, the first waiter that is served or else the first entrant.
use Rattle.std.proofs.Common.{◌≡◌, ℕ, List, [], ◌∷◌, ◌++◌, map, refl, sym, ap, subst, ◌∙◌, Contains}
use Rattle.std.specs.Prelude.{Bool, true, false, cond, Option, Some, None}
use Rattle.std.proofs.lemmas.Option.{none-some, same_Some}
use Rattle.aos_base.specs.declared.kernel.Verdict.{Verdict}
use Rattle.aos_base.specs.declared.kernel.Verdict.TheVariants.{Holds, Fails, Traps}
use Rattle.aos_base.specs.Lock.{Waiting, Wants, Entry, Condition, Heir, Nobody, Entrant, Waiter, Trapping, served, judged, first_waiter, entering, first_entrant, or_else, heir}
use Rattle.aos_queue.proofs.Members.{here, there}
use Rattle.aos_lock.specs.declared.lock.Passed.{Passed}
use Rattle.aos_lock.specs.declared.lock.Passed.TheVariants.{Waiter as ToWaiter}
use Rattle.aos_lock.specs.Heirs.{waiter, queued, by_waiter, heir_by, passed_to, new_owner, serves, first_served, to_first}
use Rattle.aos_lock.specs.Waits.{numbers}
use Rattle.aos_lock.proofs.Rows.{numbers-queued}

abbrev pub IsOf : Heir → List ℕ → Type 0
IsOf Nobody ns = Unit {0}
IsOf (Entrant a) ns = Contains ns a
IsOf (Waiter a) ns = Contains ns a
IsOf (Trapping a n) ns = Contains ns a

of_more : (h : Heir) (n : ℕ) (ns : List ℕ) → IsOf h ns → IsOf h (n ∷ ns)
of_more Nobody n ns i = tt
of_more (Entrant a) n ns i = there n a ns i
of_more (Waiter a) n ns i = there n a ns i
of_more (Trapping a k) n ns i = there n a ns i

of_served : (v : Verdict) (n : ℕ) (others : Heir) (ns : List ℕ) → IsOf others ns → IsOf (served v n others) (n ∷ ns)
of_served Holds n others ns i = here n ns
of_served Fails n others ns i = of_more others n ns i
of_served (Traps k) n others ns i = here n ns

of_entering : (w : Wants) (n : ℕ) (others : Heir) (ns : List ℕ) → IsOf others ns → IsOf (entering w n others) (n ∷ ns)
of_entering Entry n others ns i = here n ns
of_entering (Condition c) n others ns i = of_more others n ns i

of_first_waiter : (verdict : ℕ → ℕ → Verdict) (es : List Waiting) → IsOf (first_waiter verdict es) (numbers es)
of_first_waiter verdict [] = tt
of_first_waiter verdict (e ∷ es) = of_served (judged verdict e.activity e.wants) e.activity _ (numbers es) (of_first_waiter verdict es)

of_first_entrant : (es : List Waiting) → IsOf (first_entrant es) (numbers es)
of_first_entrant [] = tt
of_first_entrant (e ∷ es) = of_entering e.wants e.activity _ (numbers es) (of_first_entrant es)

of_either : (h other : Heir) (ns : List ℕ) → IsOf h ns → IsOf other ns → IsOf (or_else h other) ns
of_either Nobody other ns i j = j
of_either (Entrant a) other ns i j = i
of_either (Waiter a) other ns i j = i
of_either (Trapping a n) other ns i j = i

heir_within : (verdict : ℕ → ℕ → Verdict) (es : List Waiting) → IsOf (heir verdict es) (numbers es)
heir_within verdict es = of_either _ _ (numbers es) (of_first_waiter verdict es) (of_first_entrant es)

of_owner : (h : Heir) (ns : List ℕ) (a : ℕ) → IsOf h ns → new_owner (passed_to h) ≡ Some a → Contains ns a
of_owner Nobody ns a i e = absurd (cc)
of_owner (Entrant b) ns a i e = subst (λ k. Contains ns k) (same_Some b a e) i
of_owner (Waiter b) ns a i e = subst (λ k. Contains ns k) (same_Some b a e) i
of_owner (Trapping b n) ns a i e = subst (λ k. Contains ns k) (same_Some b a e) i

chosen : (verdict : ℕ → ℕ → Verdict) (es : List Waiting) (a : ℕ) → new_owner (passed_to (heir verdict es)) ≡ Some a → Contains (numbers es) a
chosen verdict es a e = of_owner (heir verdict es) (numbers es) a (heir_within verdict es) e

-- by its entrants and its waiters
chosen_of : (of : ℕ → Verdict) (es ws : List ℕ) (a : ℕ) → new_owner (passed_to (heir_by of (queued es ws))) ≡ Some a → Contains (es ++ ws) a
chosen_of of es ws a e = subst (λ ns. Contains ns a) (numbers-queued es ws) (chosen (by_waiter of) (queued es ws) a e)

pub passed_within : (of : ℕ → Verdict) (es ws : List ℕ) (p : Passed) (a : ℕ) → p ≡ passed_to (heir_by of (queued es ws)) → new_owner p ≡ Some a → Contains (es ++ ws) a
passed_within of es ws p a to e = chosen_of of es ws a (ap new_owner (sym to) ∙ e)

-- the first that is served is one of them
served_or_later : (b : Bool) (w a : ℕ) (ws : List ℕ) (later : Option ℕ) → (Some a ≡ later → Contains ws a) → Some a ≡ cond b (Some w) later → Contains (w ∷ ws) a
served_or_later true w a ws later h e = subst (λ k. Contains (w ∷ ws) k) (sym (same_Some a w e)) (here w ws)
served_or_later false w a ws later h e = there w a ws (h e)

pub served_within : (verdict : ℕ → Verdict) (ws : List ℕ) (a : ℕ) → Some a ≡ first_served verdict ws → Contains ws a
served_within verdict [] a e = absurd (none-some a (sym e))
served_within verdict (w ∷ ws) a e = served_or_later (serves (verdict w)) w a ws (first_served verdict ws) (served_within verdict ws a) e

-- The heir is the first waiter that is served, or else the first entrant

abbrev pub passes : Option ℕ → Passed → Passed
passes None other = other
passes (Some a) other = ToWaiter a

served_or : (v : Verdict) (a : ℕ) (rest others : Heir) (later : Option ℕ) → passed_to (or_else rest others) ≡ passes later (passed_to others)
    → passed_to (or_else (served v a rest) others) ≡ passes (cond (serves v) (Some a) later) (passed_to others)
served_or Holds a rest others later h = refl
served_or Fails a rest others later h = h
served_or (Traps n) a rest others later h = refl

passes_served : (of : ℕ → Verdict) (ws : List ℕ) (others : Heir) → passed_to (or_else (first_waiter (by_waiter of) (map waiter ws)) others) ≡ passes (first_served of ws) (passed_to others)
passes_served of [] others = refl
passes_served of (w ∷ ws) others = served_or (of w) w (first_waiter (by_waiter of) (map waiter ws)) others (first_served of ws) (passes_served of ws others)

past_entrants : (of : ℕ → Verdict) (es ws : List ℕ) → first_waiter (by_waiter of) (queued es ws) ≡ first_waiter (by_waiter of) (map waiter ws)
past_entrants of [] ws = refl
past_entrants of (e ∷ es) ws = past_entrants of es ws

no_entrant : (ws : List ℕ) → first_entrant (map waiter ws) ≡ Nobody
no_entrant [] = refl
no_entrant (w ∷ ws) = no_entrant ws

passes_first : (es ws : List ℕ) → passed_to (first_entrant (queued es ws)) ≡ to_first es
passes_first [] ws = ap passed_to (no_entrant ws)
passes_first (e ∷ es) ws = refl

pub heir_of_both : (of : ℕ → Verdict) (es ws : List ℕ) → passed_to (heir_by of (queued es ws)) ≡ passes (first_served of ws) (to_first es)
heir_of_both of es ws =
    ap (λ w. passed_to (or_else w (first_entrant (queued es ws)))) (past_entrants of es ws)
    ∙ passes_served of ws (first_entrant (queued es ws))
    ∙ ap (passes (first_served of ws)) (passes_first es ws)
