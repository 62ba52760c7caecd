-- Where activities stand after one has moved, who is found there, and who the heir of a lock is.
use Rattle.std.proofs.Common.{◌≡◌, ℕ, ◌<◌, ◌≤◌, List, [], ◌∷◌, ◌++◌, Bool, true, false, refl, sym, ◌∙◌, ap, subst, arith, inl, inr, ◌⊎◌, not, ◌≢◌, length}
use Rattle.std.specs.Prelude.{if◌then◌else◌, nat_eq, Option, Some, None}
use Rattle.aos_base.specs.declared.kernel.LockName.{LockName}
use Rattle.aos_base.specs.declared.kernel.Verdict.{Verdict}
use Rattle.aos_base.specs.declared.kernel.Verdict.TheVariants.{Holds, Fails, Traps}
use Rattle.aos_base.specs.Lock.{Wants, Heir, Entry, Condition, Nobody, Entrant, Waiter, Trapping, judged, served, first_waiter, first_entrant, entering, or_else, heir}
use Rattle.aos_base.specs.Book.{RunState, Stand, On, Ready, At, put, place_of, leave_line, move, first_at, is_on, on_worker, is_ready, first_ready, or_next, waiting, wanted, listed}
use Rattle.aos_concurrency.specs.Orderly.{Distinct}
use Rattle.aos_concurrency.proofs.Tables.{number, lock, by_case, is_itself, put_same, put_other}

pub place_of-leave : (a : ℕ) (line : List Stand) (x : ℕ) → place_of (leave_line a line) x ≡ put nat_eq (place_of line) a None x
place_of-leave a [] x = by_case number (λ q. ◌≡◌ {A = Option RunState} None (if q then None else None)) x a (λ _. refl) (λ _. refl)
place_of-leave a (s ∷ line) x =
    by_case number (λ q. place_of (if not q then s ∷ leave_line a line else leave_line a line) x ≡ put nat_eq (place_of (s ∷ line)) a None x) s.activity a
    (λ e. place_of-leave a line x ∙ by_case number (λ q. (if q then None else place_of line x) ≡ (if q then None else place_of (s ∷ line) x)) x a (λ _. refl)
    (λ ne. sym (put_other number (place_of line) s.activity (Some s.place) x (λ h. ne (h ∙ e)))))
    (λ ne. by_case number (λ q. (if q then Some s.place else place_of (leave_line a line) x) ≡ (if nat_eq x a then None else if q then Some s.place else place_of line x)) x s.activity
    (λ e. sym (put_other number (λ (y : ℕ). Some s.place) a None x (λ h. ne (sym e ∙ h))))
    (λ _. place_of-leave a line x))

place_of-append : (line : List Stand) (s : Stand) (x : ℕ) → place_of line x ≡ None → place_of (line ++ s ∷ []) x ≡ (if nat_eq x s.activity then Some s.place else None)
place_of-append [] s x none = refl
place_of-append (t ∷ line) s x none =
    (elim (nat_eq x t.activity) as (λ q. (if q then Some t.place else place_of line x) ≡ None → (if q then Some t.place else place_of (line ++ s ∷ []) x) ≡ (if nat_eq x s.activity then Some s.place else None)) [
      | true ↦ λ h. absurd (cc h)
      | false ↦ λ h. place_of-append line s x h
    ]) none

place_of-append_other : (line : List Stand) (s : Stand) (x : ℕ) → x ≢ s.activity → place_of (line ++ s ∷ []) x ≡ place_of line x
place_of-append_other [] s x ne = by_case number (λ q. (if q then Some s.place else None) ≡ None) x s.activity (λ e. absurd (ne e)) (λ _. refl)
place_of-append_other (t ∷ line) s x ne =
    elim (nat_eq x t.activity) as (λ q. (if q then Some t.place else place_of (line ++ s ∷ []) x) ≡ (if q then Some t.place else place_of line x)) [
      | true ↦ refl
      | false ↦ place_of-append_other line s x ne
    ]

-- after a move the activity stands there, and each other where it stood
pub place_of-move : (a : ℕ) (p : RunState) (line : List Stand) (x : ℕ) → place_of (move a p line) x ≡ put nat_eq (place_of line) a (Some p) x
place_of-move a p line x =
    by_case number (λ q. place_of (move a p line) x ≡ (if q then Some p else place_of line x)) x a
    (λ e. place_of-append (leave_line a line) (record { activity = a; place = p }) x (place_of-leave a line x ∙ ap (put nat_eq (place_of line) a None) e ∙ put_same number (place_of line) a None)
    ∙ by_case number (λ q. (if q then Some p else None) ≡ Some p) x a (λ _. refl) (λ ne. absurd (ne e)))
    (λ ne. place_of-append_other (leave_line a line) (record { activity = a; place = p }) x ne ∙ place_of-leave a line x ∙ put_other number (place_of line) a None x ne)

-- Nobody stands twice

pub distinct-leave : (a : ℕ) (line : List Stand) → Distinct line → Distinct (leave_line a line)
distinct-leave a [] d = tt
distinct-leave a (s ∷ line) d =
    by_case number (λ q. Distinct (if not q then s ∷ leave_line a line else leave_line a line)) s.activity a
    (λ _. distinct-leave a line d.1)
    (λ ne. (place_of-leave a line s.activity ∙ put_other number (place_of line) a None s.activity ne ∙ d.0, distinct-leave a line d.1))

distinct-append : (line : List Stand) (s : Stand) → place_of line s.activity ≡ None → Distinct line → Distinct (line ++ s ∷ [])
distinct-append [] s none d = (refl, tt)
distinct-append (t ∷ line) s none d =
    by_case number (λ q. (if q then Some t.place else place_of line s.activity) ≡ None → Distinct (t ∷ (line ++ s ∷ []))) s.activity t.activity
    (λ _ h. absurd (cc h))
    (λ ne h. (place_of-append_other line s t.activity (λ q. ne (sym q)) ∙ d.0, distinct-append line s h d.1))
    none

pub distinct-move : (a : ℕ) (p : RunState) (line : List Stand) → Distinct line → Distinct (move a p line)
distinct-move a p line d =
    distinct-append (leave_line a line) (record { activity = a; place = p }) (place_of-leave a line a ∙ put_same number (place_of line) a None) (distinct-leave a line d)

leave-shorter : (a : ℕ) (line : List Stand) → length (leave_line a line) ≤ length line
leave-shorter a [] = omega arith
leave-shorter a (s ∷ line) =
    let ih = leave-shorter a line in
    by_case number (λ q. length (if not q then s ∷ leave_line a line else leave_line a line) ≤ length (s ∷ line)) s.activity a (λ _. omega arith) (λ _. omega arith)

-- where one has left, there is room for one
pub leave-room : (a : ℕ) (line : List Stand) → place_of line a ≢ None → length (leave_line a line) < length line
leave-room a [] there = absurd (there refl)
leave-room a (s ∷ line) there =
    let le = leave-shorter a line in
    by_case number (λ q. length (if not q then s ∷ leave_line a line else leave_line a line) < length (s ∷ line)) s.activity a (λ _. omega arith)
    (λ ne. let ih = leave-room a line (λ n. there (by_case number (λ q. (if q then Some s.place else place_of line a) ≡ None) a s.activity (λ e. absurd (ne (sym e))) (λ _. n))) in omega arith)

-- Whoever is found stands where it was looked for

pub place-cons : (s : Stand) (line : List Stand) (a : ℕ) (p : RunState) → place_of line s.activity ≡ None → place_of line a ≡ Some p → place_of (s ∷ line) a ≡ Some p
place-cons s line a p new is =
    by_case number (λ q. (if q then Some s.place else place_of line a) ≡ Some p) a s.activity
    (λ e. absurd (let h = sym new ∙ ap (place_of line) (sym e) ∙ is in cc h)) (λ _. is)

pub place-head : (s : Stand) (line : List Stand) → place_of (s ∷ line) s.activity ≡ Some s.place
place-head s line = put_same number (place_of line) s.activity (Some s.place)

pub found : (at : RunState → Bool) (line : List Stand) (a : ℕ) → Distinct line → first_at at line ≡ Some a → (p : RunState) × (place_of line a ≡ Some p) × (at p ≡ true)
found at [] a d is = absurd (cc is)
found at (s ∷ line) a d is =
    (elim (at s.place) as (λ q. at s.place ≡ q → (if q then Some s.activity else first_at at line) ≡ Some a → (p : RunState) × (place_of (s ∷ line) a ≡ Some p) × (at p ≡ true)) [
      | true ↦ λ t h. (s.place, subst (λ x. place_of (s ∷ line) x ≡ Some s.place) (let e : s.activity ≡ a = cc h in e) (place-head s line), t)
      | false ↦ λ t h. let r = found at line a d.1 h in (r.0, place-cons s line a r.0 d.0 r.1, r.2)
    ]) refl is

pub found_ready : (line : List Stand) (a : ℕ) → Distinct line → first_ready line ≡ Some a → (p : ℕ) × (place_of line a ≡ Some (Ready p))
found_ready line a d is =
    (elim (first_at (is_ready 3) line) as (λ o. first_at (is_ready 3) line ≡ o → or_next o (or_next (first_at (is_ready 2) line) (first_at (is_ready 1) line)) ≡ Some a → (p : ℕ) × (place_of line a ≡ Some (Ready p))) [
      | Some x ↦ λ e h. one 3 (e ∙ h)
      | None ↦ λ _ h. (elim (first_at (is_ready 2) line) as (λ o. first_at (is_ready 2) line ≡ o → or_next o (first_at (is_ready 1) line) ≡ Some a → (p : ℕ) × (place_of line a ≡ Some (Ready p))) [
        | Some x ↦ λ e h'. one 2 (e ∙ h')
        | None ↦ λ _ h'. one 1 h'
      ]) refl h
    ]) refl is
  where
    ready_is : (q : ℕ) (p : RunState) → is_ready q p ≡ true → place_of line a ≡ Some p → (r : ℕ) × (place_of line a ≡ Some (Ready r))
    ready_is q (On w) t h = absurd (cc t)
    ready_is q (Ready r) t h = (r, h)
    ready_is q (At l w) t h = absurd (cc t)

    one : (q : ℕ) → first_at (is_ready q) line ≡ Some a → (p : ℕ) × (place_of line a ≡ Some (Ready p))
    one q h = let r = found (is_ready q) line a d h in ready_is q r.0 r.2 r.1

pub found_on : (line : List Stand) (w a : ℕ) → Distinct line → on_worker w line ≡ Some a → (v : ℕ) × (place_of line a ≡ Some (On v))
found_on line w a d h = let r = found (is_on w) line a d h in on_is r.0 r.2 r.1
  where
    on_is : (p : RunState) → is_on w p ≡ true → place_of line a ≡ Some p → (v : ℕ) × (place_of line a ≡ Some (On v))
    on_is (On v) t h' = (v, h')
    on_is (Ready r) t h' = absurd (cc t)
    on_is (At l w') t h' = absurd (cc t)

-- The heir of a lock stands in its list

abbrev pub StandsAs : (ℕ → ℕ → Verdict) → LockName → List Stand → Heir → Type 0
StandsAs verdict l line Nobody = Unit {0}
StandsAs verdict l line (Entrant a) = place_of line a ≡ Some (At l Entry)
StandsAs verdict l line (Waiter a) = (c : ℕ) × (place_of line a ≡ Some (At l (Condition c))) × (verdict a c ≡ Holds)
StandsAs verdict l line (Trapping a n) = (c : ℕ) × (place_of line a ≡ Some (At l (Condition c))) × (verdict a c ≡ Traps n)

stands-cons : (verdict : ℕ → ℕ → Verdict) (l : LockName) (s : Stand) (line : List Stand) (h : Heir) → place_of line s.activity ≡ None → StandsAs verdict l line h → StandsAs verdict l (s ∷ line) h
stands-cons verdict l s line Nobody new is = tt
stands-cons verdict l s line (Entrant a) new is = place-cons s line a (At l Entry) new is
stands-cons verdict l s line (Waiter a) new is = (is.0, place-cons s line a (At l (Condition is.0)) new is.1, is.2)
stands-cons verdict l s line (Trapping a n) new is = (is.0, place-cons s line a (At l (Condition is.0)) new is.1, is.2)

pub wanted_tells : (l : LockName) (p : RunState) → (wanted l p ≡ None) ⊎ ((w : Wants) × (p ≡ At l w) × (wanted l p ≡ Some w))
wanted_tells l (On w) = inl refl
wanted_tells l (Ready p) = inl refl
wanted_tells l (At k w) =
    by_case lock (λ q. ((if q then Some w else None) ≡ None) ⊎ ((v : Wants) × (At k w ≡ At l v) × ((if q then Some w else None) ≡ Some v))) k l
    (λ e. inr (w, ap (λ (x : LockName). At x w) e, refl)) (λ _. inl refl)

served_stands : (verdict : ℕ → ℕ → Verdict) (l : LockName) (line : List Stand) (a c : ℕ) (v : Verdict) (rest : Heir) → place_of line a ≡ Some (At l (Condition c)) → verdict a c ≡ v → StandsAs verdict l line rest → StandsAs verdict l line (served v a rest)
served_stands verdict l line a c Holds rest here is others = (c, here, is)
served_stands verdict l line a c Fails rest here is others = others
served_stands verdict l line a c (Traps n) rest here is others = (c, here, is)

waiter_stands : (verdict : ℕ → ℕ → Verdict) (l : LockName) (line : List Stand) → Distinct line → StandsAs verdict l line (first_waiter verdict (waiting l line))
waiter_stands verdict l [] d = tt
waiter_stands verdict l (s ∷ line) d =
    let ih = stands-cons verdict l s line (first_waiter verdict (waiting l line)) d.0 (waiter_stands verdict l line d.1) in
    elim (wanted_tells l s.place) [
      | inl e ↦ subst (λ o. StandsAs verdict l (s ∷ line) (first_waiter verdict (listed o s.activity (waiting l line)))) (sym e) ih
      | inr r ↦ subst (λ o. StandsAs verdict l (s ∷ line) (first_waiter verdict (listed o s.activity (waiting l line)))) (sym r.2)
          ((elim r.0 as (λ w. s.place ≡ At l w → StandsAs verdict l (s ∷ line) (served (judged verdict s.activity w) s.activity (first_waiter verdict (waiting l line)))) [
            | Entry ↦ λ _. ih
            | Condition c ↦ λ at. served_stands verdict l (s ∷ line) s.activity c (verdict s.activity c) (first_waiter verdict (waiting l line)) (place-head s line ∙ ap (λ (p : RunState). Some p) at) refl ih
          ]) r.1)
    ]

entrant_stands : (verdict : ℕ → ℕ → Verdict) (l : LockName) (line : List Stand) → Distinct line → StandsAs verdict l line (first_entrant (waiting l line))
entrant_stands verdict l [] d = tt
entrant_stands verdict l (s ∷ line) d =
    let ih = stands-cons verdict l s line (first_entrant (waiting l line)) d.0 (entrant_stands verdict l line d.1) in
    elim (wanted_tells l s.place) [
      | inl e ↦ subst (λ o. StandsAs verdict l (s ∷ line) (first_entrant (listed o s.activity (waiting l line)))) (sym e) ih
      | inr r ↦ subst (λ o. StandsAs verdict l (s ∷ line) (first_entrant (listed o s.activity (waiting l line)))) (sym r.2)
          ((elim r.0 as (λ w. s.place ≡ At l w → StandsAs verdict l (s ∷ line) (entering w s.activity (first_entrant (waiting l line)))) [
            | Entry ↦ λ at. place-head s line ∙ ap (λ (p : RunState). Some p) at
            | Condition c ↦ λ _. ih
          ]) r.1)
    ]

pub heir_stands : (verdict : ℕ → ℕ → Verdict) (l : LockName) (line : List Stand) → Distinct line → StandsAs verdict l line (heir verdict (waiting l line))
heir_stands verdict l line d =
    (elim (first_waiter verdict (waiting l line)) as (λ h. StandsAs verdict l line h → StandsAs verdict l line (or_else h (first_entrant (waiting l line)))) [
      | Nobody ↦ λ _. entrant_stands verdict l line d
      | Entrant a ↦ λ h. h
      | Waiter a ↦ λ h. h
      | Trapping a n ↦ λ h. h
    ]) (waiter_stands verdict l line d)

no_entrant : (l : LockName) (line : List Stand) → first_entrant (waiting l line) ≡ Nobody → (a : ℕ) → place_of line a ≢ Some (At l Entry)
no_entrant l [] none a is = absurd (cc is)
no_entrant l (s ∷ line) none a is =
    by_case number (λ q. (if q then Some s.place else place_of line a) ≡ Some (At l Entry) → ⊥) a s.activity
    (λ _ h.
    let at : s.place ≡ At l Entry = cc h in
    let e : wanted l s.place ≡ Some Entry = ap (wanted l) at ∙ ap (λ (q : Bool). if q then Some Entry else None) (is_itself lock l) in
    let f = ap (λ o. first_entrant (listed o s.activity (waiting l line))) (sym e) ∙ none in
    absurd (cc f))
    (λ _ h. elim (wanted_tells l s.place) [
      | inl e ↦ no_entrant l line (ap (λ o. first_entrant (listed o s.activity (waiting l line))) (sym e) ∙ none) a h
      | inr r ↦
          (elim r.0 as (λ w. wanted l s.place ≡ Some w → ⊥) [
            | Entry ↦ λ e. let f = ap (λ o. first_entrant (listed o s.activity (waiting l line))) (sym e) ∙ none in absurd (cc f)
            | Condition c ↦ λ e. no_entrant l line (ap (λ o. first_entrant (listed o s.activity (waiting l line))) (sym e) ∙ none) a h
          ]) r.2
    ])
    is

-- where a release gives the lock to nobody, nobody wants to enter
pub nobody : (verdict : ℕ → ℕ → Verdict) (l : LockName) (line : List Stand) → heir verdict (waiting l line) ≡ Nobody → (a : ℕ) → place_of line a ≢ Some (At l Entry)
nobody verdict l line none =
    no_entrant l line ((elim (first_waiter verdict (waiting l line)) as (λ h. or_else h (first_entrant (waiting l line)) ≡ Nobody → first_entrant (waiting l line) ≡ Nobody) [
      | Nobody ↦ λ e. e
      | Entrant a ↦ λ e. absurd (cc e)
      | Waiter a ↦ λ e. absurd (cc e)
      | Trapping a n ↦ λ e. absurd (cc e)
    ]) none)

-- The heir hangs on the verdicts of those who wait there alone

served_same : (v w : Verdict) (a : ℕ) (h k : Heir) → v ≡ w → h ≡ k → served v a h ≡ served w a k
served_same v w a h k p q = λ i. served (p i) a (q i)

first_same : (judge judge' : ℕ → ℕ → Verdict) (l : LockName) (line : List Stand) → Distinct line → ((a c : ℕ) → place_of line a ≡ Some (At l (Condition c)) → judge a c ≡ judge' a c) → first_waiter judge (waiting l line) ≡ first_waiter judge' (waiting l line)
first_same judge judge' l [] d same = refl
first_same judge judge' l (s ∷ line) d same =
    let ih = first_same judge judge' l line d.1 (λ a c h. same a c (place-cons s line a (At l (Condition c)) d.0 h)) in
    elim (wanted_tells l s.place) [
      | inl e ↦ subst (λ o. first_waiter judge (listed o s.activity (waiting l line)) ≡ first_waiter judge' (listed o s.activity (waiting l line))) (sym e) ih
      | inr r ↦ subst (λ o. first_waiter judge (listed o s.activity (waiting l line)) ≡ first_waiter judge' (listed o s.activity (waiting l line))) (sym r.2)
          ((elim r.0 as (λ w. s.place ≡ At l w → served (judged judge s.activity w) s.activity (first_waiter judge (waiting l line)) ≡ served (judged judge' s.activity w) s.activity (first_waiter judge' (waiting l line))) [
            | Entry ↦ λ _. ih
            | Condition c ↦ λ at. served_same _ _ _ _ _ (same s.activity c (place-head s line ∙ ap (λ (p : RunState). Some p) at)) ih
          ]) r.1)
    ]

pub heir_same : (judge judge' : ℕ → ℕ → Verdict) (l : LockName) (line : List Stand) → Distinct line → ((a c : ℕ) → place_of line a ≡ Some (At l (Condition c)) → judge a c ≡ judge' a c) → heir judge (waiting l line) ≡ heir judge' (waiting l line)
heir_same judge judge' l line d same = ap (λ h. or_else h (first_entrant (waiting l line))) (first_same judge judge' l line d same)
