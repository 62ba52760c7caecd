-- The line after one has left it, or has joined it.
use Rattle.std.proofs.Common.{◌≡◌, ◌≢◌, ◌≤◌, ℕ, suc, arith, List, [], ◌∷◌, ◌++◌, length, refl, sym, ap, subst, ◌∙◌, inl, inr}
use Rattle.std.specs.List.{Contains}
use Rattle.std.specs.Prelude.{Bool, true, false, ◌==◌, ◌&&◌, not, if◌then◌else◌, Option, Some, None, is_some, slice_get}
use Rattle.aos_base.specs.declared.kernel.LockName.{LockName}
use Rattle.aos_base.specs.Lock.{Waiting, Wants, without as waiting_without}
use Rattle.aos_base.specs.Book.{RunState, Stand, first_at, is_at_lock, wanted, listed, waiting, place_of, all_at_locks, leave_line, move}
use Rattle.aos_queue.specs.Lists.{IsOnce, without}
use Rattle.aos_queue.proofs.Members.{here, there, among, none, differ}
use Rattle.aos_lock.specs.Waits.{numbers}
use Rattle.aos_scheduler.specs.Stands.{standing, anywhere, is_awake}
use Rattle.aos_scheduler.proofs.Members.{by_case}

-- One who has left

left_step : (q r : Bool) (x a : ℕ) (S T : List ℕ) → (x == a) ≡ r → T ≡ without a S → (if not r then (if q then x ∷ T else T) else T) ≡ without a (if q then x ∷ S else S)
left_step true true x a S T e h = h ∙ sym (ap (λ r. if not r then x ∷ without a S else without a S) e)
left_step true false x a S T e h = ap (λ ns. x ∷ ns) h ∙ sym (ap (λ r. if not r then x ∷ without a S else without a S) e)
left_step false true x a S T e h = h
left_step false false x a S T e h = h

pub standing-left : (at : RunState → Bool) (a : ℕ) (line : List Stand) → standing at (leave_line a line) ≡ without a (standing at line)
standing-left at a [] = refl
standing-left at a (s ∷ line) =
    elim (s.activity == a) as (λ r. standing at (if not r then s ∷ leave_line a line else leave_line a line) ≡ (if not r then (if at s.place then s.activity ∷ standing at (leave_line a line) else standing at (leave_line a line)) else standing at (leave_line a line))) [ true ↦ refl | false ↦ refl ]
    ∙ left_step (at s.place) (s.activity == a) s.activity a (standing at line) (standing at (leave_line a line)) refl (standing-left at a line)

waits_step : (w : Option Wants) (r : Bool) (x a : ℕ) (es fs : List Waiting) → (x == a) ≡ r → fs ≡ waiting_without a es → (if not r then listed w x fs else fs) ≡ waiting_without a (listed w x es)
waits_step None true x a es fs e h = h
waits_step None false x a es fs e h = h
waits_step (Some w) true x a es fs e h = h ∙ sym (ap (λ r. if not r then record { activity = x; wants = w } ∷ waiting_without a es else waiting_without a es) e)
waits_step (Some w) false x a es fs e h = ap (λ gs. let f : Waiting = record { activity = x; wants = w } in f ∷ gs) h ∙ sym (ap (λ r. if not r then record { activity = x; wants = w } ∷ waiting_without a es else waiting_without a es) e)

pub waiting-left : (k : LockName) (a : ℕ) (line : List Stand) → waiting k (leave_line a line) ≡ waiting_without a (waiting k line)
waiting-left k a [] = refl
waiting-left k a (s ∷ line) =
    elim (s.activity == a) as (λ r. waiting k (if not r then s ∷ leave_line a line else leave_line a line) ≡ (if not r then listed (wanted k s.place) s.activity (waiting k (leave_line a line)) else waiting k (leave_line a line))) [ true ↦ refl | false ↦ refl ]
    ∙ waits_step (wanted k s.place) (s.activity == a) s.activity a (waiting k line) (waiting k (leave_line a line)) refl (waiting-left k a line)

pub place-gone : (a : ℕ) (line : List Stand) → place_of (leave_line a line) a ≡ None
place-gone a [] = refl
place-gone a (s ∷ line) =
    by_case (λ q. place_of (if not q then s ∷ leave_line a line else leave_line a line) a ≡ None) s.activity a (λ e. place-gone a line)
    (λ ne. by_case (λ q. (if q then Some s.place else place_of (leave_line a line) a) ≡ None) a s.activity (λ e. absurd (ne (sym e))) (λ _. place-gone a line))

pub place-other : (a x : ℕ) (line : List Stand) → x ≢ a → place_of (leave_line a line) x ≡ place_of line x
place-other a x [] ne = refl
place-other a x (s ∷ line) ne =
    by_case (λ q. place_of (if not q then s ∷ leave_line a line else leave_line a line) x ≡ place_of (s ∷ line) x) s.activity a
    (λ e. by_case (λ q. place_of (leave_line a line) x ≡ (if q then Some s.place else place_of line x)) x s.activity (λ f. absurd (ne (f ∙ e))) (λ _. place-other a x line ne))
    (λ _. elim (x == s.activity) as (λ q. (if q then Some s.place else place_of (leave_line a line) x) ≡ (if q then Some s.place else place_of line x)) [ true ↦ refl | false ↦ place-other a x line ne ])

-- One who has joined

pub standing-joined : (at : RunState → Bool) (line : List Stand) (s : Stand) → standing at (line ++ s ∷ []) ≡ standing at line ++ (if at s.place then s.activity ∷ [] else [])
standing-joined at [] s = refl
standing-joined at (t ∷ line) s =
    elim (at t.place) as (λ q. (if q then t.activity ∷ standing at (line ++ s ∷ []) else standing at (line ++ s ∷ [])) ≡ (if q then t.activity ∷ standing at line else standing at line) ++ (if at s.place then s.activity ∷ [] else [])) [
      | true ↦ ap (λ ns. t.activity ∷ ns) (standing-joined at line s)
      | false ↦ standing-joined at line s
    ]

pub waiting-joined : (k : LockName) (line : List Stand) (s : Stand) → waiting k (line ++ s ∷ []) ≡ waiting k line ++ listed (wanted k s.place) s.activity []
waiting-joined k [] s = refl
waiting-joined k (t ∷ line) s =
    elim (wanted k t.place) as (λ w. listed w t.activity (waiting k (line ++ s ∷ [])) ≡ listed w t.activity (waiting k line) ++ listed (wanted k s.place) s.activity []) [
      | None ↦ waiting-joined k line s
      | Some w ↦ ap (λ es. let e : Waiting = record { activity = t.activity; wants = w } in e ∷ es) (waiting-joined k line s)
    ]

pub place-last : (a : ℕ) (p : RunState) (line : List Stand) → place_of line a ≡ None → place_of (line ++ record { activity = a; place = p } ∷ []) a ≡ Some p
place-last a p [] none = by_case (λ q. ◌≡◌ {A = Option RunState} (if q then Some p else None) (Some p)) a a (λ e. refl) (λ ne. absurd (ne refl))
place-last a p (s ∷ line) none =
    (elim (a == s.activity) as (λ q. (if q then Some s.place else place_of line a) ≡ None → (if q then Some s.place else place_of (line ++ record { activity = a; place = p } ∷ []) a) ≡ Some p) [
      | true ↦ λ e. absurd (cc e)
      | false ↦ λ e. place-last a p line e
    ]) none

pub place-before : (a x : ℕ) (p : RunState) (line : List Stand) → x ≢ a → place_of (line ++ record { activity = a; place = p } ∷ []) x ≡ place_of line x
place-before a x p [] ne = by_case (λ q. ◌≡◌ {A = Option RunState} (if q then Some p else None) None) x a (λ e. absurd (ne e)) (λ _. refl)
place-before a x p (s ∷ line) ne =
    elim (x == s.activity) as (λ q. (if q then Some s.place else place_of (line ++ record { activity = a; place = p } ∷ []) x) ≡ (if q then Some s.place else place_of line x)) [ true ↦ refl | false ↦ place-before a x p line ne ]

-- One who has moved

pub place-moved : (a : ℕ) (p : RunState) (line : List Stand) → place_of (move a p line) a ≡ Some p
place-moved a p line = place-last a p (leave_line a line) (place-gone a line)

pub place-unmoved : (a x : ℕ) (p : RunState) (line : List Stand) → x ≢ a → place_of (move a p line) x ≡ place_of line x
place-unmoved a x p line ne = place-before a x p (leave_line a line) ne ∙ place-other a x line ne

-- Who stands where

pub within_line : (at : RunState → Bool) (line : List Stand) (x : ℕ) → Contains (standing at line) x → Contains (standing anywhere line) x
within_line at [] x i = i
within_line at (s ∷ line) x i =
    (elim (at s.place) as (λ q. Contains (if q then s.activity ∷ standing at line else standing at line) x → Contains (s.activity ∷ standing anywhere line) x) [
      | true ↦ λ j. elim (among s.activity x (standing at line) j) [
        | inl e ↦ subst (λ k. Contains (s.activity ∷ standing anywhere line) k) e (here s.activity (standing anywhere line))
        | inr k ↦ there s.activity x (standing anywhere line) (within_line at line x k)
      ]
      | false ↦ λ j. there s.activity x (standing anywhere line) (within_line at line x j)
    ]) i

pub once_standing : (at : RunState → Bool) (line : List Stand) → IsOnce (standing anywhere line) → IsOnce (standing at line)
once_standing at [] h = tt
once_standing at (s ∷ line) h =
    elim (at s.place) as (λ q. IsOnce (if q then s.activity ∷ standing at line else standing at line)) [
      | true ↦ (λ i. h.0 (within_line at line s.activity i), once_standing at line h.1)
      | false ↦ once_standing at line h.1
    ]

pub fewer_standing : (at : RunState → Bool) (line : List Stand) → length (standing at line) ≤ length (standing anywhere line)
fewer_standing at [] = omega arith
fewer_standing at (s ∷ line) =
    let rest = fewer_standing at line in
    elim (at s.place) as (λ q. length (if q then s.activity ∷ standing at line else standing at line) ≤ suc (length (standing anywhere line))) [ true ↦ omega (arith, rest) | false ↦ omega (arith, rest) ]

-- who is found behind the first one isn't the first one
later : (s : Stand) (line : List Stand) (x : ℕ) → IsOnce (standing anywhere (s ∷ line)) → Contains (standing anywhere line) x → place_of (s ∷ line) x ≡ place_of line x
later s line x once i =
    by_case (λ q. (if q then Some s.place else place_of line x) ≡ place_of line x) x s.activity (λ e. absurd (once.0 (subst (λ k. Contains (standing anywhere line) k) e i))) (λ _. refl)

pub stands_has : (at : RunState → Bool) (line : List Stand) (x : ℕ) → IsOnce (standing anywhere line) → Contains (standing at line) x → (p : RunState) × (place_of line x ≡ Some p) × (at p ≡ true)
stands_has at [] x once i = absurd (none x i)
stands_has at (s ∷ line) x once i =
    let rest : Contains (standing at line) x → (p : RunState) × (place_of (s ∷ line) x ≡ Some p) × (at p ≡ true) =
    λ k. (let r = stands_has at line x once.1 k in (r.0, later s line x once (within_line at line x k) ∙ r.1, r.2)) in
    (elim (at s.place) as (λ q. at s.place ≡ q → Contains (if q then s.activity ∷ standing at line else standing at line) x → (p : RunState) × (place_of (s ∷ line) x ≡ Some p) × (at p ≡ true)) [
      | true ↦ λ is j. elim (among s.activity x (standing at line) j) [
        | inl e ↦ (s.place, by_case (λ q. (if q then Some s.place else place_of line x) ≡ Some s.place) x s.activity (λ _. refl) (λ ne. absurd (ne (sym e))), is)
        | inr k ↦ rest k
      ]
      | false ↦ λ is j. rest j
    ]) refl i

pub has_stands : (at : RunState → Bool) (line : List Stand) (x : ℕ) (p : RunState) → place_of line x ≡ Some p → at p ≡ true → Contains (standing at line) x
has_stands at [] x p e h = absurd (cc e)
has_stands at (s ∷ line) x p e h =
    (by_case (λ q. (if q then Some s.place else place_of line x) ≡ Some p → Contains (standing at (s ∷ line)) x) x s.activity
    (λ is f.
    let z : s.place ≡ p = cc f in
    subst (λ q. Contains (if q then s.activity ∷ standing at line else standing at line) x) (sym (ap at z ∙ h)) (subst (λ k. Contains (s.activity ∷ standing at line) k) (sym is) (here s.activity (standing at line))))
    (λ ne f.
    let i = has_stands at line x p f h in
    elim (at s.place) as (λ q. Contains (if q then s.activity ∷ standing at line else standing at line) x) [ true ↦ there s.activity x (standing at line) i | false ↦ i ])) e

-- one who stands elsewhere, or nowhere, isn't among them
pub elsewhere : (at : RunState → Bool) (line : List Stand) (x : ℕ) (p : RunState) → IsOnce (standing anywhere line) → place_of line x ≡ Some p → at p ≡ false → Contains (standing at line) x → ⊥
elsewhere at line x p once is out i =
    let r = stands_has at line x once i in
    let z : Some r.0 ≡ Some p = sym r.1 ∙ is in
    let same : r.0 ≡ p = cc z in
    let t : true ≡ false = sym r.2 ∙ ap at same ∙ out in
    absurd (cc t)

pub nowhere : (at : RunState → Bool) (line : List Stand) (x : ℕ) → IsOnce (standing anywhere line) → place_of line x ≡ None → Contains (standing at line) x → ⊥
nowhere at line x once is i =
    let r = stands_has at line x once i in
    let z : Some r.0 ≡ None = sym r.1 ∙ is in
    absurd (cc z)

-- who waits for a lock stands at it
abbrev pub at_lock : LockName → RunState → Bool
at_lock k p = is_some (wanted k p)

numbers_step : (w : Option Wants) (x : ℕ) (es : List Waiting) (ns : List ℕ) → numbers es ≡ ns → numbers (listed w x es) ≡ (if is_some w then x ∷ ns else ns)
numbers_step None x es ns e = e
numbers_step (Some w) x es ns e = ap (λ ms. x ∷ ms) e

pub waiting_standing : (k : LockName) (line : List Stand) → numbers (waiting k line) ≡ standing (at_lock k) line
waiting_standing k [] = refl
waiting_standing k (s ∷ line) = numbers_step (wanted k s.place) s.activity (waiting k line) (standing (at_lock k) line) (waiting_standing k line)

-- How far the execution is

pub length_standing : (line : List Stand) → length (standing anywhere line) ≡ length line
length_standing [] = refl
length_standing (s ∷ line) = ap suc (length_standing line)

pub first_standing : (at : RunState → Bool) (line : List Stand) → first_at at line ≡ slice_get (standing at line) 0
first_standing at [] = refl
first_standing at (s ∷ line) =
    elim (at s.place) as (λ q. (if q then Some s.activity else first_at at line) ≡ slice_get (if q then s.activity ∷ standing at line else standing at line) 0) [ true ↦ refl | false ↦ first_standing at line ]

pub all_at_standing : (line : List Stand) → all_at_locks line ≡ (length (standing is_awake line) == 0)
all_at_standing [] = refl
all_at_standing (s ∷ line) =
    elim (is_at_lock s.place) as (λ q. (q && all_at_locks line) ≡ (length (if not q then s.activity ∷ standing is_awake line else standing is_awake line) == 0)) [ true ↦ all_at_standing line | false ↦ sym (differ (suc (length (standing is_awake line))) 0 (λ e. absurd (cc e))) ]
