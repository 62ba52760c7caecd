-- The one line of activities seen as queues, as code keeps them: those of each lock, of each priority and of each worker.
use Rattle.std.proofs.Common.{◌≡◌, ℕ, List, [], ◌∷◌, ◌++◌, Bool, true, false, refl, sym, ◌∙◌, ap, subst, inl, inr, ◌≢◌, not}
use Rattle.std.specs.Prelude.{if◌then◌else◌, nat_eq, filter, Option, Some, None}
use Rattle.aos_base.specs.declared.kernel.LockName.{LockName}
use Rattle.aos_base.specs.Lock.{Wants, Waiting, without}
use Rattle.aos_base.specs.Book.{RunState, Stand, At, place_of, move, leave_line, waiting, wanted, listed, first_at}
use Rattle.aos_concurrency.specs.Orderly.{Distinct}
use Rattle.aos_concurrency.proofs.Tables.{number, by_case}
use Rattle.aos_concurrency.proofs.Lines.{wanted_tells, place-cons, place-head}

listed-append : (o : Option Wants) (a : ℕ) (xs ys : List Waiting) → listed o a xs ++ ys ≡ listed o a (xs ++ ys)
listed-append None a xs ys = refl
listed-append (Some w) a xs ys = refl

waiting-append : (l : LockName) (line : List Stand) (s : Stand) → waiting l (line ++ s ∷ []) ≡ waiting l line ++ listed (wanted l s.place) s.activity []
waiting-append l [] s = refl
waiting-append l (t ∷ line) s = ap (listed (wanted l t.place) t.activity) (waiting-append l line s) ∙ sym (listed-append (wanted l t.place) t.activity (waiting l line) _)

without-listed : (a x : ℕ) (o : Option Wants) (xs : List Waiting) → without a (listed o x xs) ≡ (if not (nat_eq x a) then listed o x (without a xs) else without a xs)
without-listed a x None xs = by_case number (λ q. without a xs ≡ (if not q then without a xs else without a xs)) x a (λ _. refl) (λ _. refl)
without-listed a x (Some w) xs = refl

pub waiting-leave : (l : LockName) (a : ℕ) (line : List Stand) → waiting l (leave_line a line) ≡ without a (waiting l line)
waiting-leave l a [] = refl
waiting-leave l a (s ∷ line) =
    by_case number (λ q. waiting l (if not q then s ∷ leave_line a line else leave_line a line) ≡ (if not q then listed (wanted l s.place) s.activity (without a (waiting l line)) else without a (waiting l line))) s.activity a
    (λ _. waiting-leave l a line)
    (λ _. ap (listed (wanted l s.place) s.activity) (waiting-leave l a line))
    ∙ sym (without-listed a s.activity (wanted l s.place) (waiting l line))

-- the list of a lock after a move
pub waiting-move : (l : LockName) (a : ℕ) (p : RunState) (line : List Stand) → waiting l (move a p line) ≡ without a (waiting l line) ++ listed (wanted l p) a []
waiting-move l a p line = waiting-append l (leave_line a line) (record { activity = a; place = p }) ∙ ap (λ xs. xs ++ listed (wanted l p) a []) (waiting-leave l a line)

-- whoever isn't in a list leaves it as it is
pub absent : (l : LockName) (a : ℕ) (line : List Stand) → Distinct line → ((w : Wants) → place_of line a ≢ Some (At l w)) → without a (waiting l line) ≡ waiting l line
absent l a [] d not_there = refl
absent l a (s ∷ line) d not_there =
    let ih = absent l a line d.1 (λ w e. not_there w (place-cons s line a (At l w) d.0 e)) in
    elim (wanted_tells l s.place) [
      | inl e ↦ subst (λ o. without a (listed o s.activity (waiting l line)) ≡ listed o s.activity (waiting l line)) (sym e) ih
      | inr r ↦ subst (λ o. without a (listed o s.activity (waiting l line)) ≡ listed o s.activity (waiting l line)) (sym r.2)
          (by_case number (λ q. (if not q then record { activity = s.activity; wants = r.0 } ∷ without a (waiting l line) else without a (waiting l line)) ≡ record { activity = s.activity; wants = r.0 } ∷ waiting l line) s.activity a
          (λ e. absurd (not_there r.0 (subst (λ x. place_of (s ∷ line) x ≡ Some (At l r.0)) e (place-head s line ∙ ap (λ (p : RunState). Some p) r.1))))
          (λ _. ap (λ xs. record { activity = s.activity; wants = r.0 } ∷ xs) ih))
    ]

-- The same for the places that a test tells: a worker's, or those of a priority

-- who stands at such a place, in order
abbrev pub standing : (RunState → Bool) → List Stand → List ℕ
standing at [] = []
standing at (s ∷ line) = if at s.place then s.activity ∷ standing at line else standing at line

abbrev pub leaving : ℕ → List ℕ → List ℕ
leaving a xs = filter (λ x. not (nat_eq x a)) xs

abbrev pub first_of_list : List ℕ → Option ℕ
first_of_list [] = None
first_of_list (x ∷ xs) = Some x

-- who is found is the first of them
pub first_at-standing : (at : RunState → Bool) (line : List Stand) → first_at at line ≡ first_of_list (standing at line)
first_at-standing at [] = refl
first_at-standing at (s ∷ line) =
    elim (at s.place) as (λ q. (if q then Some s.activity else first_at at line) ≡ first_of_list (if q then s.activity ∷ standing at line else standing at line)) [
      | true ↦ refl
      | false ↦ first_at-standing at line
    ]

standing-append : (at : RunState → Bool) (line : List Stand) (s : Stand) → standing at (line ++ s ∷ []) ≡ standing at line ++ (if at s.place then s.activity ∷ [] else [])
standing-append at [] s = refl
standing-append at (t ∷ line) s =
    elim (at t.place) as (λ q. (if q then t.activity ∷ standing at (line ++ s ∷ []) else standing at (line ++ s ∷ [])) ≡ (if q then t.activity ∷ standing at line else standing at line) ++ (if at s.place then s.activity ∷ [] else [])) [
      | true ↦ ap (λ xs. t.activity ∷ xs) (standing-append at line s)
      | false ↦ standing-append at line s
    ]

pub standing-leave : (at : RunState → Bool) (a : ℕ) (line : List Stand) → standing at (leave_line a line) ≡ leaving a (standing at line)
standing-leave at a [] = refl
standing-leave at a (s ∷ line) =
    (elim (nat_eq s.activity a) as (λ p. standing at (if not p then s ∷ leave_line a line else leave_line a line) ≡ (if at s.place then (if not p then s.activity ∷ leaving a (standing at line) else leaving a (standing at line)) else leaving a (standing at line))) [
      | true ↦ standing-leave at a line ∙ (elim (at s.place) as (λ q. leaving a (standing at line) ≡ (if q then leaving a (standing at line) else leaving a (standing at line))) [ true ↦ refl | false ↦ refl ])
      | false ↦ elim (at s.place) as (λ q. (if q then s.activity ∷ standing at (leave_line a line) else standing at (leave_line a line)) ≡ (if q then s.activity ∷ leaving a (standing at line) else leaving a (standing at line))) [
        | true ↦ ap (λ xs. s.activity ∷ xs) (standing-leave at a line)
        | false ↦ standing-leave at a line
      ]
    ])
    ∙ (elim (at s.place) as (λ q. (if q then leaving a (s.activity ∷ standing at line) else leaving a (standing at line)) ≡ leaving a (if q then s.activity ∷ standing at line else standing at line)) [ true ↦ refl | false ↦ refl ])

-- after a move
pub standing-move : (at : RunState → Bool) (a : ℕ) (p : RunState) (line : List Stand) → standing at (move a p line) ≡ leaving a (standing at line) ++ (if at p then a ∷ [] else [])
standing-move at a p line = standing-append at (leave_line a line) (record { activity = a; place = p }) ∙ ap (λ xs. xs ++ (if at p then a ∷ [] else [])) (standing-leave at a line)
