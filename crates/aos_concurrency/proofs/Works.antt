-- The work before which an activity stands, from one place and state to another.
use Rattle.std.proofs.Common.{◌≡◌, ℕ, false, refl, sym, subst, inl, inr, ◌≢◌}
use Rattle.std.specs.Prelude.{Option, Some, None}
use Rattle.aos_base.specs.declared.kernel.LockName.{LockName}
use Rattle.aos_base.specs.declared.kernel.Did.{Did}
use Rattle.aos_base.specs.declared.kernel.Did.TheVariants.{Went, Enter, Await}
use Rattle.aos_base.specs.Lock.{Entry, Condition}
use Rattle.aos_base.specs.Book.{RunState, On, Ready, At, Next, Runs, WillTrap, Unwinds, Gone, is_at_lock}
use Rattle.aos_concurrency.specs.LocalState.{LocalState, before, AtRunState, AtWork}
use Rattle.aos_concurrency.proofs.Tables.{number}

pub each_at : (G : ℕ → Type 0) (a : ℕ) → G a → ((x : ℕ) → x ≢ a → G x) → (x : ℕ) → G x
each_at G a here other x = elim (number x a) [ inl h ↦ subst G (sym h.1) here | inr h ↦ other x h.1 ]

abbrev pub at_local_state : {F : Type 0} → Option RunState → Next → F → LocalState F
at_local_state p n f = record { place = p; next = n; frames = f }

-- of what holds at one local state, the same at another that is equal in its parts
pub local_state_along : {F : Type 0} (P : LocalState F → Type 0) (p q : Option RunState) (n k : Next) (f g : F) → p ≡ q → n ≡ k → f ≡ g → P (at_local_state p n f) → P (at_local_state q k g)
local_state_along {F = F} P p q n k f g pe ne fe h = subst P (λ i. let y : LocalState F = record { place = pe i; next = ne i; frames = fe i } in y) h

module _ (Admitted : LockName → Type 0) (R : Did → Type 0) where
  awake_at : (p : RunState) → is_at_lock p ≡ false → AtRunState Admitted R p ≡ R Went
  awake_at (On v) e = refl
  awake_at (Ready v) e = refl
  awake_at (At l w) e = absurd (cc e)

  -- at rest, where it is on a worker or ready
  pub at_rest : (n : Next) (p : RunState) → is_at_lock p ≡ false → n ≡ Runs → R Went → AtWork Admitted R n (Some p)
  at_rest n p awake runs h = subst (λ x. AtWork Admitted R x (Some p)) (sym runs) (subst (λ x. x) (sym (awake_at p awake)) h)

  -- the same at any place that is no lock's
  pub work_elsewhere : (n : Next) (p q : RunState) → is_at_lock p ≡ false → is_at_lock q ≡ false → AtWork Admitted R n (Some p) → AtWork Admitted R n (Some q)
  work_elsewhere Runs (On v) (On w) ep eq h = h
  work_elsewhere Runs (On v) (Ready w) ep eq h = h
  work_elsewhere Runs (Ready v) (On w) ep eq h = h
  work_elsewhere Runs (Ready v) (Ready w) ep eq h = h
  work_elsewhere Runs (At l w) q ep eq h = absurd (cc ep)
  work_elsewhere Runs p (At l w) ep eq h = absurd (cc eq)
  work_elsewhere (WillTrap k) p q ep eq h = h
  work_elsewhere (Unwinds ls) p q ep eq h = h
  work_elsewhere Gone p q ep eq h = tt

  pub work_along : (n k : Next) (o p : Option RunState) → n ≡ k → o ≡ p → AtWork Admitted R n o → AtWork Admitted R k p
  work_along n k o p en eo h = subst (AtWork Admitted R k) eo (subst (λ x. AtWork Admitted R x o) en h)

  before_place : (p : RunState) → AtRunState Admitted R p → R (before p)
  before_place (On v) h = h
  before_place (Ready v) h = h
  before_place (At l Entry) h = h.1
  before_place (At l (Condition c)) h = h

  pub runs_at : (n : Next) (o : Option RunState) (p : RunState) → n ≡ Runs → o ≡ Some p → AtWork Admitted R n o → R (before p)
  runs_at n o p en eo h = before_place p (work_along n Runs o (Some p) en eo h)

  -- whoever waits to enter may be let in
  pub admitted_at : (n : Next) (o : Option RunState) (l : LockName) → n ≡ Runs → o ≡ Some (At l Entry) → AtWork Admitted R n o → Admitted l
  admitted_at n o l en eo h = (work_along n Runs o (Some (At l Entry)) en eo h).0

-- along what holds of each work
pub work_map : (Admitted : LockName → Type 0) (R Q : Did → Type 0) → ((w : Did) → R w → Q w) → (n : Next) (o : Option RunState) → AtWork Admitted R n o → AtWork Admitted Q n o
work_map Admitted R Q to Runs None h = tt
work_map Admitted R Q to Runs (Some (On v)) h = to Went h
work_map Admitted R Q to Runs (Some (Ready v)) h = to Went h
work_map Admitted R Q to Runs (Some (At l Entry)) h = (h.0, to (Enter l) h.1)
work_map Admitted R Q to Runs (Some (At l (Condition c))) h = to (Await l c) h
work_map Admitted R Q to (WillTrap k) o h = (h.0, (h.1.0, to h.0 h.1.1))
work_map Admitted R Q to (Unwinds ls) o h = (h.0, (h.1.0, to h.0 h.1.1))
work_map Admitted R Q to Gone o h = tt
