-- Those who wait for a lock, and to whom a release gives it (Muller 2002, on the Active Object System's monitors).
use Rattle.std.specs.Prelude.{◌≡◌, ℕ, List, [], ◌∷◌, ◌==◌, not, filter, Bool, true, false}
use Rattle.aos_base.specs.declared.kernel.LockName.{LockName}
use Rattle.aos_base.specs.declared.kernel.LockName.TheVariants.{Module, Object}
use Rattle.aos_base.specs.declared.kernel.Verdict.{Verdict}
use Rattle.aos_base.specs.declared.kernel.Verdict.TheVariants.{Holds, Fails, Traps}

-- whether two names are of one lock
abbrev pub is_lock : LockName → LockName → Bool
is_lock (Module m) (Module n) = m == n
is_lock (Module m) (Object n) = false
is_lock (Object m) (Module n) = false
is_lock (Object m) (Object n) = m == n

-- what one who waits for a lock wants: to enter its region, or a condition to hold, by its number
pub data Wants : Type 0 where
  Entry : Wants
  Condition : (number : ℕ) → Wants

pub record Waiting : Type 0 where
  pub activity : ℕ
  pub wants : Wants

-- whom a release gives the lock: nobody, one who enters, or a waiter, whose condition holds or traps
pub data Heir : Type 0 where
  Nobody : Heir
  Entrant : (activity : ℕ) → Heir
  Waiter : (activity : ℕ) → Heir
  Trapping : (activity number : ℕ) → Heir

-- a waiter whose condition doesn't fail is served, and else one of the others
abbrev pub served : Verdict → ℕ → Heir → Heir
served Holds a others = Waiter a
served (Traps n) a others = Trapping a n
served Fails a others = others

-- an entrant has no condition
abbrev pub judged : (ℕ → ℕ → Verdict) → ℕ → Wants → Verdict
judged verdict a Entry = Fails
judged verdict a (Condition c) = verdict a c

-- the first waiter whose condition holds or traps; `verdict a c` is that of a's condition c
abbrev pub first_waiter : (ℕ → ℕ → Verdict) → List Waiting → Heir
first_waiter verdict [] = Nobody
first_waiter verdict (e ∷ es) = served (judged verdict e.activity e.wants) e.activity (first_waiter verdict es)

abbrev pub entering : Wants → ℕ → Heir → Heir
entering Entry a others = Entrant a
entering (Condition c) a others = others

abbrev pub first_entrant : List Waiting → Heir
first_entrant [] = Nobody
first_entrant (e ∷ es) = entering e.wants e.activity (first_entrant es)

abbrev pub or_else : Heir → Heir → Heir
or_else Nobody other = other
or_else (Entrant a) other = Entrant a
or_else (Waiter a) other = Waiter a
or_else (Trapping a n) other = Trapping a n

-- a release gives the lock to the first waiter whose condition holds or traps, else to the first entrant, else to nobody
abbrev pub heir : (ℕ → ℕ → Verdict) → List Waiting → Heir
heir verdict es = or_else (first_waiter verdict es) (first_entrant es)

-- the list after this activity has left it
abbrev pub without : ℕ → List Waiting → List Waiting
without a es = filter (λ e. not (e.activity == a)) es

-- the list after a release that chose this heir
abbrev pub after_heir : Heir → List Waiting → List Waiting
after_heir Nobody es = es
after_heir (Entrant a) es = without a es
after_heir (Waiter a) es = without a es
after_heir (Trapping a n) es = without a es

abbrev pub enters : Wants → Bool
enters Entry = true
enters (Condition c) = false

abbrev pub entrants : List Waiting → List Waiting
entrants es = filter (λ e. enters e.wants) es

abbrev pub waiters : List Waiting → List Waiting
waiters es = filter (λ e. not (enters e.wants)) es

-- lists in which the entrants stand in one order, and the waiters too
pub record Alike (es fs : List Waiting) : Type 0 where
  pub entrants : entrants es ≡ entrants fs
  pub waiters : waiters es ≡ waiters fs
