-- Where each activity may be: what every entry of a schedule keeps.
use Rattle.std.specs.Prelude.{◌≡◌, ◌≢◌, ℕ, ◌+◌, Option, Some, None, ◌==◌, if◌then◌else◌}
use Rattle.aos_base.specs.declared.kernel.LockName.{LockName}
use Rattle.aos_base.specs.declared.kernel.Did.{Did}
use Rattle.aos_base.specs.Lock.{is_lock, Entry, Condition}
use Rattle.aos_base.specs.Book.{RunState, On, Ready, At}
use Rattle.aos_base.specs.Machine.{Machine, State}
use Rattle.aos_concurrency.specs.LocalState.{LocalState, local_state, AtWork}
use Rattle.aos_concurrency.specs.Orderly.{Orderly}
use Rattle.aos_concurrency.specs.Regions.{times, Outside, regions_of}

-- 1 where a is the owner
abbrev pub owns : Option ℕ → ℕ → ℕ
owns None a = 0
owns (Some b) a = if b == a then 1 else 0

-- 1 where one who stands there waits for a condition of this lock
abbrev pub waits_in : LockName → Option RunState → ℕ
waits_in l None = 0
waits_in l (Some (On w)) = 0
waits_in l (Some (Ready p)) = 0
waits_in l (Some (At k Entry)) = 0
waits_in l (Some (At k (Condition c))) = if is_lock l k then 1 else 0

-- each activity's frames fit, and those of one that waits to enter a lock's region are admitted
pub record Fitting {S F : Type 0} (Admitted : LockName → F → Type 0) (Fits : S → Did → F → Type 0) (st : State S F) : Type 0 where
  pub orderly : Orderly st
  pub fits : (a : ℕ) → AtWork (λ l. Admitted l (st.frames a)) (λ w. Fits st.store w (st.frames a)) (local_state st a).next (local_state st a).place

module _ {S F : Type 0} (m : Machine S F) (Fits : S → Did → F → Type 0) where
  -- one activity: in a region of a lock exactly where it owns the lock or waits for a condition there
  pub record Sits (s : S) (owner : LockName → Option ℕ) (a : ℕ) (x : LocalState F) : Type 0 where
    pub regions : (l : LockName) → times l (regions_of m x.next x.frames) ≡ owns (owner l) a + waits_in l x.place
    pub fits : AtWork (λ l. Outside m l x.frames) (λ w. Fits s w x.frames) x.next x.place

  -- each activity sits, and a lock with an entrant has an owner
  pub record Sound (st : State S F) : Type 0 where
    pub orderly : Orderly st
    pub each : (a : ℕ) → Sits st.store st.book.owner a (local_state st a)
    pub served : (a : ℕ) (l : LockName) → (local_state st a).place ≡ Some (At l Entry) → st.book.owner l ≢ None
