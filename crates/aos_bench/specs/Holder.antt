-- One who owns a lock.
use Rattle.std.specs.Prelude.{◌≡◌, ℕ, ◌<◌, ◌≤◌, Some}
use Rattle.aos_queue.specs.declared.links.Links.{Links}
use Rattle.aos_queue.specs.Lists.{room_of}
use Rattle.aos_lock.specs.declared.locks.Locks.{Locks}
use Rattle.aos_lock.specs.Waits.{count_of, owner_of, Belong, WaitsNowhere}

-- the lock's owner, whose number is reserved, and who waits for no lock
pub record Holds (links : Links) (locks : Locks) (lock activity : ℕ) : Type 0 where
  pub added : lock < count_of locks
  pub belong : Belong links locks
  pub owner : owner_of locks lock ≡ Some activity
  pub reserved : activity < room_of links
  pub idle : WaitsNowhere links locks activity

-- those from a number on wait for no lock
pub record IdleFrom (links : Links) (locks : Locks) (first : ℕ) : Type 0 where
  pub idle : (activity : ℕ) → first ≤ activity → WaitsNowhere links locks activity
