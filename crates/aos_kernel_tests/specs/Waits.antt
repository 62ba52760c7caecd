-- Who waits for a lock, by a flag for each number.
use Rattle.std.specs.Prelude.{◌≡◌, ℕ, ◌<◌, ◌≤◌, List, length, Bool, true, false, slice_index_or}
use Rattle.aos_queue.specs.declared.links.Links.{Links}
use Rattle.aos_queue.specs.Lists.{room_of}
use Rattle.aos_lock.specs.declared.lock.Entered.{Entered}
use Rattle.aos_lock.specs.declared.lock.Entered.TheVariants.{Taken, Waits, Recursive}
use Rattle.aos_lock.specs.declared.locks.Locks.{Locks}
use Rattle.aos_lock.specs.Waits.{count_of, Belong, WaitsNowhere}

-- one whose flag is false waits for no lock
pub record Keeps (links : Links) (locks : Locks) (flags : List Bool) : Type 0 where
  pub added : 0 < count_of locks
  pub belong : Belong links locks
  pub room : length flags ≤ room_of links
  pub idle : (a : ℕ) → slice_index_or flags a true ≡ false → WaitsNowhere links locks a

abbrev pub waits_then : Entered → Bool
waits_then Taken = false
waits_then Waits = true
waits_then Recursive = false
