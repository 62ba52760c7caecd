-- Who waits for locks, and what a call on one lock leaves as it was.
use Rattle.std.specs.Prelude.{◌≡◌, ◌≢◌, ◌<◌, ◌++◌, ℕ, List, [], length, map, Option, None, slice_index_or}
use Rattle.std.specs.List.{Contains}
use Rattle.aos_base.specs.Lock.{Waiting, entrants, waiters}
use Rattle.aos_queue.specs.declared.links.Links.{Links}
use Rattle.aos_queue.specs.declared.queue.Queue.{Queue}
use Rattle.aos_queue.specs.Lists.{list_in, mark_of, room_of, Belongs, Apart}
use Rattle.aos_lock.specs.declared.lock.Lock.{Lock}
use Rattle.aos_lock.specs.declared.locks.Locks.{Locks}

-- the numbers of those who wait
abbrev pub numbers : List Waiting → List ℕ
numbers es = map (λ e. e.activity) es

-- one lock ---------------------------------------------------------------------------------

-- those who are to enter, in their order
abbrev pub entrants_of : Links → Lock → List ℕ
entrants_of links lock = list_in links lock.entrants

-- those who await a condition, in their order
abbrev pub waiters_of : Links → Lock → List ℕ
waiters_of links lock = list_in links lock.waiters

-- all who wait for a lock
abbrev pub numbers_of : Links → Lock → List ℕ
numbers_of links lock = entrants_of links lock ++ waiters_of links lock

-- two queues belong to the links, and nobody stands in both
pub record BothBelong (links : Links) (es ws : Queue) : Type 0 where
  pub entrants : Belongs links es
  pub waiters : Belongs links ws
  pub apart : Apart (list_in links es) (list_in links ws)

-- what a lock keeps of those who wait belongs to the links
abbrev pub LockBelongs : Links → Lock → Type 0
LockBelongs links lock = BothBelong links lock.entrants lock.waiters

-- all locks --------------------------------------------------------------------------------

-- a queue in which nobody stands
abbrev pub empty_queue : Queue
empty_queue = record { first = None; last = 0 }

-- what a lock has that wasn't added
abbrev pub free : Lock
free = record { owner = None; entrants = empty_queue; waiters = empty_queue }

abbrev pub lock_at : Locks → ℕ → Lock
lock_at locks lock = slice_index_or locks.locks.items lock free

-- how many locks were added: their numbers are those below
unfoldable pub count_of : Locks → ℕ
count_of locks = length locks.locks.items

-- a lock's owner
unfoldable pub owner_of : Locks → ℕ → Option ℕ
owner_of locks lock = (lock_at locks lock).owner

-- who is to enter, in the order in which they began to wait
unfoldable pub entrants_in : Links → Locks → ℕ → List ℕ
entrants_in links locks lock = entrants_of links (lock_at locks lock)

-- who awaits a condition, in the order in which they began
unfoldable pub waiters_in : Links → Locks → ℕ → List ℕ
waiters_in links locks lock = waiters_of links (lock_at locks lock)

-- all who wait for the lock
abbrev pub numbers_in : Links → Locks → ℕ → List ℕ
numbers_in links locks lock = entrants_in links locks lock ++ waiters_in links locks lock

-- a lock stands for each list of which these are the entrants and the waiters
pub record StandsFor (links : Links) (locks : Locks) (lock : ℕ) (es : List Waiting) : Type 0 where
  pub entrants : entrants_in links locks lock ≡ numbers (entrants es)
  pub waiters : waiters_in links locks lock ≡ numbers (waiters es)

-- what the locks keep belongs to the links, and nobody waits for two locks
pub record Belong (links : Links) (locks : Locks) : Type 0 where
  pub belongs : (lock : ℕ) → LockBelongs links (lock_at locks lock)
  pub apart : (lock other : ℕ) → lock ≢ other →
      Apart (numbers_of links (lock_at locks lock)) (numbers_of links (lock_at locks other))

-- an activity that waits for no lock
pub record WaitsNowhere (links : Links) (locks : Locks) (a : ℕ) : Type 0 where
  pub nowhere : (lock : ℕ) → lock < count_of locks → Contains (numbers_in links locks lock) a → ⊥

-- nobody waits for the lock
pub record IsUnawaited (links : Links) (locks : Locks) (lock : ℕ) : Type 0 where
  pub entrants : entrants_in links locks lock ≡ []
  pub waiters : waiters_in links locks lock ≡ []

-- the same wait for the lock as before
pub record SameWaiting (before : Links) (old : Locks) (after : Links) (new : Locks) (lock : ℕ)
    : Type 0 where
  pub entrants : entrants_in after new lock ≡ entrants_in before old lock
  pub waiters : waiters_in after new lock ≡ waiters_in before old lock

-- each other lock keeps its owner and those who wait for it
pub record KeepsLocks (before : Links) (old : Locks) (after : Links) (new : Locks) (lock : ℕ)
    : Type 0 where
  pub count : count_of new ≡ count_of old
  pub owners : (other : ℕ) → other ≢ lock → owner_of new other ≡ owner_of old other
  pub lists : (other : ℕ) → other ≢ lock → SameWaiting before old after new other

-- all numbers but one keep their marks, and the same are reserved
pub record KeepsMarks (old new : Links) (a : ℕ) : Type 0 where
  pub room : room_of new ≡ room_of old
  pub marks : (n : ℕ) → n ≢ a → mark_of new n ≡ mark_of old n
