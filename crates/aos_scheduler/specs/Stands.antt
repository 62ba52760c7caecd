-- The line of the kernel's book, place by place: the list of each queue, the activity of each worker, and the owner of each lock.
use Rattle.std.specs.Prelude.{◌≡◌, ◌≢◌, ◌<◌, ◌≤◌, ℕ, List, [], ◌∷◌, ◌++◌, Bool, true, not, ◌==◌, if◌then◌else◌, Option, Some, None, length, get_or, slice_get, vec_len, vec_capacity}
use Rattle.aos_base.specs.declared.limits.TheConstants.{MOST_LIVE}
use Rattle.aos_base.specs.declared.kernel.Outcome.{Outcome}
use Rattle.aos_base.specs.declared.kernel.Outcome.TheVariants.{Going, Ended, Dead, Spent}
use Rattle.aos_base.specs.declared.kernel.LockName.{LockName}
use Rattle.aos_base.specs.declared.priority.Priority.{Priority}
use Rattle.aos_base.specs.Lock.{is_lock, Waiting, Wants, Entry, enters}
use Rattle.aos_base.specs.Book as book
use Rattle.aos_base.specs.Book.{Stand, put, is_on, is_ready, is_at_lock, waiting, place_of, leave_line, move}
use Rattle.aos_queue.specs.Lists.{IsOnce, room_of}
use Rattle.aos_lock.specs.declared.lock.Entered.{Entered}
use Rattle.aos_lock.specs.declared.lock.Entered.TheVariants.{Taken, Waits, Recursive}
use Rattle.aos_lock.specs.declared.lock.Passed.{Passed}
use Rattle.aos_lock.specs.declared.lock.Passed.TheVariants.{Waiter, Entrant, Free}
use Rattle.aos_lock.specs.Waits.{count_of, owner_of, StandsFor, Belong as LocksBelong}
use Rattle.aos_ready.specs.Order.{number_of as priority_number, ready_in, Belong as ReadyBelong}
use Rattle.aos_scheduler.specs.declared.run_state.RunState.{RunState}
use Rattle.aos_scheduler.specs.declared.run_state.RunState.TheVariants.{Nowhere, On, Ready, At}
use Rattle.aos_scheduler.specs.declared.line.Line.{Line}
use Rattle.aos_scheduler.specs.Numbers.{number_of}

-- those whose place passes a test, in their order
abbrev pub standing : (book.RunState → Bool) → List Stand → List ℕ
standing at [] = []
standing at (s ∷ line) = if at s.place then s.activity ∷ standing at line else standing at line

abbrev pub anywhere : book.RunState → Bool
anywhere p = true

-- ready, or on a worker
abbrev pub is_awake : book.RunState → Bool
is_awake p = not (is_at_lock p)

-- the activity of a worker, as a list
abbrev pub of_worker : Option ℕ → List ℕ
of_worker None = []
of_worker (Some a) = a ∷ []

-- where each activity that was started stands, as it is kept
abbrev pub places_of : Line → List RunState
places_of l = l.places.items

-- how many activities have been started
abbrev pub started_of : Line → ℕ
started_of l = length (places_of l)

-- how many of them haven't ended
abbrev pub live_of : Line → ℕ
live_of l = l.live

-- the activity of a worker
abbrev pub running_of : Line → ℕ → Option ℕ
running_of l w = get_or l.running w None

-- where an activity stands, as it is kept; the number of a condition is not
abbrev pub HasRunState : RunState → Option book.RunState → Type 0
HasRunState Nowhere p = p ≡ None
HasRunState (On w) p = p ≡ Some (book.On w)
HasRunState (Ready q) p = p ≡ Some (book.Ready (priority_number q))
HasRunState (At l awaits) p = (wants : Wants) × (p ≡ Some (book.At l wants)) × (awaits ≡ not (enters wants))

-- a lock, by its number: it stands for those who wait, its entrants and its waiters each in their order, and has this owner. For one
-- without a number nobody waits
abbrev pub HasLock : Line → Option ℕ → List Waiting → Option ℕ → Type 0
HasLock l None es owner = (es ≡ []) × (owner ≡ None)
HasLock l (Some n) es owner =
    (n < count_of l.locks) × StandsFor l.links l.locks n es × (owner_of l.locks n ≡ owner)

-- the line, and the owners of locks
pub record Stands (l : Line) (line : List Stand) (owner : LockName → Option ℕ) : Type 0 where
  pub once : IsOnce (standing anywhere line)
  pub places : (x : ℕ) → HasRunState (get_or l.places.items x Nowhere) (place_of line x)
  pub live : length (standing anywhere line) ≡ l.live
  pub awake : length (standing is_awake line) ≡ l.awake
  pub few : l.live ≤ MOST_LIVE
  pub running : (w : ℕ) → standing (is_on w) line ≡ of_worker (get_or l.running w None)
  pub ready : (p : Priority) → standing (is_ready (priority_number p)) line ≡ ready_in l.links l.ready p
  pub locks : (k : LockName) → HasLock l (number_of l.numbers k) (waiting k line) (owner k)
  pub named : (n : ℕ) → n < count_of l.locks → (k : LockName) × (number_of l.numbers k ≡ Some n)
  pub apart : (k j : LockName) (n : ℕ) → number_of l.numbers k ≡ Some n → number_of l.numbers j ≡ Some n → k ≡ j
  pub room : length l.places.items ≤ room_of l.links
  pub queues : ReadyBelong l.links l.ready
  pub waits : LocksBelong l.links l.locks

-- it has some line and some owners
pub record IsStood (l : Line) : Type 0 where
  pub line : List Stand
  pub owner : LockName → Option ℕ
  pub stands : Stands l line owner

-- an activity stands on a worker
pub record IsOn (l : Line) (a : ℕ) : Type 0 where
  pub stood : IsStood l
  pub worker : ℕ
  pub fits : worker < 16
  pub at : slice_get l.places.items a ≡ Some (On worker)

-- a started activity stands nowhere, and there is room for one that lives
pub record IsNowhere (l : Line) (a : ℕ) : Type 0 where
  pub stood : IsStood l
  pub at : slice_get l.places.items a ≡ Some Nowhere
  pub room : l.live < MOST_LIVE

-- how far the execution is, where so many live and so many of these wait for no lock
abbrev pub outcome_by : (live awake : ℕ) → Bool → Outcome
outcome_by live awake spent = if live == 0 then Ended else if spent then Spent else if awake == 0 then Dead else Going

-- there is room for one activity more
pub record HasRoomMore (l : Line) : Type 0 where
  pub places : vec_len l.places < vec_capacity l.places
  pub links : length l.places.items < room_of l.links

-- this holds of whatever line is shown
abbrev pub OfLine : Line → (List Stand → Type 0) → Type 0
OfLine l P = (line : List Stand) (owner : LockName → Option ℕ) → Stands l line owner → P line

-- whatever was shown, with whatever owners, what becomes of it is shown
abbrev pub Moved : Line → Line → (List Stand → List Stand) → Type 0
Moved old new f = (line : List Stand) (owner : LockName → Option ℕ) → Stands old line owner → Stands new (f line) owner

-- one more stands behind all others
abbrev pub with_last : ℕ → book.RunState → List Stand → List Stand
with_last a place line = line ++ record { activity = a; place = place } ∷ []

-- whatever was shown is shown
abbrev pub StandsSame : Line → Line → Type 0
StandsSame old new = (line : List Stand) (owner : LockName → Option ℕ) → Stands old line owner → Stands new line owner

-- a has asked for the lock k, which has this owner
abbrev pub HasEntered : (new : Line) → Entered → (a : ℕ) (k : LockName) → List Stand → (LockName → Option ℕ) → Type 0
HasEntered new Taken a k line owner = (owner k ≡ None) × Stands new line (put is_lock owner k (Some a))
HasEntered new Recursive a k line owner = (owner k ≡ Some a) × Stands new line owner
HasEntered new Waits a k line owner =
    (b : ℕ) × (owner k ≡ Some b) × (b ≢ a) × Stands new (move a (book.At k Entry) line) owner

-- the line without the one to whom a lock passed
abbrev pub left_by : Passed → List Stand → List Stand
left_by Free line = line
left_by (Entrant b) line = leave_line b line
left_by (Waiter b) line = leave_line b line
