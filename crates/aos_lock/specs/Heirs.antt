-- What a lock answers: to one who asks for it, and where it goes when its owner leaves it.
use Rattle.std.specs.Prelude.{◌++◌, ℕ, List, map, [], ◌∷◌, Option, Some, None, Bool, true, false, cond}
use Rattle.aos_base.specs.declared.kernel.Verdict.{Verdict}
use Rattle.aos_base.specs.declared.kernel.Verdict.TheVariants.{Holds, Fails, Traps}
use Rattle.aos_base.specs.Lock.{Waiting, Entry, Condition, Heir, Nobody, Entrant, Waiter, Trapping, heir}
use Rattle.aos_queue.specs.Lists.{without}
use Rattle.aos_lock.specs.declared.lock.Entered.{Entered}
use Rattle.aos_lock.specs.declared.lock.Entered.TheVariants.{Taken, Waits, Recursive}
use Rattle.aos_lock.specs.declared.lock.Passed.{Passed}
use Rattle.aos_lock.specs.declared.lock.Passed.TheVariants.{Waiter as ToWaiter, Entrant as ToEntrant, Free}

-- one who is to enter
abbrev pub entrant : ℕ → Waiting
entrant a = record { activity = a; wants = Entry }

-- one who awaits a condition. A lock knows the condition by its waiter: its number is the waiter's own
abbrev pub waiter : ℕ → Waiting
waiter a = record { activity = a; wants = Condition a }

-- a list of those who wait that has these entrants and these waiters, each in their order
abbrev pub queued : List ℕ → List ℕ → List Waiting
queued es ws = map entrant es ++ map waiter ws

-- what a waiter's condition comes to, by the waiter's number alone
abbrev pub by_waiter : (ℕ → Verdict) → ℕ → ℕ → Verdict
by_waiter verdict a condition = verdict a

-- who gets a lock for which these wait
abbrev pub heir_by : (ℕ → Verdict) → List Waiting → Heir
heir_by verdict es = heir (by_waiter verdict) es

-- the answer where this heir gets the lock; one whose condition traps gets it as a waiter
abbrev pub passed_to : Heir → Passed
passed_to Nobody = Free
passed_to (Entrant a) = ToEntrant a
passed_to (Waiter a) = ToWaiter a
passed_to (Trapping a n) = ToWaiter a

-- the owner after a release
abbrev pub new_owner : Passed → Option ℕ
new_owner (ToWaiter a) = Some a
new_owner (ToEntrant a) = Some a
new_owner Free = None

-- a list without the one to whom a lock has passed
abbrev pub after_passed : Passed → List ℕ → List ℕ
after_passed (ToWaiter a) ns = without a ns
after_passed (ToEntrant a) ns = without a ns
after_passed Free ns = ns

-- whether a waiter is served whose condition comes to this: unless it fails
abbrev pub serves : Verdict → Bool
serves Holds = true
serves Fails = false
serves (Traps n) = true

-- the first of these waiters that is served
abbrev pub first_served : (ℕ → Verdict) → List ℕ → Option ℕ
first_served verdict [] = None
first_served verdict (w ∷ ws) = cond (serves (verdict w)) (Some w) (first_served verdict ws)

-- where a lock goes that has these entrants, if no waiter is served
abbrev pub to_first : List ℕ → Passed
to_first [] = Free
to_first (e ∷ es) = ToEntrant e

-- the owner after a call of enter
abbrev pub entered_owner : Entered → ℕ → Option ℕ → Option ℕ
entered_owner Taken a owner = Some a
entered_owner Waits a owner = owner
entered_owner Recursive a owner = owner

-- whether who called enter waits then
abbrev pub does_wait : Entered → Bool
does_wait Taken = false
does_wait Waits = true
does_wait Recursive = false

-- a list with one more behind all others, or as it was
abbrev pub joined : Bool → ℕ → List ℕ → List ℕ
joined true a ns = ns ++ a ∷ []
joined false a ns = ns
