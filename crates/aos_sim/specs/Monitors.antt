-- What holds of the locks of a program in every state of every execution, and at each entry of its schedule (Muller 2002, on the
-- monitors of the Active Object System).
use Rattle.std.specs.Prelude.{◌≡◌, ◌≢◌, ℕ, nat_eq, List, [], ◌∷◌, ◌++◌, Option, Some, None, false}
use Rattle.aos_base.specs.declared.kernel.LockName.{LockName}
use Rattle.aos_base.specs.declared.kernel.Verdict.TheVariants.{Fails}
use Rattle.aos_base.specs.declared.kernel.Did.TheVariants.{Leave, Await}
use Rattle.aos_base.specs.declared.kernel.Outcome.TheVariants.{Going, Dead}
use Rattle.aos_base.specs.Lock.{is_lock, Wants, Entry, Condition, Waiting, Heir, Nobody, Entrant, Waiter, Trapping, heir, after_heir}
use Rattle.aos_base.specs.Book.{Book, put, Ready, At, Runs, Unwinds, Gone, place_of, waiting, outcome}
use Rattle.aos_base.specs.Machine.{Choice, Machine, State, happens, execution}
use Rattle.aos_concurrency.specs.Mutual.{IsInRegion}
use Rattle.aos_concurrency.specs.Orderly.{Distinct}
use Rattle.aos_concurrency.specs.Traps.{turn_of, RecordsTraps, AreTold}
use Rattle.aos_typed.specs.Program.{Program}
use Rattle.aos_typed.specs.Source.{source, first_state}

-- whom a release gives the lock
abbrev pub owner_in : Heir → Option ℕ
owner_in Nobody = None
owner_in (Entrant a) = Some a
owner_in (Waiter a) = Some a
owner_in (Trapping a n) = Some a

-- From one book to the next a lock, for which these wait at its release, passes to this heir, who owns it, has left the list and is ready
-- at its own priority; all others of the list stay, and so do all other locks.
pub record IsPassed (old new : Book) (l : LockName) (es : List Waiting) (to : Heir) : Type 0 where
  pub owner : new.owner l ≡ owner_in to
  pub list : waiting l new.line ≡ after_heir to es
  pub ready : (a : ℕ) → owner_in to ≡ Some a → place_of new.line a ≡ Some (Ready (old.activity a).priority)
  pub others : (k : LockName) → is_lock k l ≡ false → (new.owner k ≡ old.owner k) × (waiting k new.line ≡ waiting k old.line)

module _ {S F : Type 0} (m : Machine S F) where
  -- past the entry of a region of the lock, and not waiting for a condition there
  pub record IsInside (st : State S F) (a : ℕ) (l : LockName) : Type 0 where
    pub inside : IsInRegion m st a l
    pub awake : (k : ℕ) → place_of st.book.line a ≢ Some (At l (Condition k))

  -- a state
  pub record AreMonitors (st : State S F) : Type 0 where
    -- at most one activity is in a lock's regions and waits for no condition there, and it is the owner
    pub alone : (a b : ℕ) (l : LockName) → IsInside st a l → IsInside st b l → a ≡ b
    pub owner : (a : ℕ) (l : LockName) → IsInside st a l → st.book.owner l ≡ Some a
    -- a lock with an entrant has an owner
    pub served : (a : ℕ) (l : LockName) → place_of st.book.line a ≡ Some (At l Entry) → st.book.owner l ≢ None
    -- an activity that has ended owns nothing, and stands nowhere
    pub ended : (a : ℕ) → (st.book.activity a).next ≡ Gone → (place_of st.book.line a ≡ None) × ((l : LockName) → st.book.owner l ≢ Some a)
    -- each activity stands in one place at most: on a worker, among those who are ready, or in the list of one lock
    pub once : Distinct st.book.line
    -- the trap lines are those of the traps that were told, in their order
    pub traps : AreTold st.book
    -- where the outcome is Dead, each activity that hasn't ended stands in a lock's list
    pub dead : outcome st.book ≡ Dead → (a : ℕ) → (st.book.activity a).next ≢ Gone → (l : LockName) × (w : Wants) × (place_of st.book.line a ≡ Some (At l w))

  -- an entry of a schedule at which an activity releases a lock: its turn comes to the end of the lock's region, or the activity has trapped
  -- and this lock is the next that it gives up
  pub data Releases (c : Choice) (st : State S F) (a : ℕ) (l : LockName) : Type 0 where
    Leaving : outcome st.book ≡ Going → turn_of c st.book ≡ Some a → (st.book.activity a).next ≡ Runs → (m.turn st.store (st.frames a)).left ≡ Leave l → Releases c st a l
    Unwinding : (locks : List LockName) → outcome st.book ≡ Going → turn_of c st.book ≡ Some a → (st.book.activity a).next ≡ Unwinds (l ∷ locks) → Releases c st a l

  -- each release gives the lock to the first waiter in its list whose condition holds or traps over its own frames, else to the first
  -- entrant, else to nobody
  abbrev pub ReleasesInOrder : Choice → State S F → Type 0
  ReleasesInOrder c st =
      let next = happens m c st in
      (a : ℕ) (l : LockName) → Releases c st a l
      → let es = waiting l st.book.line in IsPassed st.book next.book l es (heir (λ b k. m.verdict next.store (st.frames b) k) es)

  -- an entry at which an activity awaits a condition of this number, which fails in the state that its turn leaves
  pub record Awaits (c : Choice) (st : State S F) (a : ℕ) (l : LockName) (k : ℕ) : Type 0 where
    pub going : outcome st.book ≡ Going
    pub turn : turn_of c st.book ≡ Some a
    pub runs : (st.book.activity a).next ≡ Runs
    pub left : (m.turn st.store (st.frames a)).left ≡ Await l k
    pub fails : m.verdict (m.turn st.store (st.frames a)).store (m.turn st.store (st.frames a)).frames k ≡ Fails

  -- then it stands last among those who wait, and gives the lock to whom a release gives it; all conditions are evaluated in that state,
  -- its own too
  abbrev pub AwaitsInOrder : Choice → State S F → Type 0
  AwaitsInOrder c st =
      let next = happens m c st in
      (a : ℕ) (l : LockName) (k : ℕ) → Awaits c st a l k
      → let es = waiting l st.book.line ++ record { activity = a; wants = Condition k } ∷ [] in
      let frames = put nat_eq st.frames a (m.turn st.store (st.frames a)).frames in
      IsPassed st.book next.book l es (heir (λ b j. m.verdict next.store (frames b) j) es)

  -- a state, and each entry that may follow: a trap line is added exactly where the entry's turn traps
  pub record AreKept (st : State S F) : Type 0 where
    pub monitors : AreMonitors st
    pub releases : (c : Choice) → ReleasesInOrder c st
    pub awaits : (c : Choice) → AwaitsInOrder c st
    pub traps : (c : Choice) → RecordsTraps m c st

-- every state of every execution of a program
abbrev pub HasMonitors : Program → Type 0
HasMonitors p = (budget : ℕ) (choices : List Choice) → AreKept (source p) (execution (source p) choices (first_state p budget))
