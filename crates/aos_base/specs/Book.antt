-- The kernel's book: where each activity stands, who owns which lock, and what has happened.
use Rattle.std.specs.Prelude.{ℕ, suc, Option, Some, None, List, [], ◌∷◌, ◌++◌, ◌==◌, nat_eq, ◌&&◌, ◌||◌, not, nat_le, length, filter, if◌then◌else◌, Bool, true, false, is_some}
use Rattle.aos_base.specs.declared.limits.TheConstants.{MOST_LIVE, MOST_STARTED}
use Rattle.aos_base.specs.declared.kernel.LockName.{LockName}
use Rattle.aos_base.specs.declared.kernel.Event.{Event}
use Rattle.aos_base.specs.declared.kernel.Event.TheVariants as event
use Rattle.aos_base.specs.declared.kernel.Outcome.{Outcome}
use Rattle.aos_base.specs.declared.kernel.Outcome.TheVariants.{Going, Ended, Dead, Spent}
use Rattle.aos_base.specs.declared.text.Pos.{Pos}
use Rattle.aos_base.specs.Lock.{is_lock, Wants, Waiting}

-- where an activity stands: on a worker, ready at a priority, or in a lock's list
pub data RunState : Type 0 where
  On : (worker : ℕ) → RunState
  Ready : (priority : ℕ) → RunState
  At : (lock : LockName) → (wants : Wants) → RunState

pub record Stand : Type 0 where
  pub activity : ℕ
  pub place : RunState

-- what an activity's next turn is: its own, a trap, the release of a lock or, with none left, its end; none once it has ended
pub data Next : Type 0 where
  Runs : Next
  WillTrap : (number : ℕ) → Next
  Unwinds : (locks : List LockName) → Next
  Gone : Next

pub record Activity : Type 0 where
  pub priority : ℕ
  pub begun : ℕ  -- statements, over all its restarts
  pub restarts : ℕ
  pub next : Next

-- a place in a program's text
pub record Where : Type 0 where
  pub module_ : ℕ
  pub pos : Pos

-- a trap that happened; `restart` counts the restart that follows it, and is 0 where none does; the calls that led to it are told of none
pub record TrapRow : Type 0 where
  pub number : ℕ
  pub code : ℕ
  pub activity : ℕ
  pub at : Where
  pub restart : ℕ
  pub calls : List Where

pub record Book : Type 0 where
  pub budget : ℕ
  pub started : ℕ  -- activities in all
  pub activity : ℕ → Activity
  pub line : List Stand  -- each activity that hasn't ended, in the order in which they came where they stand
  pub owner : LockName → Option ℕ
  pub output : List ℕ
  pub traps : List TrapRow
  pub events : List Event
  pub spent : Option ℕ  -- who began as many statements as the budget

-- f, but v at k; `same` tells whether two keys are one
abbrev pub put : {K A : Type 0} → (K → K → Bool) → (K → A) → K → A → K → A
put same f k v = λ x. if same x k then v else f x

-- Reading

abbrev pub first_at : (RunState → Bool) → List Stand → Option ℕ
first_at at [] = None
first_at at (s ∷ line) = if at s.place then Some s.activity else first_at at line

abbrev pub is_on : ℕ → RunState → Bool
is_on w (On v) = v == w
is_on w (Ready p) = false
is_on w (At l wants) = false

abbrev pub is_ready : ℕ → RunState → Bool
is_ready p (On v) = false
is_ready p (Ready q) = q == p
is_ready p (At l wants) = false

abbrev pub is_at_lock : RunState → Bool
is_at_lock (On v) = false
is_at_lock (Ready q) = false
is_at_lock (At l wants) = true

-- the worker's activity
abbrev pub on_worker : ℕ → List Stand → Option ℕ
on_worker w line = first_at (is_on w) line

abbrev pub or_next : Option ℕ → Option ℕ → Option ℕ
or_next (Some a) other = Some a
or_next None other = other

-- the first ready activity of the highest priority
abbrev pub first_ready : List Stand → Option ℕ
first_ready line = or_next (first_at (is_ready 3) line) (or_next (first_at (is_ready 2) line) (first_at (is_ready 1) line))

abbrev pub wanted : LockName → RunState → Option Wants
wanted l (At k wants) = if is_lock k l then Some wants else None
wanted l (On v) = None
wanted l (Ready q) = None

abbrev pub listed : Option Wants → ℕ → List Waiting → List Waiting
listed None a others = others
listed (Some wants) a others = record { activity = a; wants = wants } ∷ others

-- those who wait for a lock, in the order in which they began
abbrev pub waiting : LockName → List Stand → List Waiting
waiting l [] = []
waiting l (s ∷ line) = listed (wanted l s.place) s.activity (waiting l line)

-- where an activity stands
abbrev pub place_of : List Stand → ℕ → Option RunState
place_of [] a = None
place_of (s ∷ line) a = if a == s.activity then Some s.place else place_of line a

abbrev pub all_at_locks : List Stand → Bool
all_at_locks [] = true
all_at_locks (s ∷ line) = is_at_lock s.place && all_at_locks line

-- Ended where none is left, Spent where one has used up the budget, Dead where all wait, else Going
abbrev pub outcome_of : List Stand → Option ℕ → Outcome
outcome_of [] spent = Ended
outcome_of (s ∷ line) spent = if is_some spent then Spent else if all_at_locks (s ∷ line) then Dead else Going

abbrev pub outcome : Book → Outcome
outcome b = outcome_of b.line b.spent

-- Writing

abbrev pub tell : Event → Book → Book
tell e b = record b { events = b.events ++ e ∷ [] }

abbrev pub leave_line : ℕ → List Stand → List Stand
leave_line a line = filter (λ s. not (s.activity == a)) line

-- the activity stands there from now on, behind all who came before
abbrev pub move : ℕ → RunState → List Stand → List Stand
move a place line = leave_line a line ++ record { activity = a; place = place } ∷ []

unfoldable pub stands : ℕ → RunState → Book → Book
stands a place b = record b { line = move a place b.line }

-- last in the queue of its priority
unfoldable pub ready : ℕ → Book → Book
ready a b = record b { line = move a (Ready (b.activity a).priority) b.line }

unfoldable pub next_is : ℕ → Next → Book → Book
next_is a next b = record b { activity = put nat_eq b.activity a (record (b.activity a) { next = next }) }

unfoldable pub owned_by : LockName → Option ℕ → Book → Book
owned_by l o b = record b { owner = put is_lock b.owner l o }

abbrev pub spent_by : Bool → (budget begun a : ℕ) → Option ℕ → Option ℕ
spent_by true budget begun a spent = if nat_le budget begun then Some a else spent
spent_by false budget begun a spent = spent

-- a turn's output, and its count of statements
unfoldable pub counted : ℕ → List ℕ → Bool → Book → Book
counted a bytes begun b =
    let n = if begun then suc (b.activity a).begun else (b.activity a).begun in
    record b {
      output = b.output ++ bytes;
      activity = put nat_eq b.activity a (record (b.activity a) { begun = n });
      spent = spent_by begun b.budget n a b.spent;
    }

-- an activity that has restarted this often may restart once more
abbrev pub may_restart : ℕ → Bool
may_restart restarts = nat_le (suc restarts) 8

-- a trap is recorded, and the locks that the activity owns are released from now on
unfoldable pub trapped : ℕ → (number code : ℕ) → Where → (locks : List LockName) → (safe : Bool) → Book → Book
trapped a number code at locks safe b =
    let r = (b.activity a).restarts in
    let restart = if safe && may_restart r then suc r else 0 in
    let row : TrapRow = record { number = number; code = code; activity = a; at = at; restart = restart; calls = [] } in
    next_is a (Unwinds locks) (tell (event.Trap a number) (record b { traps = b.traps ++ row ∷ [] }))

unfoldable pub ended : ℕ → Book → Book
ended a b = next_is a Gone (tell (event.End a) (record b { line = leave_line a b.line }))

unfoldable pub restarted : ℕ → Book → Book
restarted a b =
    let r = (b.activity a).restarts in
    record b { activity = put nat_eq b.activity a (record (b.activity a) { next = Runs; restarts = suc r }) }

-- a new activity, ready
unfoldable pub born : ℕ → Book → Book
born priority b =
    let a = b.started in
    tell (event.Start a) (record b {
      started = suc a;
      activity = put nat_eq b.activity a (record { priority = priority; begun = 0; restarts = 0; next = Runs });
      line = move a (Ready priority) b.line;
    })

-- the most activities live, or have been started
abbrev pub is_full : Book → Bool
is_full b = nat_le MOST_LIVE (length b.line) || nat_le MOST_STARTED b.started

-- nothing has happened yet: activity 0 is ready, and no lock is owned
abbrev pub first_book : ℕ → Book
first_book budget =
    let none : Activity = record { priority = 2; begun = 0; restarts = 0; next = Gone } in
    record {
      budget = budget;
      started = 1;
      activity = put nat_eq (λ _. none) 0 (record none { next = Runs });
      line = record { activity = 0; place = Ready 2 } ∷ [];
      owner = λ _. None;
      output = [];
      traps = [];
      events = [];
      spent = None;
    }
