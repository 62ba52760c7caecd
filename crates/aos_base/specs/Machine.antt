-- Activities of any kind under one kernel: a machine says what an activity does, and this file the rest
-- (Muller 2002: the scheduler, monitors with conditions, and traps of the Active Object System).
use Rattle.std.specs.Prelude.{ℕ, Option, Some, None, List, [], ◌∷◌, ◌==◌, nat_eq, if◌then◌else◌, Bool, true, false, is_some}
use Rattle.aos_base.specs.declared.kernel.LockName.{LockName}
use Rattle.aos_base.specs.declared.kernel.Verdict.{Verdict}
use Rattle.aos_base.specs.declared.kernel.Verdict.TheVariants.{Holds, Fails, Traps}
use Rattle.aos_base.specs.declared.kernel.Event.TheVariants as event
use Rattle.aos_base.specs.declared.kernel.Outcome.{Outcome}
use Rattle.aos_base.specs.declared.kernel.Outcome.TheVariants as outcome_is
use Rattle.aos_base.specs.declared.kernel.Did.{Did}
use Rattle.aos_base.specs.declared.kernel.Did.TheVariants.{Went, Ended, Enter, Leave, Await, Start, Trapped}
use Rattle.aos_base.specs.Lock.{Entry, Condition, Heir, Nobody, Entrant, Waiter, Trapping, heir}
use Rattle.aos_base.specs.Book.{On, At, Next, Runs, WillTrap, Unwinds, Gone, Where, Book, put, on_worker, first_ready, waiting, outcome, tell, stands, ready, next_is, owned_by, counted, may_restart, trapped, ended, restarted, born, is_full, first_book}

-- a choice of a schedule: a step of a worker, or a tick of it
pub data Choice : Type 0 where
  Step : (worker : ℕ) → Choice
  Tick : (worker : ℕ) → Choice

-- one turn of an activity, up to the kernel's part
pub record Turn (S F : Type 0) : Type 0 where
  pub store : S
  pub frames : F
  pub output : List ℕ
  pub begun : Bool  -- whether a statement was begun
  pub left : Did  -- what is left to the kernel

-- S: stores, which all activities share; F: an activity's frames
pub record Machine (S F : Type 0) : Type 0 where
  pub turn : S → F → Turn S F
  pub past : F → F  -- past the work that was left to the kernel
  pub verdict : S → F → ℕ → Verdict  -- of a condition, over its waiter's frames
  pub regions : F → List LockName  -- the locks of the open regions, the latest entered first
  pub position : F → Where
  pub body : S → ℕ → F  -- the frames with which an object's activity begins
  pub priority : S → ℕ → ℕ
  pub anew : F → Option F  -- those with which it begins anew after a trap, if its body is SAFE

pub record State (S F : Type 0) : Type 0 where
  pub store : S
  pub frames : ℕ → F  -- of each activity
  pub book : Book

-- nothing has happened yet; activity 0 begins with these frames
abbrev pub start_of : {S F : Type 0} → S → F → ℕ → State S F
start_of s f budget = record { store = s; frames = λ _. f; book = first_book budget }

module _ {S F : Type 0} where
  abbrev pub on_book : (Book → Book) → State S F → State S F
  on_book write st = record st { book = write st.book }

  abbrev pub with_frames : ℕ → F → State S F → State S F
  with_frames a f st = record st { frames = put nat_eq st.frames a f }

  -- after a trap and its releases: once more from the beginning, or the end
  abbrev pub finish : ℕ → Bool → Option F → State S F → State S F
  finish a true (Some f) st = on_book (restarted a) (with_frames a f st)
  finish a true None st = on_book (ended a) st
  finish a false anew st = on_book (ended a) st

  abbrev pub dispatch : ℕ → Option ℕ → State S F → State S F
  dispatch w None st = st
  dispatch w (Some a) st = on_book (stands a (On w)) st

  abbrev pub tick_of : Option ℕ → State S F → State S F
  tick_of None st = st
  tick_of (Some a) st = on_book (ready a) st

  -- nothing changes once the outcome isn't Going
  abbrev pub if_going : Outcome → State S F → State S F → State S F
  if_going outcome_is.Going next st = next
  if_going outcome_is.Ended next st = st
  if_going outcome_is.Dead next st = st
  if_going outcome_is.Spent next st = st

module _ {S F : Type 0} (m : Machine S F) where
  -- the kernel's part is done: the activity goes on behind it
  unfoldable pub go_past : ℕ → State S F → State S F
  go_past a st = with_frames a (m.past (st.frames a)) st

  unfoldable pub trap : ℕ → (number code : ℕ) → State S F → State S F
  trap a number code st =
      let f = st.frames a in
      on_book (trapped a number code (m.position f) (m.regions f) (is_some (m.anew f))) st

  -- the lock l passes from its owner a to its heir, who owns it and is ready
  abbrev pub pass : ℕ → LockName → Heir → State S F → State S F
  pass a l Nobody st = on_book (tell (event.Free l a)) st
  pass a l (Entrant b) st = go_past b (on_book (λ k. ready b (owned_by l (Some b) (tell (event.Pass l a b false) k))) st)
  pass a l (Waiter b) st = go_past b (on_book (λ k. ready b (owned_by l (Some b) (tell (event.Pass l a b true) k))) st)
  pass a l (Trapping b n) st =
      on_book (λ k. next_is b (WillTrap n) (ready b (owned_by l (Some b) (tell (event.Pass l a b true) k)))) st

  -- a gives up the lock l, and each waiter's condition is evaluated over its own frames
  unfoldable pub release : ℕ → LockName → State S F → State S F
  release a l st =
      let verdict = λ (b c : ℕ). m.verdict st.store (st.frames b) c in
      pass a l (heir verdict (waiting l st.book.line)) (on_book (owned_by l None) st)

  -- a free lock is taken, its owner traps, and any other waits
  abbrev pub enter : ℕ → LockName → Option ℕ → State S F → State S F
  enter a l None st = go_past a (on_book (λ k. owned_by l (Some a) (tell (event.Enter l a) k)) st)
  enter a l (Some b) st =
      if b == a then trap a 9 0 st else on_book (λ k. stands a (At l Entry) (tell (event.Wait l a false) k)) st

  -- where the condition fails, the activity joins the waiters and releases the lock
  abbrev pub await : ℕ → LockName → ℕ → Verdict → State S F → State S F
  await a l c Holds st = go_past a st
  await a l c (Traps n) st = trap a n 0 st
  await a l c Fails st = release a l (on_book (λ k. stands a (At l (Condition c)) (tell (event.Wait l a true) k)) st)

  -- a new activity for the object o, where there is room for one
  abbrev pub start : ℕ → ℕ → Bool → State S F → State S F
  start a o true st = trap a 13 0 st
  start a o false st =
      go_past a (on_book (born (m.priority st.store o)) (with_frames st.book.started (m.body st.store o) st))

  -- the kernel's part of a turn
  abbrev pub serve : ℕ → Did → State S F → State S F
  serve a Went st = st
  serve a Ended st = on_book (ended a) st
  serve a (Enter l) st = enter a l (st.book.owner l) st
  serve a (Leave l) st = release a l (go_past a st)
  serve a (Await l c) st = await a l c (m.verdict st.store (st.frames a) c) st
  serve a (Start o) st = start a o (is_full st.book) st
  serve a (Trapped n c) st = trap a n c st

  -- the activity's own part of a turn
  unfoldable pub turned : ℕ → Turn S F → State S F → State S F
  turned a t st =
      record {
        store = t.store;
        frames = put nat_eq st.frames a t.frames;
        book = counted a t.output t.begun st.book;
      }

  -- one turn: its own, a trap that is due, the release of a lock after a trap, or what follows the last release
  abbrev pub turn_by : ℕ → Next → State S F → State S F
  turn_by a Runs st = let t = m.turn st.store (st.frames a) in serve a t.left (turned a t st)
  turn_by a (WillTrap n) st = trap a n 0 st
  turn_by a (Unwinds (l ∷ locks)) st = release a l (on_book (next_is a (Unwinds locks)) st)
  turn_by a (Unwinds []) st = finish a (may_restart (st.book.activity a).restarts) (m.anew (st.frames a)) st
  turn_by a Gone st = st

  -- a turn of the worker's activity, or a dispatch
  abbrev pub step_of : ℕ → Option ℕ → State S F → State S F
  step_of w (Some a) st = turn_by a (st.book.activity a).next st
  step_of w None st = dispatch w (first_ready st.book.line) st

  abbrev pub happens_in : Choice → State S F → State S F
  happens_in (Step w) st = step_of w (on_worker w st.book.line) st
  happens_in (Tick w) st = tick_of (on_worker w st.book.line) st

  unfoldable pub happens : Choice → State S F → State S F
  happens c st = if_going (outcome st.book) (happens_in c st) st

  -- a whole schedule
  abbrev pub execution : List Choice → State S F → State S F
  execution [] st = st
  execution (c ∷ cs) st = execution cs (happens c st)
