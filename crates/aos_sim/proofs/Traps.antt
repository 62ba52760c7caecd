-- Where each trap of a machine's own is of a kind, and the kernel's two are, so is each trap of its executions.
use Rattle.std.proofs.Common.{ℕ, List, [], ◌∷◌, Bool, true, false}
use Rattle.std.specs.Prelude.{nat_eq, if◌then◌else◌, Option, Some, None, All}
use Rattle.std.proofs.lemmas.List.Elements.{All-nil, All-cons, All-append}
use Rattle.aos_base.specs.declared.kernel.LockName.{LockName}
use Rattle.aos_base.specs.declared.kernel.Verdict.{Verdict}
use Rattle.aos_base.specs.declared.kernel.Verdict.TheVariants.{Holds, Fails, Traps}
use Rattle.aos_base.specs.declared.kernel.Did.{Did}
use Rattle.aos_base.specs.declared.kernel.Did.TheVariants.{Went, Ended, Enter, Leave, Await, Start, Trapped}
use Rattle.aos_base.specs.declared.kernel.Event.TheVariants as event
use Rattle.aos_base.specs.declared.kernel.Outcome.TheVariants as outcome_is
use Rattle.aos_base.specs.Lock.{Wants, Entry, Condition, Waiting, Heir, Nobody, Entrant, Waiter, Trapping, heir, judged, served, first_waiter, entering, first_entrant, or_else}
use Rattle.aos_base.specs.Book.{RunState, On, At, Next, Runs, WillTrap, Unwinds, Gone, Activity, Where, Book, TrapRow, put, tell, waiting, stands, ready, next_is, owned_by, counted, trapped, ended, restarted, born, on_worker, first_ready, is_full, may_restart, outcome, first_book}
use Rattle.aos_base.specs.Machine.{Choice, Step, Tick, Machine, State, start_of, on_book, go_past, pass, release, trap, enter, await, start, serve, turned, finish, turn_by, dispatch, step_of, tick_of, happens_in, if_going, happens, execution}

module _ (P : ℕ → Type 0) where
  -- what is left to the kernel is no trap but one with P; and so a verdict, a next turn, and an heir of a lock
  abbrev pub Leaves : Did → Type 0
  Leaves Went = Unit {0}
  Leaves Ended = Unit {0}
  Leaves (Enter l) = Unit {0}
  Leaves (Leave l) = Unit {0}
  Leaves (Await l c) = Unit {0}
  Leaves (Start o) = Unit {0}
  Leaves (Trapped n c) = P n

  abbrev pub Judges : Verdict → Type 0
  Judges Holds = Unit {0}
  Judges Fails = Unit {0}
  Judges (Traps n) = P n

  abbrev Due : Next → Type 0
  Due Runs = Unit {0}
  Due (WillTrap n) = P n
  Due (Unwinds locks) = Unit {0}
  Due Gone = Unit {0}

  abbrev Inherits : Heir → Type 0
  Inherits Nobody = Unit {0}
  Inherits (Entrant a) = Unit {0}
  Inherits (Waiter a) = Unit {0}
  Inherits (Trapping a n) = P n

  -- each trap that happened has P, and each that is due
  pub record TrapsWith (b : Book) : Type 0 where
    pub rows : All (λ t. P t.number) b.traps
    pub due : (a : ℕ) → Due (b.activity a).next

  is_served : (v : Verdict) (a : ℕ) (h : Heir) → Judges v → Inherits h → Inherits (served v a h)
  is_served Holds a h judged others = tt
  is_served Fails a h judged others = others
  is_served (Traps n) a h judged others = judged

  of_wants : (verdict : ℕ → ℕ → Verdict) → ((b c : ℕ) → Judges (verdict b c)) → (a : ℕ) (w : Wants) → Judges (judged verdict a w)
  of_wants verdict each a Entry = tt
  of_wants verdict each a (Condition c) = each a c

  of_waiters : (verdict : ℕ → ℕ → Verdict) → ((b c : ℕ) → Judges (verdict b c)) → (es : List Waiting) → Inherits (first_waiter verdict es)
  of_waiters verdict each [] = tt
  of_waiters verdict each (e ∷ es) = is_served (judged verdict e.activity e.wants) e.activity (first_waiter verdict es) (of_wants verdict each e.activity e.wants) (of_waiters verdict each es)

  of_entering : (w : Wants) (a : ℕ) (h : Heir) → Inherits h → Inherits (entering w a h)
  of_entering Entry a h others = tt
  of_entering (Condition c) a h others = others

  of_entrants : (es : List Waiting) → Inherits (first_entrant es)
  of_entrants [] = tt
  of_entrants (e ∷ es) = of_entering e.wants e.activity (first_entrant es) (of_entrants es)

  either : (h k : Heir) → Inherits h → Inherits k → Inherits (or_else h k)
  either Nobody k first second = second
  either (Entrant a) k first second = tt
  either (Waiter a) k first second = tt
  either (Trapping a n) k first second = first

  of_heir : (verdict : ℕ → ℕ → Verdict) → ((b c : ℕ) → Judges (verdict b c)) → (es : List Waiting) → Inherits (heir verdict es)
  of_heir verdict each es = either (first_waiter verdict es) (first_entrant es) (of_waiters verdict each es) (of_entrants es)

  -- The book

  due_put : (activity : ℕ → Activity) (a : ℕ) (v : Activity) → ((x : ℕ) → Due (activity x).next) → Due v.next → (x : ℕ) → Due (put nat_eq activity a v x).next
  due_put activity a v each own x =
      elim (nat_eq x a) as (λ q. Due (if q then v else activity x).next) [
        | true ↦ own
        | false ↦ each x
      ]

  next_with : (a : ℕ) (n : Next) (b : Book) → Due n → TrapsWith b → TrapsWith (next_is a n b)
  unfolding next_is
  next_with a n b own h = record { rows = h.rows; due = due_put b.activity a (record (b.activity a) { next = n }) h.due own }

  counted_with : (a : ℕ) (bytes : List ℕ) (begun : Bool) (b : Book) → TrapsWith b → TrapsWith (counted a bytes begun b)
  unfolding counted
  counted_with a bytes begun b h = record { rows = h.rows; due = due_put b.activity a _ h.due (h.due a) }

  trapped_with : (a n c : ℕ) (at : Where) (locks : List LockName) (safe : Bool) (b : Book) → P n → TrapsWith b → TrapsWith (trapped a n c at locks safe b)
  unfolding trapped next_is
  trapped_with a n c at locks safe b own h =
      record {
        rows = All-append (λ (t : TrapRow). P t.number) b.traps _ h.rows (All-cons (λ (t : TrapRow). P t.number) _ [] own (All-nil (λ (t : TrapRow). P t.number)));
        due = due_put b.activity a _ h.due tt;
      }

  ended_with : (a : ℕ) (b : Book) → TrapsWith b → TrapsWith (ended a b)
  unfolding ended next_is
  ended_with a b h = record { rows = h.rows; due = due_put b.activity a _ h.due tt }

  restarted_with : (a : ℕ) (b : Book) → TrapsWith b → TrapsWith (restarted a b)
  unfolding restarted
  restarted_with a b h = record { rows = h.rows; due = due_put b.activity a _ h.due tt }

  born_with : (priority : ℕ) (b : Book) → TrapsWith b → TrapsWith (born priority b)
  unfolding born
  born_with priority b h = record { rows = h.rows; due = due_put b.activity b.started _ h.due tt }

  stands_with : (a : ℕ) (place : RunState) (b : Book) → TrapsWith b → TrapsWith (stands a place b)
  unfolding stands
  stands_with a place b h = record { rows = h.rows; due = h.due }

  ready_with : (a : ℕ) (b : Book) → TrapsWith b → TrapsWith (ready a b)
  unfolding ready
  ready_with a b h = record { rows = h.rows; due = h.due }

  first_with : (budget : ℕ) → TrapsWith (first_book budget)
  first_with budget = record { rows = All-nil (λ (t : TrapRow). P t.number); due = due_put _ 0 _ (λ x. tt) tt }

  -- the traps of the machine's own turns and conditions have P
  pub record OwnTraps {S F : Type 0} (m : Machine S F) : Type 0 where
    pub turn : (s : S) (f : F) → Leaves (m.turn s f).left
    pub verdict : (s : S) (f : F) (c : ℕ) → Judges (m.verdict s f c)

  module _ {S F : Type 0} (m : Machine S F) (owner : P 9) (full : P 13) (own : OwnTraps m) where
    abbrev With : State S F → Type 0
    With st = TrapsWith st.book

    past_with : (a : ℕ) (st : State S F) → With st → With (go_past m a st)
    unfolding go_past
    past_with a st h = h

    trap_with : (a n c : ℕ) (st : State S F) → P n → With st → With (trap m a n c st)
    unfolding trap
    trap_with a n c st p h = trapped_with a n c _ _ _ st.book p h

    pass_with : (a : ℕ) (l : LockName) (h : Heir) (st : State S F) → Inherits h → With st → With (pass m a l h st)
    unfolding go_past next_is ready owned_by
    pass_with a l Nobody st inherits h = record { rows = h.rows; due = h.due }
    pass_with a l (Entrant b) st inherits h = record { rows = h.rows; due = h.due }
    pass_with a l (Waiter b) st inherits h = record { rows = h.rows; due = h.due }
    pass_with a l (Trapping b n) st inherits h = record { rows = h.rows; due = due_put st.book.activity b _ h.due inherits }

    release_with : (a : ℕ) (l : LockName) (st : State S F) → With st → With (release m a l st)
    unfolding release owned_by
    release_with a l st h =
        let verdict : ℕ → ℕ → Verdict = λ b c. m.verdict st.store (st.frames b) c in
        pass_with a l (heir verdict (waiting l st.book.line)) _ (of_heir verdict (λ b c. own.verdict st.store (st.frames b) c) (waiting l st.book.line)) (record { rows = h.rows; due = h.due })

    enter_with : (a : ℕ) (l : LockName) (o : Option ℕ) (st : State S F) → With st → With (enter m a l o st)
    unfolding go_past owned_by stands
    enter_with a l None st h = record { rows = h.rows; due = h.due }
    enter_with a l (Some b) st h =
        elim (nat_eq b a) as (λ q. With (if q then trap m a 9 0 st else on_book (λ k. stands a (At l Entry) (tell (event.Wait l a false) k)) st)) [
          | true ↦ trap_with a 9 0 st owner h
          | false ↦ record { rows = h.rows; due = h.due }
        ]

    await_with : (a : ℕ) (l : LockName) (c : ℕ) (v : Verdict) (st : State S F) → Judges v → With st → With (await m a l c v st)
    unfolding go_past stands
    await_with a l c Holds st judged h = h
    await_with a l c (Traps n) st judged h = trap_with a n 0 st judged h
    await_with a l c Fails st judged h = release_with a l _ (record { rows = h.rows; due = h.due })

    start_with : (a o : ℕ) (is_full : Bool) (st : State S F) → With st → With (start m a o is_full st)
    unfolding go_past
    start_with a o true st h = trap_with a 13 0 st full h
    start_with a o false st h = born_with (m.priority st.store o) st.book h

    serve_with : (a : ℕ) (w : Did) (st : State S F) → Leaves w → With st → With (serve m a w st)
    unfolding go_past
    serve_with a Went st leaves h = h
    serve_with a Ended st leaves h = ended_with a st.book h
    serve_with a (Enter l) st leaves h = enter_with a l (st.book.owner l) st h
    serve_with a (Leave l) st leaves h = release_with a l (go_past m a st) h
    serve_with a (Await l c) st leaves h = await_with a l c (m.verdict st.store (st.frames a) c) st (own.verdict st.store (st.frames a) c) h
    serve_with a (Start o) st leaves h = start_with a o (is_full st.book) st h
    serve_with a (Trapped n c) st leaves h = trap_with a n c st leaves h

    finish_with : (a : ℕ) (few : Bool) (o : Option F) (st : State S F) → With st → With (finish a few o st)
    finish_with a true (Some f) st h = restarted_with a st.book h
    finish_with a true None st h = ended_with a st.book h
    finish_with a false o st h = ended_with a st.book h

    turn_with : (a : ℕ) (n : Next) (st : State S F) → Due n → With st → With (turn_by m a n st)
    unfolding turned
    turn_with a Runs st due h =
        let t = m.turn st.store (st.frames a) in
        serve_with a t.left (turned m a t st) (own.turn st.store (st.frames a)) (counted_with a t.output t.begun st.book h)
    turn_with a (WillTrap n) st due h = trap_with a n 0 st due h
    turn_with a (Unwinds (l ∷ locks)) st due h = release_with a l _ (next_with a (Unwinds locks) st.book tt h)
    turn_with a (Unwinds []) st due h = finish_with a (may_restart (st.book.activity a).restarts) (m.anew (st.frames a)) st h
    turn_with a Gone st due h = h

    dispatch_with : (w : ℕ) (o : Option ℕ) (st : State S F) → With st → With (dispatch w o st)
    dispatch_with w None st h = h
    dispatch_with w (Some a) st h = stands_with a (On w) st.book h

    step_with : (w : ℕ) (o : Option ℕ) (st : State S F) → With st → With (step_of m w o st)
    step_with w None st h = dispatch_with w (first_ready st.book.line) st h
    step_with w (Some a) st h = turn_with a (st.book.activity a).next st (h.due a) h

    tick_with : (o : Option ℕ) (st : State S F) → With st → With (tick_of o st)
    tick_with None st h = h
    tick_with (Some a) st h = ready_with a st.book h

    happens_in_with : (c : Choice) (st : State S F) → With st → With (happens_in m c st)
    happens_in_with (Step w) st h = step_with w (on_worker w st.book.line) st h
    happens_in_with (Tick w) st h = tick_with (on_worker w st.book.line) st h

    happens_with : (c : Choice) (st : State S F) → With st → With (happens m c st)
    unfolding happens
    happens_with c st h =
        elim (outcome st.book) as (λ o. With (if_going o (happens_in m c st) st)) [
          | outcome_is.Going ↦ happens_in_with c st h
          | outcome_is.Ended ↦ h
          | outcome_is.Dead ↦ h
          | outcome_is.Spent ↦ h
        ]

    execution_with : (cs : List Choice) (st : State S F) → With st → With (execution m cs st)
    execution_with [] st h = h
    execution_with (c ∷ cs) st h = execution_with cs (happens m c st) (happens_with c st h)

    pub traps_with : (s : S) (f : F) (budget : ℕ) (cs : List Choice) → All (λ t. P t.number) (execution m cs (start_of s f budget)).book.traps
    traps_with s f budget cs = (execution_with cs (start_of s f budget) (first_with budget)).rows
