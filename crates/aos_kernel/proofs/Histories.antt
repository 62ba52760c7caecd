-- A run with one choice more.
use Rattle.std.proofs.Common.{◌≡◌, ◌≢◌, ℕ, ◌-◌, ◌<◌, List, [], ◌∷◌, ◌++◌, refl, sym, ◌∙◌, ap, subst, arith, length, take, drop, length-append}
use Rattle.std.specs.Prelude.{Option, Some, None, All, Bool, true, false}
use Rattle.std.proofs.lemmas.List.{take_at, drop_at, append-nil as append_nil}
use Rattle.aos_base.specs.declared.kernel.Event.{Event}
use Rattle.aos_base.specs.declared.kernel.Outcome.{Outcome}
use Rattle.aos_base.specs.declared.kernel.Outcome.TheVariants.{Going, Ended, Dead, Spent}
use Rattle.aos_base.specs.Book.{Stand, On, outcome, outcome_of, on_worker, first_ready, ready, stands}
use Rattle.aos_base.specs.Machine.{Choice, Step, Tick, State, on_book, dispatch, tick_of, step_of, if_going, turn_by, happens, happens_in}
use Rattle.aos_concurrency.proofs.Executions.{execution-append}
use Rattle.aos_code.specs.declared.image.Image.{Image}
use Rattle.aos_code.specs.Memory.{Memory}
use Rattle.aos_code.specs.Machine.{Frames, machine, first_state}
use Rattle.aos_kernel.specs.declared.tables.KernelTables.{KernelTables}
use Rattle.aos_base.specs.declared.kernel.Sched.{Sched}
use Rattle.aos_kernel.specs.declared.log.Stepped.{Stepped}
use Rattle.aos_kernel.specs.declared.log.Stepped.TheVariants.{Turned, Dispatched, Idle, Over}
use Rattle.aos_base.specs.Schedule.{choices, IsEntry}
use Rattle.aos_kernel.specs.Run.{Run, after, state_of, without_last, state_before, stepped_with, stepped_while, comes_to, has_activity, ticks_while, ticks, if_spent}
use Rattle.aos_scheduler.specs.Stands.{IsStood}
use Rattle.aos_scheduler.proofs.Standing.{worker_on}
use Rattle.aos_kernel.specs.Shows.{Shows, HasTurn, HandsOut}
use Rattle.aos_kernel.specs.Keeps.{Keeps}

-- the state after one choice more
pub state_after : (r : Run) (log : List Sched) (c : Choice) → choices log ≡ choices r.log ++ c ∷ [] → state_of (record r { log = log }) ≡ happens (machine r.image) c (state_of r)
state_after r log c is = ap (λ cs. after r.image r.budget cs) is ∙ execution-append (machine r.image) (choices r.log) (c ∷ []) (first_state r.image r.budget)

pub before_last : (cs : List Choice) (c : Choice) → without_last (cs ++ c ∷ []) ≡ cs
before_last cs c =
    let n : length (cs ++ c ∷ []) - 1 ≡ length cs = omega (arith, length-append cs (c ∷ [])) in
    ap (λ k. take k (cs ++ c ∷ [])) n ∙ take_at cs (c ∷ []) (length cs) refl

pub state_before_is : (r : Run) (log : List Sched) (c : Choice) → choices log ≡ choices r.log ++ c ∷ [] → state_before (record r { log = log }) ≡ state_of r
state_before_is r log c is = ap (λ cs. after r.image r.budget (without_last cs)) is ∙ ap (λ cs. after r.image r.budget cs) (before_last (choices r.log) c)

-- the tables tell nothing but what has been handed out
handed_out : (image : Image) (earlier : List Event) (d new : KernelTables) (st : State Memory Frames) → Shows image earlier d st → HandsOut d new → Shows image st.book.events new st
handed_out image earlier d new st h out =
    let kept : KernelTables = record d { events = new.events } in
    let shown : Shows image st.book.events kept st = record {
      store = h.store;
      stands = h.stands;
      output = h.output;
      traps = h.traps;
      events = sym (append_nil st.book.events) ∙ ap (λ x. st.book.events ++ x) (sym out.0);
      budget = h.budget;
      spent = h.spent;
      started = h.started;
      few = h.few;
      counted = h.counted;
      activities = h.activities;
      room = h.room;
      waiting = h.waiting;
      unspent = h.unspent;
    } in
    subst (λ (x : KernelTables). Shows image st.book.events x st) (sym out.1) shown

-- a kernel keeps a run with one choice more
pub keeps_after : (r : Run) (log : List Sched) (c : Choice) (d new : KernelTables) (events : List Event) (st : State Memory Frames) → choices log ≡ choices r.log ++ c ∷ [] → happens (machine r.image) c (state_of r) ≡ st →
    Shows r.image (state_of r).book.events d st → HandsOut d new → events ≡ d.events.items → All (IsEntry r.workers) log → (old : KernelTables) (told : List Event) → Keeps r old told → Keeps (record r { log = log }) new events
keeps_after r log c d new events st is to shown out told entries old before h =
    let now : state_of (record r { log = log }) ≡ st = state_after r log c is ∙ to in
    record {
      shows = subst (λ (x : State Memory Frames). Shows r.image x.book.events new x) (sym now) (handed_out r.image (state_of r).book.events d new st shown out);
      events_are = (λ i. drop (length (state_before_is r log c is i).book.events) (now i).book.events)
          ∙ ap (drop (length (state_of r).book.events)) shown.events ∙ drop_at (state_of r).book.events d.events.items (length (state_of r).book.events) refl ∙ sym told;
      entries = entries;
      one_worker = h.one_worker;
      few_workers = h.few_workers;
      one_statement = h.one_statement;
      few_statements = h.few_statements;
    }

-- what happens

module _ (image : Image) (st : State Memory Frames) (w : ℕ) where
  pub steps_by : (a : ℕ) → outcome st.book ≡ Going → on_worker w st.book.line ≡ Some a → happens (machine image) (Step w) st ≡ turn_by (machine image) a (st.book.activity a).next st
  unfolding happens
  steps_by a going on = (λ i. if_going (going i) (step_of (machine image) w (on i) st) st)

  pub dispatches : (a : ℕ) → outcome st.book ≡ Going → on_worker w st.book.line ≡ None → first_ready st.book.line ≡ Some a → happens (machine image) (Step w) st ≡ on_book (stands a (On w)) st
  unfolding happens
  dispatches a going on next =
      (λ i. if_going (going i) (step_of (machine image) w (on i) st) st) ∙ ap (λ o. dispatch w o st) next

  pub idles : outcome st.book ≡ Going → on_worker w st.book.line ≡ None → first_ready st.book.line ≡ None → happens (machine image) (Step w) st ≡ st
  unfolding happens
  idles going on next =
      (λ i. if_going (going i) (step_of (machine image) w (on i) st) st) ∙ ap (λ o. dispatch w o st) next

  pub ticks_by : (a : ℕ) → outcome st.book ≡ Going → on_worker w st.book.line ≡ Some a → happens (machine image) (Tick w) st ≡ on_book (ready a) st
  unfolding happens
  ticks_by a going on = (λ i. if_going (going i) (tick_of (on i) st) st)

  pub ticks_nothing : outcome st.book ≡ Going → on_worker w st.book.line ≡ None → happens (machine image) (Tick w) st ≡ st
  unfolding happens
  ticks_nothing going on = (λ i. if_going (going i) (tick_of (on i) st) st)

pub is_over : (image : Image) (st : State Memory Frames) (c : Choice) → outcome st.book ≢ Going → happens (machine image) c st ≡ st
unfolding happens
is_over image st c why =
    (elim (outcome st.book) as (λ (o : Outcome). (o ≢ Going) → if_going o (happens_in (machine image) c st) st ≡ st) [
      | Going ↦ λ n. absurd (n refl)
      | Ended ↦ λ _. refl
      | Dead ↦ λ _. refl
      | Spent ↦ λ _. refl
    ]) why

pub over_is : (o : Outcome) (s : Stepped) → o ≢ Going → stepped_while o s ≡ Over
over_is Going s n = absurd (n refl)
over_is Ended s n = refl
over_is Dead s n = refl
over_is Spent s n = refl

pub comes_over : (w : ℕ) (r : Run) → outcome (state_of r).book ≢ Going → comes_to w r ≡ Over
comes_over w r n = over_is (outcome (state_of r).book) _ n

not_ticked : (o : Outcome) (has : Bool) → o ≢ Going → ticks_while o has ≡ false
not_ticked Going has n = absurd (n refl)
not_ticked Ended has n = refl
not_ticked Dead has n = refl
not_ticked Spent has n = refl

pub ticks_over : (w : ℕ) (r : Run) → outcome (state_of r).book ≢ Going → ticks w r ≡ false
ticks_over w r n = not_ticked (outcome (state_of r).book) (has_activity (on_worker w (state_of r).book.line)) n

pub ticks_some : (w a : ℕ) (r : Run) → outcome (state_of r).book ≡ Going → on_worker w (state_of r).book.line ≡ Some a → ticks w r ≡ true
ticks_some w a r going on = (λ i. ticks_while (going i) (has_activity (on i)))

pub ticks_none : (w : ℕ) (r : Run) → outcome (state_of r).book ≡ Going → on_worker w (state_of r).book.line ≡ None → ticks w r ≡ false
ticks_none w r going on = (λ i. ticks_while (going i) (has_activity (on i)))

pub comes_turned : (w a : ℕ) (r : Run) → outcome (state_of r).book ≡ Going → on_worker w (state_of r).book.line ≡ Some a → comes_to w r ≡ Turned
comes_turned w a r going on = (λ i. stepped_while (going i) (stepped_with (on i) (first_ready (state_of r).book.line)))

pub comes_dispatched : (w a : ℕ) (r : Run) → outcome (state_of r).book ≡ Going → on_worker w (state_of r).book.line ≡ None → first_ready (state_of r).book.line ≡ Some a → comes_to w r ≡ Dispatched
comes_dispatched w a r going on next = (λ i. stepped_while (going i) (stepped_with (on i) (next i)))

pub comes_idle : (w : ℕ) (r : Run) → outcome (state_of r).book ≡ Going → on_worker w (state_of r).book.line ≡ None → first_ready (state_of r).book.line ≡ None → comes_to w r ≡ Idle
comes_idle w r going on next = (λ i. stepped_while (going i) (stepped_with (on i) (next i)))

pub none_spent : (o : Outcome) (a : Option ℕ) → o ≢ Spent → if_spent o a ≡ None
none_spent Going a n = refl
none_spent Ended a n = refl
none_spent Dead a n = refl
none_spent Spent a n = absurd (n refl)

-- What a kernel finds in its tables

unspent : (line : List Stand) (spent : Option ℕ) → outcome_of line spent ≡ Going → spent ≡ None
unspent [] spent e = absurd (cc e)
unspent (s ∷ line) None e = refl
unspent (s ∷ line) (Some a) e = absurd (cc e)

module _ (r : Run) (d : KernelTables) (told : List Event) (h : Keeps r d told) where
  pub unspent_while : outcome (state_of r).book ≡ Going → (state_of r).book.spent ≡ None
  unspent_while e = unspent (state_of r).book.line (state_of r).book.spent e

  -- the line is some line
  pub is_stood : IsStood d.line
  is_stood = record { line = (state_of r).book.line; owner = (state_of r).book.owner; stands = h.shows.stands }

  -- who is on a worker has its turn
  pub has_turn : (w a : ℕ) → w < r.workers → on_worker w (state_of r).book.line ≡ Some a → HasTurn a d
  has_turn w a less e =
      let few : w < 16 = omega (arith, h.few_workers) in
      record { on = worker_on d.line (state_of r).book.line (state_of r).book.owner h.shows.stands w a few e; counted = h.shows.counted }

  -- only silent work has been done, and room has been made
  pub keeps_silent : (new : KernelTables) (log : List Sched) → Shows r.image (state_of r).book.events new (state_of r) → log ≡ r.log → Keeps (record r { log = log }) new told
  keeps_silent new log shown same =
      subst (λ (l : List Sched). Keeps (record r { log = l }) new told) (sym same)
      (record { shows = shown; events_are = h.events_are; entries = h.entries; one_worker = h.one_worker; few_workers = h.few_workers; one_statement = h.one_statement; few_statements = h.few_statements })
