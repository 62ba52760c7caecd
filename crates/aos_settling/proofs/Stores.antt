-- What each turn keeps of the store, every schedule keeps; and the budget stays.
use Rattle.std.proofs.Common.{◌≡◌, ℕ, List, [], ◌∷◌, Bool, true, false, refl}
use Rattle.std.specs.Prelude.{if◌then◌else◌, nat_eq, Option, Some, None}
use Rattle.aos_base.specs.declared.kernel.LockName.{LockName}
use Rattle.aos_base.specs.declared.kernel.Verdict.TheVariants.{Holds, Fails, Traps}
use Rattle.aos_base.specs.declared.kernel.Did.{Did}
use Rattle.aos_base.specs.declared.kernel.Did.TheVariants.{Went, Ended, Enter, Leave, Await, Start, Trapped}
use Rattle.aos_base.specs.declared.kernel.Verdict.{Verdict}
use Rattle.aos_base.specs.declared.kernel.Event.TheVariants as event
use Rattle.aos_base.specs.declared.kernel.Outcome.TheVariants as outcome_is
use Rattle.aos_base.specs.Lock.{Entry, Heir, Nobody, Entrant, Waiter, Trapping, heir}
use Rattle.aos_base.specs.Book.{At, Next, Runs, WillTrap, Unwinds, Gone, waiting, tell, stands, ready, counted, trapped, born, ended, restarted, next_is, owned_by, on_worker, first_ready, is_full, outcome, may_restart}
use Rattle.aos_base.specs.Machine.{Choice, Step, Tick, Turn, Machine, State, on_book, go_past, pass, release, trap, enter, await, start, serve, turned, finish, turn_by, dispatch, step_of, tick_of, happens_in, if_going, happens, execution}

module _ {S F : Type 0} (m : Machine S F) (P : S → Type 0) (turn_keeps : (s : S) (f : F) → P s → P (m.turn s f).store) (budget : ℕ) where
  abbrev Of : State S F → Type 0
  Of st = P st.store × (st.book.budget ≡ budget)

  trap_store : (a n c : ℕ) (st : State S F) → Of st → Of (trap m a n c st)
  unfolding trap trapped next_is
  trap_store a n c st h = h

  past_store : (a : ℕ) (st : State S F) → Of st → Of (go_past m a st)
  unfolding go_past
  past_store a st h = h

  pass_store : (a : ℕ) (l : LockName) (k : Heir) (st : State S F) → Of st → Of (pass m a l k st)
  unfolding ready owned_by next_is
  pass_store a l Nobody st h = h
  pass_store a l (Entrant b) st h = past_store b _ h
  pass_store a l (Waiter b) st h = past_store b _ h
  pass_store a l (Trapping b n) st h = h

  release_store : (a : ℕ) (l : LockName) (st : State S F) → Of st → Of (release m a l st)
  unfolding release owned_by
  release_store a l st h = pass_store a l (heir (λ (b c : ℕ). m.verdict st.store (st.frames b) c) (waiting l st.book.line)) (on_book (owned_by l None) st) h

  enter_store : (a : ℕ) (l : LockName) (o : Option ℕ) (st : State S F) → Of st → Of (enter m a l o st)
  unfolding owned_by stands
  enter_store a l None st h = past_store a _ h
  enter_store a l (Some b) st h =
      elim (nat_eq b a) as (λ q. Of (if q then trap m a 9 0 st else on_book (λ k. stands a (At l Entry) (tell (event.Wait l a false) k)) st)) [
        | true ↦ trap_store a 9 0 st h
        | false ↦ h
      ]

  await_store : (a : ℕ) (l : LockName) (c : ℕ) (v : Verdict) (st : State S F) → Of st → Of (await m a l c v st)
  unfolding stands
  await_store a l c Holds st h = past_store a st h
  await_store a l c (Traps n) st h = trap_store a n 0 st h
  await_store a l c Fails st h = release_store a l _ h

  start_store : (a o : ℕ) (full : Bool) (st : State S F) → Of st → Of (start m a o full st)
  unfolding born
  start_store a o true st h = trap_store a 13 0 st h
  start_store a o false st h = past_store a _ h

  serve_store : (a : ℕ) (d : Did) (st : State S F) → Of st → Of (serve m a d st)
  unfolding ended next_is
  serve_store a Went st h = h
  serve_store a Ended st h = h
  serve_store a (Enter l) st h = enter_store a l (st.book.owner l) st h
  serve_store a (Leave l) st h = release_store a l (go_past m a st) (past_store a st h)
  serve_store a (Await l c) st h = await_store a l c (m.verdict st.store (st.frames a) c) st h
  serve_store a (Start o) st h = start_store a o (is_full st.book) st h
  serve_store a (Trapped n c) st h = trap_store a n c st h

  turned_store : (a : ℕ) (t : Turn S F) (st : State S F) → P t.store × (st.book.budget ≡ budget) → Of (turned m a t st)
  unfolding turned counted
  turned_store a t st h = h

  finish_store : (a : ℕ) (may : Bool) (o : Option F) (st : State S F) → Of st → Of (finish a may o st)
  unfolding restarted ended next_is
  finish_store a true (Some f) st h = h
  finish_store a true None st h = h
  finish_store a false o st h = h

  turn_store : (a : ℕ) (n : Next) (st : State S F) → Of st → Of (turn_by m a n st)
  unfolding next_is
  turn_store a Runs st h =
      let t = m.turn st.store (st.frames a) in serve_store a t.left (turned m a t st) (turned_store a t st (turn_keeps st.store (st.frames a) h.0, h.1))
  turn_store a (WillTrap n) st h = trap_store a n 0 st h
  turn_store a (Unwinds (l ∷ locks)) st h = release_store a l (on_book (next_is a (Unwinds locks)) st) h
  turn_store a (Unwinds []) st h = finish_store a (may_restart (st.book.activity a).restarts) (m.anew (st.frames a)) st h
  turn_store a Gone st h = h

  dispatch_store : (w : ℕ) (o : Option ℕ) (st : State S F) → Of st → Of (dispatch w o st)
  unfolding stands
  dispatch_store w None st h = h
  dispatch_store w (Some a) st h = h

  step_store : (w : ℕ) (o : Option ℕ) (st : State S F) → Of st → Of (step_of m w o st)
  step_store w (Some a) st h = turn_store a (st.book.activity a).next st h
  step_store w None st h = dispatch_store w (first_ready st.book.line) st h

  tick_store : (o : Option ℕ) (st : State S F) → Of st → Of (tick_of o st)
  unfolding ready
  tick_store None st h = h
  tick_store (Some a) st h = h

  happens_in_store : (c : Choice) (st : State S F) → Of st → Of (happens_in m c st)
  happens_in_store (Step w) st h = step_store w (on_worker w st.book.line) st h
  happens_in_store (Tick w) st h = tick_store (on_worker w st.book.line) st h

  pub happens_store : (c : Choice) (st : State S F) → Of st → Of (happens m c st)
  unfolding happens
  happens_store c st h =
      elim (outcome st.book) as (λ o. Of (if_going o (happens_in m c st) st)) [
        | outcome_is.Going ↦ happens_in_store c st h
        | outcome_is.Ended ↦ h
        | outcome_is.Dead ↦ h
        | outcome_is.Spent ↦ h
      ]

  pub execution_all : (cs : List Choice) (st : State S F) → Of st → Of (execution m cs st)
  execution_all [] st h = h
  execution_all (c ∷ cs) st h = execution_all cs (happens m c st) (happens_store c st h)

module _ {S F : Type 0} (m : Machine S F) where
  pub execution_budget : (cs : List Choice) (st : State S F) → (execution m cs st).book.budget ≡ st.book.budget
  execution_budget cs st = (execution_all m (λ s. Unit {0}) (λ s f h. tt) st.book.budget cs st (tt, refl)).1

  pub execution_store : (P : S → Type 0) → ((s : S) (f : F) → P s → P (m.turn s f).store) → (cs : List Choice) (st : State S F) → P st.store → P (execution m cs st).store
  execution_store P keeps cs st h = (execution_all m P keeps st.book.budget cs st (h, refl)).0
