-- What happens in an execution only adds to its events.
use Rattle.std.proofs.Common.{◌≡◌, ◌∙◌, ℕ, nat_eq, Bool, true, false, List, [], ◌∷◌, ◌++◌, Option, Some, None, if◌then◌else◌, ap, refl, sym, append_assoc}
use Rattle.std.proofs.lemmas.List.{append-nil}
use Rattle.aos_base.specs.declared.kernel.Event.{Event}
use Rattle.aos_base.specs.declared.kernel.Event.TheVariants as event
use Rattle.aos_base.specs.declared.kernel.LockName.{LockName}
use Rattle.aos_base.specs.declared.kernel.Verdict.{Verdict}
use Rattle.aos_base.specs.declared.kernel.Verdict.TheVariants.{Holds, Fails, Traps}
use Rattle.aos_base.specs.declared.kernel.Did.{Did}
use Rattle.aos_base.specs.declared.kernel.Did.TheVariants.{Went, Ended, Enter, Leave, Await, Start, Trapped}
use Rattle.aos_base.specs.declared.kernel.Outcome.{Outcome}
use Rattle.aos_base.specs.declared.kernel.Outcome.TheVariants.{Going, Ended as HasEnded, Dead, Spent}
use Rattle.aos_base.specs.Lock.{Entry, Condition, Heir, Nobody, Entrant, Waiter, Trapping, heir}
use Rattle.aos_base.specs.Book.{At, Next, Runs, WillTrap, Unwinds, Gone, on_worker, first_ready, waiting, outcome, tell, stands, ready, next_is, owned_by, counted, may_restart, trapped, ended, restarted, born, is_full}
use Rattle.aos_base.specs.Machine.{Choice, Step, Tick, Machine, State, on_book, finish, dispatch, tick_of, if_going, go_past, trap, pass, release, enter, await, start, serve, turned, turn_by, step_of, happens_in, happens}

-- these events, and some more
pub record Grows (old new : List Event) : Type 0 where
  pub more : List Event
  pub is : new ≡ old ++ more

stays : (es : List Event) → Grows es es
stays es = record { more = []; is = sym (append-nil es) }

by_one : (es : List Event) (e : Event) → Grows es (es ++ e ∷ [])
by_one es e = record { more = e ∷ []; is = refl }

by_both : (a b c : List Event) → Grows a b → Grows b c → Grows a c
by_both a b c h k = record { more = h.more ++ k.more; is = k.is ∙ ap (λ l. l ++ k.more) h.is ∙ append_assoc a h.more k.more }

module _ {S F : Type 0} where
  abbrev More : State S F → State S F → Type 0
  More st next = Grows st.book.events next.book.events

  more_finish : (a : ℕ) (again : Bool) (f : Option F) (st : State S F) → More st (finish a again f st)
  unfolding ended restarted next_is
  more_finish a true (Some f) st = stays st.book.events
  more_finish a true None st = by_one st.book.events (event.End a)
  more_finish a false f st = by_one st.book.events (event.End a)

  more_dispatch : (w : ℕ) (a : Option ℕ) (st : State S F) → More st (dispatch w a st)
  unfolding stands
  more_dispatch w None st = stays st.book.events
  more_dispatch w (Some a) st = stays st.book.events

  more_tick : (a : Option ℕ) (st : State S F) → More st (tick_of a st)
  unfolding ready
  more_tick None st = stays st.book.events
  more_tick (Some a) st = stays st.book.events

module _ {S F : Type 0} (m : Machine S F) where
  more_trap : (a n c : ℕ) (st : State S F) → More st (trap m a n c st)
  unfolding trap trapped next_is
  more_trap a n c st = by_one st.book.events (event.Trap a n)

  more_pass : (a : ℕ) (l : LockName) (h : Heir) (st : State S F) → More st (pass m a l h st)
  unfolding go_past ready owned_by next_is
  more_pass a l Nobody st = by_one st.book.events (event.Free l a)
  more_pass a l (Entrant b) st = by_one st.book.events (event.Pass l a b false)
  more_pass a l (Waiter b) st = by_one st.book.events (event.Pass l a b true)
  more_pass a l (Trapping b n) st = by_one st.book.events (event.Pass l a b true)

  more_release : (a : ℕ) (l : LockName) (st : State S F) → More st (release m a l st)
  unfolding release owned_by
  more_release a l st =
      more_pass a l (heir (λ (b c : ℕ). m.verdict st.store (st.frames b) c) (waiting l st.book.line)) (on_book (owned_by l None) st)

  more_enter : (a : ℕ) (l : LockName) (o : Option ℕ) (st : State S F) → More st (enter m a l o st)
  unfolding go_past owned_by stands
  more_enter a l None st = by_one st.book.events (event.Enter l a)
  more_enter a l (Some b) st =
      elim (nat_eq b a) as (λ q. More st (if q then trap m a 9 0 st else on_book (λ k. stands a (At l Entry) (tell (event.Wait l a false) k)) st)) [
        | true ↦ more_trap a 9 0 st
        | false ↦ by_one st.book.events (event.Wait l a false)
      ]

  more_await : (a : ℕ) (l : LockName) (c : ℕ) (v : Verdict) (st : State S F) → More st (await m a l c v st)
  unfolding go_past stands
  more_await a l c Holds st = stays st.book.events
  more_await a l c (Traps n) st = more_trap a n 0 st
  more_await a l c Fails st =
      by_both st.book.events _ _ (by_one st.book.events (event.Wait l a true))
      (more_release a l (on_book (λ k. stands a (At l (Condition c)) (tell (event.Wait l a true) k)) st))

  more_start : (a o : ℕ) (full : Bool) (st : State S F) → More st (start m a o full st)
  unfolding go_past born
  more_start a o true st = more_trap a 13 0 st
  more_start a o false st = by_one st.book.events (event.Start st.book.started)

  more_serve : (a : ℕ) (w : Did) (st : State S F) → More st (serve m a w st)
  unfolding go_past ended next_is
  more_serve a Went st = stays st.book.events
  more_serve a Ended st = by_one st.book.events (event.End a)
  more_serve a (Enter l) st = more_enter a l (st.book.owner l) st
  more_serve a (Leave l) st = more_release a l (go_past m a st)
  more_serve a (Await l c) st = more_await a l c (m.verdict st.store (st.frames a) c) st
  more_serve a (Start o) st = more_start a o (is_full st.book) st
  more_serve a (Trapped n c) st = more_trap a n c st

  more_turn : (a : ℕ) (n : Next) (st : State S F) → More st (turn_by m a n st)
  unfolding turned counted next_is
  more_turn a Runs st = let t = m.turn st.store (st.frames a) in more_serve a t.left (turned m a t st)
  more_turn a (WillTrap n) st = more_trap a n 0 st
  more_turn a (Unwinds (l ∷ locks)) st = more_release a l (on_book (next_is a (Unwinds locks)) st)
  more_turn a (Unwinds []) st = more_finish a (may_restart (st.book.activity a).restarts) (m.anew (st.frames a)) st
  more_turn a Gone st = stays st.book.events

  more_step : (w : ℕ) (a : Option ℕ) (st : State S F) → More st (step_of m w a st)
  more_step w None st = more_dispatch w (first_ready st.book.line) st
  more_step w (Some a) st = more_turn a (st.book.activity a).next st

  more_choice : (c : Choice) (st : State S F) → More st (happens_in m c st)
  more_choice (Step w) st = more_step w (on_worker w st.book.line) st
  more_choice (Tick w) st = more_tick (on_worker w st.book.line) st

  pub events_grow : (c : Choice) (st : State S F) → Grows st.book.events (happens m c st).book.events
  unfolding happens
  events_grow c st =
      elim (outcome st.book) as (λ (o : Outcome). More st (if_going o (happens_in m c st) st)) [
        | Going ↦ more_choice c st
        | HasEnded ↦ stays st.book.events
        | Dead ↦ stays st.book.events
        | Spent ↦ stays st.book.events
      ]
