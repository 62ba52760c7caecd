-- An entry of a schedule adds a trap row exactly where it tells a trap.
use Rattle.std.proofs.Common.{ℕ, [], ◌∷◌, ◌++◌, Bool, true, false, refl, sym, ◌∙◌, ap, append_assoc}
use Rattle.std.specs.Prelude.{List, filter, if◌then◌else◌, nat_eq, Option, Some, None, map, option_map}
use Rattle.std.proofs.lemmas.List.{append-nil, map-append}
use Rattle.std.proofs.lemmas.List.Elements.{filter-append}
use Rattle.aos_base.specs.declared.kernel.LockName.{LockName}
use Rattle.aos_base.specs.declared.kernel.Verdict.{Verdict}
use Rattle.aos_base.specs.declared.kernel.Verdict.TheVariants.{Holds, Fails, Traps}
use Rattle.aos_base.specs.declared.kernel.Did.{Did}
use Rattle.aos_base.specs.declared.kernel.Did.TheVariants.{Went, Ended, Enter, Leave, Await, Start, Trapped}
use Rattle.aos_base.specs.declared.kernel.Event.TheVariants as event
use Rattle.aos_base.specs.declared.kernel.Outcome.TheVariants as outcome_is
use Rattle.aos_base.specs.Lock.{Entry, Condition, Heir, Nobody, Entrant, Waiter, Trapping, heir}
use Rattle.aos_base.specs.Book.{RunState, At, Next, Runs, WillTrap, Unwinds, Gone, Book, TrapRow, waiting, tell, stands, ready, next_is, owned_by, counted, trapped, ended, restarted, born, on_worker, first_ready, is_full, may_restart, outcome}
use Rattle.aos_base.specs.Machine.{Choice, Step, Tick, Turn, Machine, State, on_book, go_past, pass, release, trap, enter, await, start, serve, turned, finish, turn_by, dispatch, step_of, tick_of, happens_in, if_going, happens, execution}
use Rattle.aos_concurrency.specs.Traps.{turn_of, is_trap, AddsNoTrap, Adds, RecordsTraps, event_of, AreTold, Fault, of_number, is_owner, fault_in, fault_at, row_if, row_of, row_in, row_by}

nothing : (b : Book) → AddsNoTrap b b
nothing b = record { told = []; events = sym (append-nil b.events); none = refl; traps = refl }

then_none : (b c d : Book) → AddsNoTrap b c → AddsNoTrap c d → AddsNoTrap b d
then_none b c d h k = record {
  told = h.told ++ k.told;
  events = k.events ∙ ap (λ es. es ++ k.told) h.events ∙ append_assoc b.events h.told k.told;
  none = filter-append is_trap h.told k.told ∙ (λ i. h.none i ++ k.none i);
  traps = k.traps ∙ h.traps;
}

-- the rows are told
still_told : (row : Option TrapRow) (b c : Book) → Adds row b c → AreTold b → AreTold c
still_told None b c h told =
    ap (filter is_trap) h.events ∙ filter-append is_trap b.events h.told ∙ (λ i. told i ++ h.none i) ∙ append-nil (map event_of b.traps) ∙ ap (map event_of) (sym h.traps)
still_told (Some row) b c h told =
    ap (filter is_trap) h.events ∙ filter-append is_trap b.events (event_of row ∷ []) ∙ ap (λ es. es ++ event_of row ∷ []) told
    ∙ sym (map-append event_of b.traps (row ∷ [])) ∙ ap (map event_of) (sym h.traps)

module _ {S F : Type 0} (m : Machine S F) where
  -- of a's trap in this state
  abbrev AddsFault : ℕ → State S F → Option Fault → Book → Type 0
  AddsFault a st why c = Adds (option_map (row_of m a st) why) st.book c

  a_trap : (a n c : ℕ) (st : State S F) → AddsFault a st (Some (record { number = n; code = c })) (trap m a n c st).book
  unfolding trap trapped next_is
  a_trap a n c st = record { events = refl; traps = refl }

  no_trap : (a : ℕ) (l : LockName) (h : Heir) (st : State S F) → AddsNoTrap st.book (pass m a l h st).book
  unfolding go_past next_is ready owned_by
  no_trap a l Nobody st = record { told = event.Free l a ∷ []; events = refl; none = refl; traps = refl }
  no_trap a l (Entrant b) st = record { told = event.Pass l a b false ∷ []; events = refl; none = refl; traps = refl }
  no_trap a l (Waiter b) st = record { told = event.Pass l a b true ∷ []; events = refl; none = refl; traps = refl }
  no_trap a l (Trapping b n) st = record { told = event.Pass l a b true ∷ []; events = refl; none = refl; traps = refl }

  a_release : (a : ℕ) (l : LockName) (st : State S F) → AddsNoTrap st.book (release m a l st).book
  unfolding release owned_by
  a_release a l st =
      let h = no_trap a l (heir (λ b c. m.verdict st.store (st.frames b) c) (waiting l st.book.line)) (on_book (owned_by l None) st) in
      record { told = h.told; events = h.events; none = h.none; traps = h.traps }

  an_end : (a : ℕ) (st : State S F) → AddsNoTrap st.book (on_book (ended a) st).book
  unfolding ended next_is
  an_end a st = record { told = event.End a ∷ []; events = refl; none = refl; traps = refl }

  a_wait : (a : ℕ) (p : RunState) (l : LockName) (waiter : Bool) (st : State S F) → AddsNoTrap st.book (on_book (λ k. stands a p (tell (event.Wait l a waiter) k)) st).book
  unfolding stands
  a_wait a p l waiter st = record { told = event.Wait l a waiter ∷ []; events = refl; none = refl; traps = refl }

  a_past : (a : ℕ) (st : State S F) → AddsNoTrap st.book (go_past m a st).book
  unfolding go_past
  a_past a st = nothing st.book

  a_next : (a : ℕ) (n : Next) (st : State S F) → AddsNoTrap st.book (on_book (next_is a n) st).book
  unfolding next_is
  a_next a n st = record { told = []; events = sym (append-nil st.book.events); none = refl; traps = refl }

  an_enter : (a : ℕ) (l : LockName) (o : Option ℕ) (st : State S F) → AddsFault a st (if is_owner o a then Some (of_number 9) else None) (enter m a l o st).book
  unfolding go_past owned_by
  an_enter a l None st = record { told = event.Enter l a ∷ []; events = refl; none = refl; traps = refl }
  an_enter a l (Some b) st =
      elim (nat_eq b a) as (λ q. AddsFault a st (if q then Some (of_number 9) else None) ((if q then trap m a 9 0 st else on_book (λ k. stands a (At l Entry) (tell (event.Wait l a false) k)) st)).book) [
        | true ↦ a_trap a 9 0 st
        | false ↦ a_wait a (At l Entry) l false st
      ]

  an_await : (a : ℕ) (l : LockName) (c : ℕ) (v : Verdict) (st : State S F) → AddsFault a st (fault_in v) (await m a l c v st).book
  an_await a l c Holds st = a_past a st
  an_await a l c (Traps n) st = a_trap a n 0 st
  an_await a l c Fails st = then_none _ _ _ (a_wait a (At l (Condition c)) l true st) (a_release a l _)

  a_start : (a o : ℕ) (full : Bool) (st : State S F) → AddsFault a st (if full then Some (of_number 13) else None) (start m a o full st).book
  unfolding go_past born
  a_start a o true st = a_trap a 13 0 st
  a_start a o false st = record { told = event.Start st.book.started ∷ []; events = refl; none = refl; traps = refl }

  a_serve : (a : ℕ) (w : Did) (st : State S F) → AddsFault a st (fault_at m a w st) (serve m a w st).book
  a_serve a Went st = nothing st.book
  a_serve a Ended st = an_end a st
  a_serve a (Enter l) st = an_enter a l (st.book.owner l) st
  a_serve a (Leave l) st = then_none _ _ _ (a_past a st) (a_release a l (go_past m a st))
  a_serve a (Await l c) st = an_await a l c (m.verdict st.store (st.frames a) c) st
  a_serve a (Start o) st = a_start a o (is_full st.book) st
  a_serve a (Trapped n c) st = a_trap a n c st

  -- its own part of a turn adds neither
  a_turn : (a : ℕ) (t : Turn S F) (st : State S F) (row : Option TrapRow) (c : Book) → Adds row (turned m a t st).book c → Adds row st.book c
  unfolding turned counted
  a_turn a t st None c h = record { told = h.told; events = h.events; none = h.none; traps = h.traps }
  a_turn a t st (Some row) c h = record { events = h.events; traps = h.traps }

  a_finish : (a : ℕ) (few : Bool) (o : Option F) (st : State S F) → AddsNoTrap st.book (finish a few o st).book
  unfolding restarted
  a_finish a true (Some f) st = record { told = []; events = sym (append-nil st.book.events); none = refl; traps = refl }
  a_finish a true None st = an_end a st
  a_finish a false o st = an_end a st

  turn_adds : (a : ℕ) (n : Next) (st : State S F) → Adds (row_in m a n st) st.book (turn_by m a n st).book
  turn_adds a Runs st = let t = m.turn st.store (st.frames a) in a_turn a t st _ _ (a_serve a t.left (turned m a t st))
  turn_adds a (WillTrap n) st = a_trap a n 0 st
  turn_adds a (Unwinds (l ∷ locks)) st = then_none _ _ _ (a_next a (Unwinds locks) st) (a_release a l (on_book (next_is a (Unwinds locks)) st))
  turn_adds a (Unwinds []) st = a_finish a (may_restart (st.book.activity a).restarts) (m.anew (st.frames a)) st
  turn_adds a Gone st = nothing st.book

  a_dispatch : (w : ℕ) (o : Option ℕ) (st : State S F) → AddsNoTrap st.book (dispatch w o st).book
  unfolding stands
  a_dispatch w None st = nothing st.book
  a_dispatch w (Some a) st = record { told = []; events = sym (append-nil st.book.events); none = refl; traps = refl }

  a_tick : (o : Option ℕ) (st : State S F) → AddsNoTrap st.book (tick_of o st).book
  unfolding ready
  a_tick None st = nothing st.book
  a_tick (Some a) st = record { told = []; events = sym (append-nil st.book.events); none = refl; traps = refl }

  step_adds : (w : ℕ) (o : Option ℕ) (st : State S F) → Adds (row_by m o st) st.book (step_of m w o st).book
  step_adds w None st = a_dispatch w (first_ready st.book.line) st
  step_adds w (Some a) st = turn_adds a (st.book.activity a).next st

  happens_in_adds : (c : Choice) (st : State S F) → Adds (row_by m (turn_of c st.book) st) st.book (happens_in m c st).book
  happens_in_adds (Step w) st = step_adds w (on_worker w st.book.line) st
  happens_in_adds (Tick w) st = a_tick (on_worker w st.book.line) st

  pub records_traps : (c : Choice) (st : State S F) → RecordsTraps m c st
  unfolding happens
  records_traps c st =
      elim (outcome st.book) as (λ o. Adds (row_if o (row_by m (turn_of c st.book) st)) st.book ((if_going o (happens_in m c st) st)).book) [
        | outcome_is.Going ↦ happens_in_adds c st
        | outcome_is.Ended ↦ nothing st.book
        | outcome_is.Dead ↦ nothing st.book
        | outcome_is.Spent ↦ nothing st.book
      ]

  happens_told : (c : Choice) (st : State S F) → AreTold st.book → AreTold (happens m c st).book
  happens_told c st told = still_told (row_if (outcome st.book) (row_by m (turn_of c st.book) st)) st.book (happens m c st).book (records_traps c st) told

  pub execution_told : (cs : List Choice) (st : State S F) → AreTold st.book → AreTold (execution m cs st).book
  execution_told [] st told = told
  execution_told (c ∷ cs) st told = execution_told cs (happens m c st) (happens_told c st told)
