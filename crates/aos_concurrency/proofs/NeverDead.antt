-- Where no turn enters a region or awaits a condition nobody stands at a lock, so no outcome is Dead.
use Rattle.std.proofs.Common.{◌≡◌, ◌≢◌, ℕ, List, [], ◌∷◌, ◌++◌, Bool, true, false, refl, sym, ◌∙◌, ap, subst}
use Rattle.std.specs.Prelude.{if◌then◌else◌, nat_eq, not, ◌&&◌, Option, Some, None}
use Rattle.aos_base.specs.declared.kernel.LockName.{LockName}
use Rattle.aos_base.specs.declared.kernel.Did.{Did}
use Rattle.aos_base.specs.declared.kernel.Did.TheVariants.{Went, Ended, Enter, Leave, Await, Start, Trapped}
use Rattle.aos_base.specs.declared.kernel.Outcome.TheVariants as outcome_is
use Rattle.aos_base.specs.Lock.{Heir, Nobody, Entrant, Waiter, Trapping, heir}
use Rattle.aos_base.specs.Book.{RunState, On, Ready, Stand, Next, Runs, WillTrap, Unwinds, Gone, waiting, is_at_lock, all_at_locks, leave_line, move, place_of, stands, ready, next_is, owned_by, counted, trapped, ended, restarted, born, on_worker, first_ready, is_full, may_restart, outcome, outcome_of}
use Rattle.aos_base.specs.Machine.{Choice, Step, Tick, Machine, State, start_of, go_past, pass, release, trap, start, serve, turned, finish, turn_by, dispatch, step_of, tick_of, happens_in, if_going, happens, execution}
use Rattle.aos_concurrency.specs.LocalState.{NoOne}
use Rattle.aos_concurrency.specs.Admits.{Admits}
use Rattle.aos_concurrency.specs.Waits.{MayWait, NeverWaits}
use Rattle.aos_concurrency.specs.Sound.{Fitting}
use Rattle.aos_concurrency.proofs.Lines.{found_on}
use Rattle.aos_concurrency.proofs.Works.{runs_at}
use Rattle.aos_concurrency.proofs.Itself.{happens_fitting, start_fitting}

-- nobody in the line stands at a lock
abbrev NobodyWaits : List Stand → Type 0
NobodyWaits [] = Unit {0}
NobodyWaits (s ∷ line) = (is_at_lock s.place ≡ false) × NobodyWaits line

one_leaves : (a : ℕ) (line : List Stand) → NobodyWaits line → NobodyWaits (leave_line a line)
one_leaves a [] h = tt
one_leaves a (s ∷ line) h =
    elim (nat_eq s.activity a) as (λ q. NobodyWaits (if not q then s ∷ leave_line a line else leave_line a line)) [
      | true ↦ one_leaves a line h.1
      | false ↦ (h.0, one_leaves a line h.1)
    ]

one_joins : (line : List Stand) (s : Stand) → is_at_lock s.place ≡ false → NobodyWaits line → NobodyWaits (line ++ s ∷ [])
one_joins [] s e h = (e, tt)
one_joins (t ∷ line) s e h = (h.0, one_joins line s e h.1)

one_moves : (a : ℕ) (p : RunState) (line : List Stand) → is_at_lock p ≡ false → NobodyWaits line → NobodyWaits (move a p line)
one_moves a p line e h = one_joins (leave_line a line) (record { activity = a; place = p }) e (one_leaves a line h)

not_dead : (line : List Stand) (spent : Option ℕ) → NobodyWaits line → outcome_of line spent ≢ outcome_is.Dead
not_dead [] spent h e = absurd (cc e)
not_dead (s ∷ line) (Some a) h e = absurd (cc e)
not_dead (s ∷ line) None h e =
    let g = ap (λ q. if q && all_at_locks line then outcome_is.Dead else outcome_is.Going) (sym h.0) ∙ e in absurd (cc g)

module _ {S F : Type 0} (m : Machine S F) where
  abbrev Free : State S F → Type 0
  Free st = NobodyWaits st.book.line

  pass_free : (a : ℕ) (l : LockName) (h : Heir) (st : State S F) → Free st → Free (pass m a l h st)
  unfolding go_past next_is ready owned_by
  pass_free a l Nobody st free = free
  pass_free a l (Entrant b) st free = one_moves b (Ready (st.book.activity b).priority) st.book.line refl free
  pass_free a l (Waiter b) st free = one_moves b (Ready (st.book.activity b).priority) st.book.line refl free
  pass_free a l (Trapping b n) st free = one_moves b (Ready (st.book.activity b).priority) st.book.line refl free

  release_free : (a : ℕ) (l : LockName) (st : State S F) → Free st → Free (release m a l st)
  unfolding release owned_by
  release_free a l st free = pass_free a l (heir (λ b c. m.verdict st.store (st.frames b) c) (waiting l st.book.line)) _ free

  trap_free : (a n c : ℕ) (st : State S F) → Free st → Free (trap m a n c st)
  unfolding trap trapped next_is
  trap_free a n c st free = free

  start_free : (a o : ℕ) (full : Bool) (st : State S F) → Free st → Free (start m a o full st)
  unfolding go_past born
  start_free a o true st free = trap_free a 13 0 st free
  start_free a o false st free = one_moves st.book.started (Ready (m.priority st.store o)) st.book.line refl free

  serve_free : (a : ℕ) (w : Did) (st : State S F) → (MayWait w → ⊥) → Free st → Free (serve m a w st)
  unfolding go_past ended next_is
  serve_free a Went st never free = free
  serve_free a Ended st never free = one_leaves a st.book.line free
  serve_free a (Enter l) st never free = absurd (never tt)
  serve_free a (Leave l) st never free = release_free a l (go_past m a st) free
  serve_free a (Await l c) st never free = absurd (never tt)
  serve_free a (Start o) st never free = start_free a o (is_full st.book) st free
  serve_free a (Trapped n c) st never free = trap_free a n c st free

  finish_free : (a : ℕ) (few : Bool) (o : Option F) (st : State S F) → Free st → Free (finish a few o st)
  unfolding restarted ended next_is
  finish_free a true (Some f) st free = free
  finish_free a true None st free = one_leaves a st.book.line free
  finish_free a false o st free = one_leaves a st.book.line free

  tick_free : (o : Option ℕ) (st : State S F) → Free st → Free (tick_of o st)
  unfolding ready
  tick_free None st free = free
  tick_free (Some a) st free = one_moves a (Ready (st.book.activity a).priority) st.book.line refl free

  dispatch_free : (w : ℕ) (o : Option ℕ) (st : State S F) → Free st → Free (dispatch w o st)
  unfolding stands
  dispatch_free w None st free = free
  dispatch_free w (Some a) st free = one_moves a (On w) st.book.line refl free

  module _ (Fits : S → Did → F → Type 0) (never : NeverWaits m Fits) where
    turn_free : (a : ℕ) (n : Next) (st : State S F) → Fitting NoOne Fits st → (v : ℕ) → place_of st.book.line a ≡ Some (On v) → (st.book.activity a).next ≡ n → Free st → Free (turn_by m a n st)
    unfolding turned counted next_is
    turn_free a Runs st fit v on is free =
        let t = m.turn st.store (st.frames a) in
        serve_free a t.left (turned m a t st) (never.turn st.store (st.frames a) (runs_at (λ l. ⊥) (λ w. Fits st.store w (st.frames a)) _ _ (On v) is on (fit.fits a))) free
    turn_free a (WillTrap n) st fit v on is free = trap_free a n 0 st free
    turn_free a (Unwinds (l ∷ locks)) st fit v on is free = release_free a l _ free
    turn_free a (Unwinds []) st fit v on is free = finish_free a (may_restart (st.book.activity a).restarts) (m.anew (st.frames a)) st free
    turn_free a Gone st fit v on is free = free

    step_free : (w : ℕ) (o : Option ℕ) (st : State S F) → Fitting NoOne Fits st → on_worker w st.book.line ≡ o → Free st → Free (step_of m w o st)
    step_free w None st fit is free = dispatch_free w (first_ready st.book.line) st free
    step_free w (Some a) st fit is free =
        let r = found_on st.book.line w a fit.orderly.once is in turn_free a (st.book.activity a).next st fit r.0 r.1 refl free

    happens_in_free : (c : Choice) (st : State S F) → Fitting NoOne Fits st → Free st → Free (happens_in m c st)
    happens_in_free (Step w) st fit free = step_free w (on_worker w st.book.line) st fit refl free
    happens_in_free (Tick w) st fit free = tick_free (on_worker w st.book.line) st free

    happens_free : (c : Choice) (st : State S F) → Fitting NoOne Fits st → Free st → Free (happens m c st)
    unfolding happens
    happens_free c st fit free =
        elim (outcome st.book) as (λ o. Free (if_going o (happens_in m c st) st)) [
          | outcome_is.Going ↦ happens_in_free c st fit free
          | outcome_is.Ended ↦ free
          | outcome_is.Dead ↦ free
          | outcome_is.Spent ↦ free
        ]

    -- nobody asks for a lock
    no_one_asks : (st : State S F) → Fitting NoOne Fits st → Admits m NoOne st
    no_one_asks st fit a l asks =
        never.turn st.store (st.frames a) (runs_at (λ l. ⊥) (λ w. Fits st.store w (st.frames a)) _ _ (On asks.worker) asks.runs asks.on (fit.fits a)) (subst MayWait (sym asks.left) tt)

    execution_free : (cs : List Choice) (st : State S F) → Fitting NoOne Fits st → Free st → Free (execution m cs st)
    execution_free [] st fit free = free
    execution_free (c ∷ cs) st fit free = execution_free cs (happens m c st) (happens_fitting m NoOne Fits never.fits c st (no_one_asks st fit) fit) (happens_free c st fit free)

    pub never_dead : (s : S) (f : F) (budget : ℕ) (cs : List Choice) → Fits s Went f → outcome (execution m cs (start_of s f budget)).book ≢ outcome_is.Dead
    never_dead s f budget cs rest =
        let end = execution m cs (start_of s f budget) in
        not_dead end.book.line end.book.spent (execution_free cs (start_of s f budget) (start_fitting m NoOne Fits never.fits s f budget rest) (refl, tt))
