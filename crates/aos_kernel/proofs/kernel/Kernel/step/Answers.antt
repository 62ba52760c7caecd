use Rattle.std.proofs.Common.{arith, ◌≡◌, ◌≢◌, ◌<◌, List, refl, sym, ap, ◌∙◌, subst}
use Rattle.std.specs.Prelude.{Some, None, All}
use Rattle.std.specs.Arc.{arc_value}
use Rattle.aos_base.specs.declared.kernel.Event.{Event}
use Rattle.aos_base.specs.declared.kernel.Sched.{Sched}
use Rattle.aos_base.specs.declared.kernel.Outcome.TheVariants.{Going}
use Rattle.aos_base.specs.Book.{On, outcome, on_worker, first_ready, stands}
use Rattle.aos_base.specs.Machine.{State, Step, happens, turn_by, on_book}
use Rattle.aos_code.specs.declared.image.Image.{Image}
use Rattle.aos_code.specs.Memory.{Memory}
use Rattle.aos_code.specs.Machine.{Frames, machine}
use Rattle.aos_base.specs.Schedule.{choices, IsEntry}
use Rattle.aos_kernel.specs.Log.{with_step}
use Rattle.aos_kernel.specs.Run.{Run, state_of, comes_to}
use Rattle.aos_kernel.specs.Conditions.{HasRooms}
use Rattle.aos_kernel.specs.Shows.{Shows}
use Rattle.aos_kernel.proofs.Logs.{choices-with_step, entries-with_step}
use Rattle.aos_kernel.proofs.Histories.{state_after, keeps_after, keeps_silent, steps_by, dispatches, idles, is_over, comes_over, comes_turned, comes_dispatched, comes_idle, unspent_while, is_stood, has_turn}
use Rattle.aos_kernel.proofs.kernel.Kernel.step.Goals as goal

pub returns-in_default : goal.returns-in_default
returns-in_default c =
    let k = c.self.inside in
    let r : Run = record { image = arc_value k.image; workers = k.workers; budget = k.budget; log = k.log.items; lent = k.lent.items; loans = k.loans } in
    let h = c.self.invariant.0 in
    let st = state_of r in
    let w = c.args.w in
    let over : outcome st.book ≢ Going = λ e. c.in_default.not-Going (c.outcome.ensures r.image st.book.events st h.shows ∙ e) in
    record {
      stepped = sym (comes_over w r over) ∙ ap (comes_to w) c.self.view_is;
      log = refl;
      same = refl;
      state = subst (λ (x : Run). state_of x ≡ happens (machine x.image) (Step w) (state_of x)) c.self.view_is (sym (is_over r.image st (Step w) over));
      err = tt;
    }

pub invariant_of-self-in_err-turn-in-Some : goal.invariant_of-self-in_err-turn-in-Some
invariant_of-self-in_err-turn-in-Some c =
    let k = c.self.inside in
    let r : Run = record { image = arc_value k.image; workers = k.workers; budget = k.budget; log = k.log.items; lent = k.lent.items; loans = k.loans } in
    let h = c.self.invariant.0 in
    let st = state_of r in
    let same = subst (λ (image : Image). (earlier : List Event) (x : State Memory Frames) → Shows image earlier k.tables x → Shows image earlier c.turn.new.self x) c.deref.ensures c.in_err-turn-in-Some.ensures.err in
    let f0 = c.self.invariant.1 in
    let f1 = c.reserve.ensures.len in
    let f2 = c.reserve.ensures.capacity in
    (keeps_silent r k.tables k.events.items h c.turn.new.self c.reserve.new.self.items (same st.book.events st h.shows) c.reserve.ensures.items, omega (arith, f0, f1, f2))

pub invariant_of-self-in-Some : goal.invariant_of-self-in-Some
invariant_of-self-in-Some c =
    let k = c.self.inside in
    let r : Run = record { image = arc_value k.image; workers = k.workers; budget = k.budget; log = k.log.items; lent = k.lent.items; loans = k.loans } in
    let h = c.self.invariant.0 in
    let st = state_of r in
    let w = c.args.w in
    let a = c.in-Some.activity in
    let going : outcome st.book ≡ Going = sym (c.in-Going.ensures r.image st.book.events st h.shows) in
    let on : on_worker c.args.w st.book.line ≡ Some a = sym (c.in-Some.ensures.on r.image st.book.events st h.shows) in
    let logged = c.add_step.ensures.items ∙ ap (with_step w) c.reserve.ensures.items in
    let fits : w < r.workers = subst (λ (x : Run). w < x.workers) (sym c.self.view_is) c.requires.worker in
    let shown = subst (λ (image : Image). (earlier : List Event) (x : State Memory Frames) → Shows image earlier k.tables x → x.book.spent ≡ None → Shows image earlier c.turn.new.self (turn_by (machine image) a (x.book.activity a).next x))
    c.deref.ensures c.in_ok-turn-in-Some.ensures.ok in
    let f0 = c.in_ok-reserve-in-Some.ensures.ok in
    let f1 = c.len.ensures in
    let f2 = k.lent.ok.0 in
    let f3 = c.add_step.ensures.len in
    let f4 = c.add_step.ensures.capacity in (
      keeps_after r c.add_step.new.log.items (Step w) c.turn.new.self c.hand_out.new.tables c.hand_out.new.events.items (turn_by (machine r.image) a (st.book.activity a).next st)
          (ap choices logged ∙ choices-with_step w r.log) (steps_by r.image st w a going on)
          (shown st.book.events st h.shows (unspent_while r k.tables k.events.items h going))
          c.hand_out.ensures.tables c.hand_out.ensures.events (subst (λ l. All (IsEntry r.workers) l) (sym logged) (entries-with_step r.workers w r.log fits h.entries)) k.tables k.events.items h,
      omega (arith, f0, f1, f2, f3, f4),
    )

pub invariant_of-self-in-Some-dispatch : goal.invariant_of-self-in-Some-dispatch
invariant_of-self-in-Some-dispatch c =
    let k = c.self.inside in
    let r : Run = record { image = arc_value k.image; workers = k.workers; budget = k.budget; log = k.log.items; lent = k.lent.items; loans = k.loans } in
    let h = c.self.invariant.0 in
    let st = state_of r in
    let w = c.args.w in
    let a = c.in-Some-dispatch.field-0 in
    let going : outcome st.book ≡ Going = sym (c.in-Going.ensures r.image st.book.events st h.shows) in
    let on : on_worker c.args.w st.book.line ≡ None = sym (c.in-None.ensures.on r.image st.book.events st h.shows) in
    let next : first_ready st.book.line ≡ Some a = sym (c.in-Some-dispatch.ensures.first r.image st.book.events st h.shows) in
    let logged = c.add_step-in-Some-dispatch.ensures.items ∙ ap (with_step w) c.reserve-in-None.ensures.items in
    let fits : w < r.workers = subst (λ (x : Run). w < x.workers) (sym c.self.view_is) c.requires.worker in
    let f0 = c.in_ok-reserve-in-None.ensures.ok in
    let f1 = c.len-in-None.ensures in
    let f2 = k.lent.ok.0 in
    let f3 = c.add_step-in-Some-dispatch.ensures.len in
    let f4 = c.add_step-in-Some-dispatch.ensures.capacity in (
      keeps_after r c.add_step-in-Some-dispatch.new.log.items (Step w) c.dispatch.new.self c.hand_out-in-Some-dispatch.new.tables c.hand_out-in-Some-dispatch.new.events.items (on_book (stands a (On w)) st)
          (ap choices logged ∙ choices-with_step w r.log) (dispatches r.image st w a going on next)
          (c.in-Some-dispatch.ensures.some r.image st.book.events st h.shows)
          c.hand_out-in-Some-dispatch.ensures.tables c.hand_out-in-Some-dispatch.ensures.events (subst (λ l. All (IsEntry r.workers) l) (sym logged) (entries-with_step r.workers w r.log fits h.entries)) k.tables k.events.items h,
      omega (arith, f0, f1, f2, f3, f4),
    )

pub returns-in_ok-turn-in-Some-clause-stepped : goal.returns-in_ok-turn-in-Some-clause-stepped
returns-in_ok-turn-in-Some-clause-stepped c =
    let k = c.self.inside in
    let r : Run = record { image = arc_value k.image; workers = k.workers; budget = k.budget; log = k.log.items; lent = k.lent.items; loans = k.loans } in
    let h = c.self.invariant.0 in
    let st = state_of r in
    let w = c.args.w in
    let a = c.in-Some.activity in
    let going : outcome st.book ≡ Going = sym (c.in-Going.ensures r.image st.book.events st h.shows) in
    let on : on_worker c.args.w st.book.line ≡ Some a = sym (c.in-Some.ensures.on r.image st.book.events st h.shows) in
    sym (comes_turned w a r going on) ∙ ap (comes_to w) c.self.view_is

pub returns-in_ok-turn-in-Some-clause-state : goal.returns-in_ok-turn-in-Some-clause-state
returns-in_ok-turn-in-Some-clause-state c =
    let k = c.self.inside in
    let r : Run = record { image = arc_value k.image; workers = k.workers; budget = k.budget; log = k.log.items; lent = k.lent.items; loans = k.loans } in
    let h = c.self.invariant.0 in
    let st = state_of r in
    let w = c.args.w in
    let logged = c.add_step.ensures.items ∙ ap (with_step w) c.reserve.ensures.items in
    state_after r c.add_step.new.log.items (Step w) (ap choices logged ∙ choices-with_step w r.log) ∙ ap (λ (x : Run). happens (machine x.image) (Step w) (state_of x)) c.self.view_is

pub returns-in-Some-dispatch-clause-stepped : goal.returns-in-Some-dispatch-clause-stepped
returns-in-Some-dispatch-clause-stepped c =
    let k = c.self.inside in
    let r : Run = record { image = arc_value k.image; workers = k.workers; budget = k.budget; log = k.log.items; lent = k.lent.items; loans = k.loans } in
    let h = c.self.invariant.0 in
    let st = state_of r in
    let w = c.args.w in
    let a = c.in-Some-dispatch.field-0 in
    let going : outcome st.book ≡ Going = sym (c.in-Going.ensures r.image st.book.events st h.shows) in
    let on : on_worker c.args.w st.book.line ≡ None = sym (c.in-None.ensures.on r.image st.book.events st h.shows) in
    let next : first_ready st.book.line ≡ Some a = sym (c.in-Some-dispatch.ensures.first r.image st.book.events st h.shows) in
    sym (comes_dispatched w a r going on next) ∙ ap (comes_to w) c.self.view_is

pub returns-in-Some-dispatch-clause-state : goal.returns-in-Some-dispatch-clause-state
returns-in-Some-dispatch-clause-state c =
    let k = c.self.inside in
    let r : Run = record { image = arc_value k.image; workers = k.workers; budget = k.budget; log = k.log.items; lent = k.lent.items; loans = k.loans } in
    let h = c.self.invariant.0 in
    let st = state_of r in
    let w = c.args.w in
    let logged = c.add_step-in-Some-dispatch.ensures.items ∙ ap (with_step w) c.reserve-in-None.ensures.items in
    state_after r c.add_step-in-Some-dispatch.new.log.items (Step w) (ap choices logged ∙ choices-with_step w r.log) ∙ ap (λ (x : Run). happens (machine x.image) (Step w) (state_of x)) c.self.view_is

pub returns-in-None-dispatch-clause-stepped : goal.returns-in-None-dispatch-clause-stepped
returns-in-None-dispatch-clause-stepped c =
    let k = c.self.inside in
    let r : Run = record { image = arc_value k.image; workers = k.workers; budget = k.budget; log = k.log.items; lent = k.lent.items; loans = k.loans } in
    let h = c.self.invariant.0 in
    let st = state_of r in
    let w = c.args.w in
    let going : outcome st.book ≡ Going = sym (c.in-Going.ensures r.image st.book.events st h.shows) in
    let on : on_worker c.args.w st.book.line ≡ None = sym (c.in-None.ensures.on r.image st.book.events st h.shows) in
    let next : first_ready st.book.line ≡ None = sym (c.in-None-dispatch.ensures.first r.image st.book.events st h.shows) in
    sym (comes_idle w r going on next) ∙ ap (comes_to w) c.self.view_is

pub returns-in-None-dispatch-clause-state : goal.returns-in-None-dispatch-clause-state
returns-in-None-dispatch-clause-state c =
    let k = c.self.inside in
    let r : Run = record { image = arc_value k.image; workers = k.workers; budget = k.budget; log = k.log.items; lent = k.lent.items; loans = k.loans } in
    let h = c.self.invariant.0 in
    let st = state_of r in
    let w = c.args.w in
    let going : outcome st.book ≡ Going = sym (c.in-Going.ensures r.image st.book.events st h.shows) in
    let on : on_worker c.args.w st.book.line ≡ None = sym (c.in-None.ensures.on r.image st.book.events st h.shows) in
    let next : first_ready st.book.line ≡ None = sym (c.in-None-dispatch.ensures.first r.image st.book.events st h.shows) in
    ap (λ (l : List Sched). state_of (record r { log = l })) c.reserve-in-None.ensures.items ∙ ap state_of c.self.view_is
    ∙ subst (λ (x : Run). state_of x ≡ happens (machine x.image) (Step w) (state_of x)) c.self.view_is (sym (idles r.image st w going on next))

pub turn-requires-clause-turn : goal.turn-requires-clause-turn
turn-requires-clause-turn c =
    let k = c.self.inside in
    let r : Run = record { image = arc_value k.image; workers = k.workers; budget = k.budget; log = k.log.items; lent = k.lent.items; loans = k.loans } in
    let h = c.self.invariant.0 in
    let st = state_of r in
    let on : on_worker c.args.w st.book.line ≡ Some c.in-Some.activity = sym (c.in-Some.ensures.on r.image st.book.events st h.shows) in
    has_turn r k.tables k.events.items h c.args.w c.in-Some.activity (subst (λ (x : Run). c.args.w < x.workers) (sym c.self.view_is) c.requires.worker) on

pub dispatch-requires-clause-stood : goal.dispatch-requires-clause-stood
dispatch-requires-clause-stood c =
    let k = c.self.inside in
    let r : Run = record { image = arc_value k.image; workers = k.workers; budget = k.budget; log = k.log.items; lent = k.lent.items; loans = k.loans } in
    is_stood r k.tables k.events.items c.self.invariant.0

pub invariant_of-self-in-None-dispatch : goal.invariant_of-self-in-None-dispatch
invariant_of-self-in-None-dispatch c =
    let k = c.self.inside in
    let r : Run = record { image = arc_value k.image; workers = k.workers; budget = k.budget; log = k.log.items; lent = k.lent.items; loans = k.loans } in
    let h = c.self.invariant.0 in
    let st = state_of r in
    let f0 = c.self.invariant.1 in
    let f1 = c.reserve-in-None.ensures.len in
    let f2 = c.reserve-in-None.ensures.capacity in
    (keeps_silent r k.tables k.events.items h c.dispatch.new.self c.reserve-in-None.new.self.items (c.in-None-dispatch.ensures.none r.image refl st.book.events st h.shows) c.reserve-in-None.ensures.items, omega (arith, f0, f1, f2))

pub turn-requires-clause-stack : goal.turn-requires-clause-stack
turn-requires-clause-stack c = subst (λ (image : Image). HasRooms image c.self.inside.tables.stack) (sym c.deref.ensures) c.self.invariant.0.shows.room
