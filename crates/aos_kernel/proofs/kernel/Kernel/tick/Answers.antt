use Rattle.std.proofs.Common.{arith, ◌≡◌, ◌≢◌, ◌<◌, refl, sym, ap, ◌∙◌, subst}
use Rattle.std.specs.Prelude.{Some, None, All}
use Rattle.std.specs.Arc.{arc_value}
use Rattle.aos_base.specs.declared.kernel.Outcome.TheVariants.{Going}
use Rattle.aos_base.specs.Book.{outcome, on_worker, ready}
use Rattle.aos_base.specs.Machine.{Tick, happens, on_book}
use Rattle.aos_code.specs.Machine.{machine}
use Rattle.aos_base.specs.Schedule.{choices, IsEntry}
use Rattle.aos_kernel.specs.Log.{with_tick}
use Rattle.aos_kernel.specs.Run.{Run, state_of, ticks}
use Rattle.aos_kernel.proofs.Logs.{choices-with_tick, entries-with_tick}
use Rattle.aos_kernel.proofs.Histories.{state_after, keeps_after, ticks_by, ticks_nothing, is_over, ticks_over, ticks_some, ticks_none, has_turn}
use Rattle.aos_kernel.proofs.kernel.Kernel.tick.Goals as goal

pub returns-in_default : goal.returns-in_default
returns-in_default c =
    let k = c.self.inside in
    let r : Run = record { image = arc_value k.image; workers = k.workers; budget = k.budget; log = k.log.items; lent = k.lent.items; loans = k.loans } in
    let h = c.self.invariant.0 in
    let st = state_of r in
    let w = c.args.w in
    let over : outcome st.book ≢ Going = λ e. c.in_default.not-Going (c.outcome.ensures r.image st.book.events st h.shows ∙ e) in
    record {
      ticked = sym (ticks_over w r over) ∙ ap (ticks w) c.self.view_is;
      log = refl;
      same = refl;
      state = subst (λ (x : Run). state_of x ≡ happens (machine x.image) (Tick w) (state_of x)) c.self.view_is (sym (is_over r.image st (Tick w) over));
      err = tt;
    }

pub invariant_of-self-in-Some : goal.invariant_of-self-in-Some
invariant_of-self-in-Some c =
    let k = c.self.inside in
    let r : Run = record { image = arc_value k.image; workers = k.workers; budget = k.budget; log = k.log.items; lent = k.lent.items; loans = k.loans } in
    let h = c.self.invariant.0 in
    let st = state_of r in
    let w = c.args.w in
    let a = c.in-Some.activity in
    let going : outcome st.book ≡ Going = sym (c.in-Going.ensures r.image st.book.events st h.shows) in
    let on : on_worker c.args.w st.book.line ≡ Some a = sym (c.in-Some.ensures.on r.image st.book.events st h.shows) in
    let logged : c.push_reserved.new.self.items ≡ with_tick w r.log = c.push_reserved.ensures.items ∙ ap (with_tick w) c.reserve.ensures.items in
    let fits : w < r.workers = subst (λ (x : Run). w < x.workers) (sym c.self.view_is) c.requires.worker in
    let f0 = c.in_ok-reserve-in-Some.ensures.ok in
    let f1 = c.len.ensures in
    let f2 = k.lent.ok.0 in
    let f3 = c.push_reserved.ensures.len in
    let f4 = c.push_reserved.ensures.capacity in (
      keeps_after r c.push_reserved.new.self.items (Tick w) c.ready.new.self c.hand_out.new.tables c.hand_out.new.events.items (on_book (ready a) st)
          (ap choices logged ∙ choices-with_tick w r.log) (ticks_by r.image st w a going on)
          (c.ready.ensures r.image st.book.events st h.shows)
          c.hand_out.ensures.tables c.hand_out.ensures.events (subst (λ l. All (IsEntry r.workers) l) (sym logged) (entries-with_tick r.workers w r.log fits h.entries)) k.tables k.events.items h,
      omega (arith, f0, f1, f2, f3, f4),
    )

pub returns-in_ok-reserve-in-Some-clause-ticked : goal.returns-in_ok-reserve-in-Some-clause-ticked
returns-in_ok-reserve-in-Some-clause-ticked c =
    let k = c.self.inside in
    let r : Run = record { image = arc_value k.image; workers = k.workers; budget = k.budget; log = k.log.items; lent = k.lent.items; loans = k.loans } in
    let h = c.self.invariant.0 in
    let st = state_of r in
    let w = c.args.w in
    let a = c.in-Some.activity in
    let going : outcome st.book ≡ Going = sym (c.in-Going.ensures r.image st.book.events st h.shows) in
    let on : on_worker c.args.w st.book.line ≡ Some a = sym (c.in-Some.ensures.on r.image st.book.events st h.shows) in
    sym (ticks_some w a r going on) ∙ ap (ticks w) c.self.view_is

pub returns-in_ok-reserve-in-Some-clause-state : goal.returns-in_ok-reserve-in-Some-clause-state
returns-in_ok-reserve-in-Some-clause-state c =
    let k = c.self.inside in
    let r : Run = record { image = arc_value k.image; workers = k.workers; budget = k.budget; log = k.log.items; lent = k.lent.items; loans = k.loans } in
    let h = c.self.invariant.0 in
    let st = state_of r in
    let w = c.args.w in
    let logged : c.push_reserved.new.self.items ≡ with_tick w r.log = c.push_reserved.ensures.items ∙ ap (with_tick w) c.reserve.ensures.items in
    state_after r c.push_reserved.new.self.items (Tick w) (ap choices logged ∙ choices-with_tick w r.log) ∙ ap (λ (x : Run). happens (machine x.image) (Tick w) (state_of x)) c.self.view_is

pub returns-in-None-clause-state : goal.returns-in-None-clause-state
returns-in-None-clause-state c =
    let k = c.self.inside in
    let r : Run = record { image = arc_value k.image; workers = k.workers; budget = k.budget; log = k.log.items; lent = k.lent.items; loans = k.loans } in
    let h = c.self.invariant.0 in
    let st = state_of r in
    let w = c.args.w in
    let going : outcome st.book ≡ Going = sym (c.in-Going.ensures r.image st.book.events st h.shows) in
    let on : on_worker c.args.w st.book.line ≡ None = sym (c.in-None.ensures.on r.image st.book.events st h.shows) in
    subst (λ (x : Run). state_of x ≡ happens (machine x.image) (Tick w) (state_of x)) c.self.view_is (sym (ticks_nothing r.image st w going on))

pub ready-requires : goal.ready-requires
ready-requires c =
    let k = c.self.inside in
    let r : Run = record { image = arc_value k.image; workers = k.workers; budget = k.budget; log = k.log.items; lent = k.lent.items; loans = k.loans } in
    let h = c.self.invariant.0 in
    let st = state_of r in
    let on : on_worker c.args.w st.book.line ≡ Some c.in-Some.activity = sym (c.in-Some.ensures.on r.image st.book.events st h.shows) in
    has_turn r k.tables k.events.items h c.args.w c.in-Some.activity (subst (λ (x : Run). c.args.w < x.workers) (sym c.self.view_is) c.requires.worker) on

pub returns-in-None-clause-ticked : goal.returns-in-None-clause-ticked
returns-in-None-clause-ticked c =
    let k = c.self.inside in
    let r : Run = record { image = arc_value k.image; workers = k.workers; budget = k.budget; log = k.log.items; lent = k.lent.items; loans = k.loans } in
    let h = c.self.invariant.0 in
    let st = state_of r in
    let going : outcome st.book ≡ Going = sym (c.in-Going.ensures r.image st.book.events st h.shows) in
    let on : on_worker c.args.w st.book.line ≡ None = sym (c.in-None.ensures.on r.image st.book.events st h.shows) in
    sym (ticks_none c.args.w r going on) ∙ ap (ticks c.args.w) c.self.view_is
