use Rattle.std.proofs.Common.{◌≡◌, ◌≢◌, ◌<◌, ◌+◌, ℕ, List, [], ◌∷◌, ◌++◌, inl, inr, true, false, refl, sym, ap, ◌∙◌, subst, arith, length, length-append}
use Rattle.std.specs.Prelude.{Option, Some, None, IfSome, IfNone, slice_get}
use Rattle.std.specs.Arc.{arc_value}
use Rattle.aos_base.specs.declared.kernel.Event.{Event}
use Rattle.aos_base.specs.declared.kernel.Sched.{Sched}
use Rattle.aos_base.specs.declared.kernel.Outcome.TheVariants.{Going}
use Rattle.aos_base.specs.Book as book
use Rattle.aos_base.specs.Book.{on_worker, outcome}
use Rattle.aos_base.specs.Machine.{State}
use Rattle.aos_code.specs.declared.image.Image.{Image}
use Rattle.aos_code.specs.Memory.{Memory}
use Rattle.aos_code.specs.Machine.{Frames}
use Rattle.aos_store.specs.declared.frames.Frames.{Frames as Kept}
use Rattle.aos_store.specs.Store.{frames_in}
use Rattle.aos_cpu.specs.Private.{is_private}
use Rattle.aos_loan.specs.Loans.{Lending}
use Rattle.aos_kernel.specs.declared.activity.Activity.{Activity}
use Rattle.aos_kernel.specs.declared.activity.Next.TheVariants.{Runs, WillTrap, Unwinds, Gone}
use Rattle.aos_kernel.specs.Run.{Run, among, state_of}
use Rattle.aos_kernel.specs.Keeps.{Keeps}
use Rattle.aos_kernel.specs.Lends.{GoesOut, IsShared, LendsNone, Lends}
use Rattle.aos_kernel.specs.Shows.{Shows}
use Rattle.aos_kernel.proofs.Histories.{keeps_silent, has_turn}
use Rattle.aos_kernel.proofs.TablesShown.{next_is_in}
use Rattle.aos_kernel.proofs.Lending.{is_lent}
use Rattle.aos_kernel.proofs.kernel.Kernel.lend.Goals as goal

pub returns-in_default : goal.returns-in_default
returns-in_default c =
    let k = c.self.inside in
    let r : Run = record { image = arc_value k.image; workers = k.workers; budget = k.budget; log = k.log.items; lent = k.lent.items; loans = k.loans } in
    let told = k.events.items in
    let h = c.self.invariant.0 in
    let st = state_of r in
    let w = c.args.w in
    let over : outcome st.book ≢ Going = λ e. c.in_default.not-Going (c.outcome.ensures r.image st.book.events st h.shows ∙ e) in
    record { loan = tt; none = subst (λ (x : Run). LendsNone w x) c.self.view_is (inr (inl over)); after = refl; err = tt }

pub returns-in_default-on-clause-none : goal.returns-in_default-on-clause-none
returns-in_default-on-clause-none c =
    let k = c.self.inside in
    let r : Run = record { image = arc_value k.image; workers = k.workers; budget = k.budget; log = k.log.items; lent = k.lent.items; loans = k.loans } in
    let told = k.events.items in
    let h = c.self.invariant.0 in
    let st = state_of r in
    let w = c.args.w in
    let no_one : on_worker w st.book.line ≡ None = sym (c.in_default-on.ensures.on r.image st.book.events st h.shows) in
    subst (λ (x : Run). LendsNone w x) c.self.view_is (inr (inr (inl no_one)))

pub take_frames-requires-clause-turn : goal.take_frames-requires-clause-turn
take_frames-requires-clause-turn c =
    let k = c.self.inside in
    let r : Run = record { image = arc_value k.image; workers = k.workers; budget = k.budget; log = k.log.items; lent = k.lent.items; loans = k.loans } in
    let told = k.events.items in
    let h = c.self.invariant.0 in
    let st = state_of r in
    let w = c.args.w in
    let a = c.in-Some.activity in
    let on : on_worker w st.book.line ≡ Some a = sym (c.in-Some.ensures.on r.image st.book.events st h.shows) in
    let turn = has_turn r k.tables told h w a (subst (λ (x : Run). w < x.workers) (sym c.self.view_is) c.requires) on in
    turn

pub invariant_of-self-in_err-frames-in-Runs : goal.invariant_of-self-in_err-frames-in-Runs
invariant_of-self-in_err-frames-in-Runs c =
    let k = c.self.inside in
    let r : Run = record { image = arc_value k.image; workers = k.workers; budget = k.budget; log = k.log.items; lent = k.lent.items; loans = k.loans } in
    let told = k.events.items in
    let h = c.self.invariant.0 in
    let st = state_of r in
    let w = c.args.w in
    let has = c.self.invariant.1 in
    let len = c.reserve.ensures.len in
    let cap = c.reserve.ensures.capacity in
    let same_lent = ap length c.reserve-2.ensures.items in
    let shows_same = subst (λ (i : Image). (earlier : List Event) (x : State Memory Frames) → Shows i earlier k.tables x → Shows i earlier c.take_frames.new.self x) c.deref-in-Runs.ensures c.take_frames.ensures.same in
    let shown = shows_same st.book.events st h.shows in
    let K : Keeps r c.take_frames.new.self told = keeps_silent r k.tables told h c.take_frames.new.self k.log.items shown refl in
    (subst (λ (x : List Sched × List ℕ). Keeps (record r { log = x.0; lent = x.1 }) c.take_frames.new.self told) (λ i. (sym c.reserve.ensures.items i, sym c.reserve-2.ensures.items i)) K, omega (arith, has, len, cap, same_lent))

pub invariant_of-self-in-None-branch-5 : goal.invariant_of-self-in-None-branch-5
invariant_of-self-in-None-branch-5 c =
    let k = c.self.inside in
    let r : Run = record { image = arc_value k.image; workers = k.workers; budget = k.budget; log = k.log.items; lent = k.lent.items; loans = k.loans } in
    let told = k.events.items in
    let h = c.self.invariant.0 in
    let st = state_of r in
    let w = c.args.w in
    let has = c.self.invariant.1 in
    let len = c.reserve.ensures.len in
    let cap = c.reserve.ensures.capacity in
    let same_lent = ap length c.reserve-2.ensures.items in
    let shows_same = subst (λ (i : Image). (earlier : List Event) (x : State Memory Frames) → Shows i earlier k.tables x → Shows i earlier c.take_frames.new.self x) c.deref-in-Runs.ensures c.take_frames.ensures.same in
    let shown = shows_same st.book.events st h.shows in
    let K : Keeps r c.take_frames.new.self told = keeps_silent r k.tables told h c.take_frames.new.self k.log.items shown refl in
    (subst (λ (x : List Sched × List ℕ). Keeps (record r { log = x.0; lent = x.1 }) c.take_frames.new.self told) (λ i. (sym c.reserve.ensures.items i, sym c.reserve-2.ensures.items i)) K, omega (arith, has, len, cap, same_lent))

pub invariant_of-self-in-Lent-1 : goal.invariant_of-self-in-Lent-1
invariant_of-self-in-Lent-1 c =
    let k = c.self.inside in
    let r : Run = record { image = arc_value k.image; workers = k.workers; budget = k.budget; log = k.log.items; lent = k.lent.items; loans = k.loans } in
    let told = k.events.items in
    let h = c.self.invariant.0 in
    let st = state_of r in
    let w = c.args.w in
    let has = c.self.invariant.1 in
    let len = c.reserve.ensures.len in
    let cap = c.reserve.ensures.capacity in
    let same_lent = ap length c.reserve-2.ensures.items in
    let K : Keeps r k.tables told = keeps_silent r k.tables told h k.tables k.log.items h.shows refl in
    (subst (λ (x : List Sched × List ℕ). Keeps (record r { log = x.0; lent = x.1 }) k.tables told) (λ i. (sym c.reserve.ensures.items i, sym c.reserve-2.ensures.items i)) K, omega (arith, has, len, cap, same_lent))

pub invariant_of-self-in-WillTrap-1 : goal.invariant_of-self-in-WillTrap-1
invariant_of-self-in-WillTrap-1 c =
    let k = c.self.inside in
    let r : Run = record { image = arc_value k.image; workers = k.workers; budget = k.budget; log = k.log.items; lent = k.lent.items; loans = k.loans } in
    let told = k.events.items in
    let h = c.self.invariant.0 in
    let st = state_of r in
    let w = c.args.w in
    let has = c.self.invariant.1 in
    let len = c.reserve.ensures.len in
    let cap = c.reserve.ensures.capacity in
    let same_lent = ap length c.reserve-2.ensures.items in
    let K : Keeps r k.tables told = keeps_silent r k.tables told h k.tables k.log.items h.shows refl in
    (subst (λ (x : List Sched × List ℕ). Keeps (record r { log = x.0; lent = x.1 }) k.tables told) (λ i. (sym c.reserve.ensures.items i, sym c.reserve-2.ensures.items i)) K, omega (arith, has, len, cap, same_lent))

pub invariant_of-self-in-Unwinds-1 : goal.invariant_of-self-in-Unwinds-1
invariant_of-self-in-Unwinds-1 c =
    let k = c.self.inside in
    let r : Run = record { image = arc_value k.image; workers = k.workers; budget = k.budget; log = k.log.items; lent = k.lent.items; loans = k.loans } in
    let told = k.events.items in
    let h = c.self.invariant.0 in
    let st = state_of r in
    let w = c.args.w in
    let has = c.self.invariant.1 in
    let len = c.reserve.ensures.len in
    let cap = c.reserve.ensures.capacity in
    let same_lent = ap length c.reserve-2.ensures.items in
    let K : Keeps r k.tables told = keeps_silent r k.tables told h k.tables k.log.items h.shows refl in
    (subst (λ (x : List Sched × List ℕ). Keeps (record r { log = x.0; lent = x.1 }) k.tables told) (λ i. (sym c.reserve.ensures.items i, sym c.reserve-2.ensures.items i)) K, omega (arith, has, len, cap, same_lent))

pub invariant_of-self-in-Gone-1 : goal.invariant_of-self-in-Gone-1
invariant_of-self-in-Gone-1 c =
    let k = c.self.inside in
    let r : Run = record { image = arc_value k.image; workers = k.workers; budget = k.budget; log = k.log.items; lent = k.lent.items; loans = k.loans } in
    let told = k.events.items in
    let h = c.self.invariant.0 in
    let st = state_of r in
    let w = c.args.w in
    let has = c.self.invariant.1 in
    let len = c.reserve.ensures.len in
    let cap = c.reserve.ensures.capacity in
    let same_lent = ap length c.reserve-2.ensures.items in
    let K : Keeps r k.tables told = keeps_silent r k.tables told h k.tables k.log.items h.shows refl in
    (subst (λ (x : List Sched × List ℕ). Keeps (record r { log = x.0; lent = x.1 }) k.tables told) (λ i. (sym c.reserve.ensures.items i, sym c.reserve-2.ensures.items i)) K, omega (arith, has, len, cap, same_lent))

pub invariant_of-self-in-Some-2 : goal.invariant_of-self-in-Some-2
invariant_of-self-in-Some-2 c =
    let k = c.self.inside in
    let r : Run = record { image = arc_value k.image; workers = k.workers; budget = k.budget; log = k.log.items; lent = k.lent.items; loans = k.loans } in
    let told = k.events.items in
    let h = c.self.invariant.0 in
    let st = state_of r in
    let w = c.args.w in
    let shows_same = subst (λ (i : Image). (earlier : List Event) (x : State Memory Frames) → Shows i earlier k.tables x → Shows i earlier c.take_frames.new.self x) c.deref-in-Runs.ensures c.take_frames.ensures.same in
    let shown = shows_same st.book.events st h.shows in
    let K : Keeps r c.take_frames.new.self told = keeps_silent r k.tables told h c.take_frames.new.self k.log.items shown refl in
    let lent = c.push_reserved.ensures.items ∙ ap (λ (x : List ℕ). x ++ w ∷ []) c.reserve-2.ensures.items in
    let n0 = ap length lent in
    let n1 = length-append k.lent.items (w ∷ []) in
    let ok = c.in_ok-reserve.ensures.ok in
    let many = c.len-many.ensures in
    let own = k.lent.ok.0 in
    let K2 : Keeps (record r { lent = k.lent.items ++ w ∷ [] }) c.take_frames.new.self told = record { shows = K.shows; events_are = K.events_are; entries = K.entries; one_worker = K.one_worker; few_workers = K.few_workers; one_statement = K.one_statement; few_statements = K.few_statements } in
    (subst (λ (x : List Sched × List ℕ). Keeps (record r { log = x.0; lent = x.1 }) c.take_frames.new.self told) (λ i. (sym c.reserve.ensures.items i, sym lent i)) K2, omega (arith, ok, many, own, n0, n1))

pub returns-in-Some-2-clause-loan : goal.returns-in-Some-2-clause-loan
returns-in-Some-2-clause-loan c =
    let k = c.self.inside in
    let r : Run = record { image = arc_value k.image; workers = k.workers; budget = k.budget; log = k.log.items; lent = k.lent.items; loans = k.loans } in
    let told = k.events.items in
    let h = c.self.invariant.0 in
    let st = state_of r in
    let w = c.args.w in
    let a = c.in-Some.activity in
    let on : on_worker w st.book.line ≡ Some a = sym (c.in-Some.ensures.on r.image st.book.events st h.shows) in
    let turn = has_turn r k.tables told h w a (subst (λ (x : Run). w < x.workers) (sym c.self.view_is) c.requires) on in
    let now = subst (λ (xs : List Activity). (kept : Activity) → slice_get xs a ≡ Some kept → Runs ≡ kept.next) c.deref-2.ensures.value c.in-Runs.ensures in
    let next = next_is_in r.image st.book.events k.tables st a h.shows turn Runs now in
    let outs = subst (λ (i : Image). IfSome c.in_ok-frames-in-Runs.field-0 (λ (f : Kept). (earlier : List Event) (x : State Memory Frames) → Shows i earlier k.tables x → GoesOut i a f x)) c.deref-in-Runs.ensures c.in_ok-frames-in-Runs.ensures.out in
    let goes = subst (λ (o : Option Kept). IfSome o (λ (f : Kept). (earlier : List Event) (x : State Memory Frames) → Shows r.image earlier k.tables x → GoesOut r.image a f x)) c.in-Some-2.is outs in
    let gone : GoesOut r.image a c.in-Some-2.frames st = goes st.book.events st h.shows in
    let l : Lending = record { image = arc_value c.in_ok-image.image; budget = k.budget; turns = 0; frames = c.in-Some-2.frames } in
    let same : l.image ≡ r.image = c.in_ok-image.ensures.cases in
    let lends : Lends w r l = record {
      free = ap (among w) (sym c.deref.ensures.value) ∙ sym c.is_among.ensures ∙ c.if-is_among.false;
      going = sym (c.in-Going.ensures r.image st.book.events st h.shows);
      private = subst (λ (i : Image). is_private i (frames_in l.frames) ≡ true) (sym same) gone.private;
      image = same;
      budget = refl;
      none = refl;
      loan = is_lent r w a l on next same refl gone;
    } in
    subst (λ (x : Run × Lending). Lends w x.0 x.1) (λ i. (c.self.view_is i, sym c.new.ensures i)) lends

pub returns-in-None-clause-none : goal.returns-in-None-clause-none
returns-in-None-clause-none c =
    let k = c.self.inside in
    let r : Run = record { image = arc_value k.image; workers = k.workers; budget = k.budget; log = k.log.items; lent = k.lent.items; loans = k.loans } in
    let told = k.events.items in
    let h = c.self.invariant.0 in
    let st = state_of r in
    let w = c.args.w in
    let a = c.in-Some.activity in
    let on : on_worker w st.book.line ≡ Some a = sym (c.in-Some.ensures.on r.image st.book.events st h.shows) in
    let turn = has_turn r k.tables told h w a (subst (λ (x : Run). w < x.workers) (sym c.self.view_is) c.requires) on in
    let outs = subst (λ (i : Image). IfNone c.in_ok-frames-in-Runs.field-0 ((earlier : List Event) (x : State Memory Frames) → Shows i earlier k.tables x → IsShared i x.store (x.frames a))) c.deref-in-Runs.ensures c.in_ok-frames-in-Runs.ensures.none in
    let none = subst (λ (o : Option Kept). IfNone o ((earlier : List Event) (x : State Memory Frames) → Shows r.image earlier k.tables x → IsShared r.image x.store (x.frames a))) c.in-None.is outs in
    subst (λ (x : Run). LendsNone w x) c.self.view_is (inr (inr (inr (a, on, inr (none st.book.events st h.shows)))))

pub returns-in-WillTrap-clause-none : goal.returns-in-WillTrap-clause-none
returns-in-WillTrap-clause-none c =
    let k = c.self.inside in
    let r : Run = record { image = arc_value k.image; workers = k.workers; budget = k.budget; log = k.log.items; lent = k.lent.items; loans = k.loans } in
    let told = k.events.items in
    let h = c.self.invariant.0 in
    let st = state_of r in
    let w = c.args.w in
    let a = c.in-Some.activity in
    let on : on_worker w st.book.line ≡ Some a = sym (c.in-Some.ensures.on r.image st.book.events st h.shows) in
    let turn = has_turn r k.tables told h w a (subst (λ (x : Run). w < x.workers) (sym c.self.view_is) c.requires) on in
    let now = subst (λ (xs : List Activity). (kept : Activity) → slice_get xs a ≡ Some kept → (WillTrap c.in-WillTrap.field-0) ≡ kept.next) c.deref-2.ensures.value c.in-WillTrap.ensures in
    let next = next_is_in r.image st.book.events k.tables st a h.shows turn (WillTrap c.in-WillTrap.field-0) now in
    subst (λ (x : Run). LendsNone w x) c.self.view_is (inr (inr (inr (a, on, inl (λ e. let z = sym next ∙ e in cc z)))))

pub returns-in-Unwinds-clause-none : goal.returns-in-Unwinds-clause-none
returns-in-Unwinds-clause-none c =
    let k = c.self.inside in
    let r : Run = record { image = arc_value k.image; workers = k.workers; budget = k.budget; log = k.log.items; lent = k.lent.items; loans = k.loans } in
    let told = k.events.items in
    let h = c.self.invariant.0 in
    let st = state_of r in
    let w = c.args.w in
    let a = c.in-Some.activity in
    let on : on_worker w st.book.line ≡ Some a = sym (c.in-Some.ensures.on r.image st.book.events st h.shows) in
    let turn = has_turn r k.tables told h w a (subst (λ (x : Run). w < x.workers) (sym c.self.view_is) c.requires) on in
    let now = subst (λ (xs : List Activity). (kept : Activity) → slice_get xs a ≡ Some kept → Unwinds ≡ kept.next) c.deref-2.ensures.value c.in-Unwinds.ensures in
    let next = next_is_in r.image st.book.events k.tables st a h.shows turn Unwinds now in
    subst (λ (x : Run). LendsNone w x) c.self.view_is (inr (inr (inr (a, on, inl (λ e. let z = sym next ∙ e in cc z)))))

pub returns-in-Gone-clause-none : goal.returns-in-Gone-clause-none
returns-in-Gone-clause-none c =
    let k = c.self.inside in
    let r : Run = record { image = arc_value k.image; workers = k.workers; budget = k.budget; log = k.log.items; lent = k.lent.items; loans = k.loans } in
    let told = k.events.items in
    let h = c.self.invariant.0 in
    let st = state_of r in
    let w = c.args.w in
    let a = c.in-Some.activity in
    let on : on_worker w st.book.line ≡ Some a = sym (c.in-Some.ensures.on r.image st.book.events st h.shows) in
    let turn = has_turn r k.tables told h w a (subst (λ (x : Run). w < x.workers) (sym c.self.view_is) c.requires) on in
    let now = subst (λ (xs : List Activity). (kept : Activity) → slice_get xs a ≡ Some kept → Gone ≡ kept.next) c.deref-2.ensures.value c.in-Gone.ensures in
    let next = next_is_in r.image st.book.events k.tables st a h.shows turn Gone now in
    subst (λ (x : Run). LendsNone w x) c.self.view_is (inr (inr (inr (a, on, inl (λ e. let z = sym next ∙ e in cc z)))))
