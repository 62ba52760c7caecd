use Rattle.std.proofs.Common.{◌≡◌, ◌<◌, ℕ, zero, suc, List, ◌++◌, refl, sym, ap, ◌∙◌, subst, arith, replicate}
use Rattle.std.specs.Prelude.{Some, All}
use Rattle.std.specs.Arc.{arc_value}
use Rattle.aos_base.specs.declared.kernel.Event.{Event}
use Rattle.aos_base.specs.declared.kernel.Sched.{Sched}
use Rattle.aos_base.specs.declared.kernel.Outcome.TheVariants.{Going}
use Rattle.aos_base.specs.Book.{outcome, on_worker}
use Rattle.aos_base.specs.Machine.{State, Step, execution}
use Rattle.aos_base.specs.Schedule.{choices, IsEntry}
use Rattle.aos_code.specs.declared.image.Image.{Image}
use Rattle.aos_code.specs.Memory.{Memory}
use Rattle.aos_code.specs.Machine.{Frames, machine, first_state}
use Rattle.aos_concurrency.proofs.Executions.{execution-append}
use Rattle.aos_kernel.specs.Run.{Run, after, state_of}
use Rattle.aos_kernel.specs.Shows.{Shows}
use Rattle.aos_kernel.specs.Keeps.{Keeps}
use Rattle.aos_kernel.specs.Steps.{GoesQuietly, AreQuietSteps}
use Rattle.aos_kernel.proofs.Histories.{keeps_silent, has_turn}
use Rattle.aos_kernel.proofs.Quietly.{keeps_steps}
use Rattle.aos_kernel.proofs.Stepping.{none_made}
use Rattle.aos_kernel.proofs.kernel.Kernel.run_in_place.Goals as goal

some_of : (n : ℕ) → (n ≡ 0 → ⊥) → (k : ℕ) × (n ≡ suc k)
some_of zero ne = absurd (ne refl)
some_of (suc k) ne = (k, refl)

pub returns-in_default-clause-run : goal.returns-in_default-clause-run
returns-in_default-clause-run c = none_made c.args.w c.args.self.now

pub returns-in_default-on-clause-run : goal.returns-in_default-on-clause-run
returns-in_default-on-clause-run c = none_made c.args.w c.args.self.now

pub run_on-made-requires : goal.run_on-made-requires
run_on-made-requires c =
    let k = c.self.inside in
    let r : Run = record { image = arc_value k.image; workers = k.workers; budget = k.budget; log = k.log.items; lent = k.lent.items; loans = k.loans } in
    let h = c.self.invariant.0 in
    let st = state_of r in
    let w = c.args.w in
    let on : on_worker w st.book.line ≡ Some c.in-Some.activity = sym (c.in-Some.ensures.on r.image st.book.events st h.shows) in
    has_turn r k.tables k.events.items h w c.in-Some.activity (subst (λ (x : Run). w < x.workers) (sym c.self.view_is) c.requires.worker) on

pub invariant_of-self-then-made-eq0 : goal.invariant_of-self-then-made-eq0
invariant_of-self-then-made-eq0 c =
    let k = c.self.inside in
    let r : Run = record { image = arc_value k.image; workers = k.workers; budget = k.budget; log = k.log.items; lent = k.lent.items; loans = k.loans } in
    let h = c.self.invariant.0 in
    let st = state_of r in
    let w = c.args.w in
    let a = c.in-Some.activity in
    let n = c.run_on-made.result in
    let going : outcome st.book ≡ Going = sym (c.in-Going.ensures r.image st.book.events st h.shows) in
    let on : on_worker w st.book.line ≡ Some a = sym (c.in-Some.ensures.on r.image st.book.events st h.shows) in
    let quietly : GoesQuietly r.image st.book.events w n c.run_on-made.new.self st =
    subst (λ (image : Image). (x : List Event) (s : State Memory Frames) → Shows image x k.tables s → outcome s.book ≡ Going → on_worker w s.book.line ≡ Some a → GoesQuietly image x w n c.run_on-made.new.self s) c.deref.ensures (c.run_on-made.ensures.made w)
    st.book.events st h.shows going on in
    let shown = subst (λ m. Shows r.image st.book.events c.run_on-made.new.self (execution (machine r.image) (replicate m (Step w)) st)) c.if-made-eq0.true quietly.shows in
    let f0 = c.self.invariant.1 in
    let f1 = c.reserve.ensures.len in
    let f2 = c.reserve.ensures.capacity in
    (keeps_silent r k.tables k.events.items h c.run_on-made.new.self c.reserve.new.self.items shown c.reserve.ensures.items, omega (arith, f0, f1, f2))

pub returns-then-made-eq0-clause-run : goal.returns-then-made-eq0-clause-run
returns-then-made-eq0-clause-run c =
    let k = c.self.inside in
    let r : Run = record { image = arc_value k.image; workers = k.workers; budget = k.budget; log = k.log.items; lent = k.lent.items; loans = k.loans } in
    let h = c.self.invariant.0 in
    let st = state_of r in
    let w = c.args.w in
    let old = c.args.self.now in
    let same : record r { log = c.reserve.new.self.items } ≡ old = ap (λ l. (let x : Run = record r { log = l } in x)) c.reserve.ensures.items ∙ c.self.view_is in
    subst (λ (x : Run). AreQuietSteps 0 w old x) (sym same) (none_made w old)

pub invariant_of-self-2 : goal.invariant_of-self-2
invariant_of-self-2 c =
    let k = c.self.inside in
    let r : Run = record { image = arc_value k.image; workers = k.workers; budget = k.budget; log = k.log.items; lent = k.lent.items; loans = k.loans } in
    let h = c.self.invariant.0 in
    let st = state_of r in
    let w = c.args.w in
    let a = c.in-Some.activity in
    let n = c.run_on-made.result in
    let going : outcome st.book ≡ Going = sym (c.in-Going.ensures r.image st.book.events st h.shows) in
    let on : on_worker w st.book.line ≡ Some a = sym (c.in-Some.ensures.on r.image st.book.events st h.shows) in
    let quietly : GoesQuietly r.image st.book.events w n c.run_on-made.new.self st =
    subst (λ (image : Image). (x : List Event) (s : State Memory Frames) → Shows image x k.tables s → outcome s.book ≡ Going → on_worker w s.book.line ≡ Some a → GoesQuietly image x w n c.run_on-made.new.self s) c.deref.ensures (c.run_on-made.ensures.made w)
    st.book.events st h.shows going on in
    let some = some_of n c.if-made-eq0.false in
    let m = some.0 in
    let fits : w < r.workers = subst (λ (x : Run). w < x.workers) (sym c.self.view_is) c.requires.worker in
    let more : choices c.add_steps.new.log.items ≡ choices r.log ++ replicate (suc m) (Step w) = c.add_steps.ensures.choices ∙ (λ i. choices (c.reserve.ensures.items i) ++ replicate (some.1 i) (Step w)) in
    let entries = c.add_steps.ensures.entries r.workers fits (subst (λ (l : List Sched). All (IsEntry r.workers) l) (sym c.reserve.ensures.items) h.entries) in
    let whole = subst (λ j. GoesQuietly r.image st.book.events w j c.run_on-made.new.self st) some.1 quietly in
    let f0 = c.in_ok-reserve.ensures.ok in
    let f1 = c.len.ensures in
    let f2 = k.lent.ok.0 in
    let f3 = c.add_steps.ensures.len in
    let f4 = c.add_steps.ensures.capacity in (
      subst (λ (x : List Event). Keeps (record r { log = c.add_steps.new.log.items }) c.run_on-made.new.self x) (sym c.tell_nothing.ensures)
          (keeps_steps r w m c.add_steps.new.log.items k.tables c.run_on-made.new.self k.events.items h more entries whole),
      omega (arith, f0, f1, f2, f3, f4),
    )

pub returns-clause-run : goal.returns-clause-run
returns-clause-run c =
    let k = c.self.inside in
    let r : Run = record { image = arc_value k.image; workers = k.workers; budget = k.budget; log = k.log.items; lent = k.lent.items; loans = k.loans } in
    let h = c.self.invariant.0 in
    let st = state_of r in
    let w = c.args.w in
    let a = c.in-Some.activity in
    let n = c.run_on-made.result in
    let going : outcome st.book ≡ Going = sym (c.in-Going.ensures r.image st.book.events st h.shows) in
    let on : on_worker w st.book.line ≡ Some a = sym (c.in-Some.ensures.on r.image st.book.events st h.shows) in
    let quietly : GoesQuietly r.image st.book.events w n c.run_on-made.new.self st =
    subst (λ (image : Image). (x : List Event) (s : State Memory Frames) → Shows image x k.tables s → outcome s.book ≡ Going → on_worker w s.book.line ≡ Some a → GoesQuietly image x w n c.run_on-made.new.self s) c.deref.ensures (c.run_on-made.ensures.made w)
    st.book.events st h.shows going on in
    let old = c.args.self.now in
    let log = c.add_steps.new.log.items in
    let more : choices log ≡ choices r.log ++ replicate n (Step w) = c.add_steps.ensures.choices ∙ ap (λ (l : List Sched). choices l ++ replicate n (Step w)) c.reserve.ensures.items in
    let all : state_of (record r { log = log }) ≡ execution (machine r.image) (replicate n (Step w)) st =
    ap (λ cs. after r.image r.budget cs) more ∙ execution-append (machine r.image) (choices r.log) (replicate n (Step w)) (first_state r.image r.budget) in
    let new : Run = record r { log = log } in
    subst (λ (x : Run). AreQuietSteps n w x new) c.self.view_is
    (record { state = all; log = more; quiet = quietly.quiet; none = λ e. absurd (c.if-made-eq0.false e) })
