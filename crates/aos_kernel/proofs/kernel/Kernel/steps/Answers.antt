use Rattle.std.proofs.Common.{◌≡◌, ◌<◌, ◌∙◌, sym, ap, subst, arith}
use Rattle.aos_kernel.specs.declared.log.Stepped.TheVariants.{Idle, Over}
use Rattle.aos_kernel.specs.Run.{Run, among, after_step}
use Rattle.aos_kernel.specs.Steps.{AreSteps}
use Rattle.aos_kernel.proofs.Stepping.{quiet_are, one_more_are, same_but_log, turned_logs, dispatched_logs, stays_none}
use Rattle.aos_kernel.proofs.kernel.Kernel.steps.Goals as goal

pub returns-then-most-made-clause-made : goal.returns-then-most-made-clause-made
returns-then-most-made-clause-made c = quiet_are c.in_ok-made.made c.args.w c.args.self.now c.run_in_place.new.self c.in_ok-made.ensures.run

pub returns-then-most-made-clause-none : goal.returns-then-most-made-clause-none
returns-then-most-made-clause-none c none = (c.in_ok-made.ensures.run.none none, λ some. (let q = c.if-most-made.true in absurd (omega (arith, none, some, q))))

pub returns-in-Ok-Turned-clause-made : goal.returns-in-Ok-Turned-clause-made
returns-in-Ok-Turned-clause-made c =
    let e = c.in-Ok-Turned.ensures in
    let mid = c.run_in_place.new.self in
    one_more_are c.in_ok-made.made c.args.w c.args.self.now mid c.in_ok-made.ensures.run c.step.new.self c.run_in_place.ensures.same e.state (turned_logs c.args.w mid c.step.new.self c.in-Ok-Turned.field-0 c.in-Ok-Turned.field-0-is e.log)

pub returns-in-Ok-Turned-clause-none : goal.returns-in-Ok-Turned-clause-none
returns-in-Ok-Turned-clause-none c none = absurd (omega (arith, none))

pub returns-in-Ok-Turned-clause-same : goal.returns-in-Ok-Turned-clause-same
returns-in-Ok-Turned-clause-same c = same_but_log c.args.self.now c.run_in_place.new.self c.step.new.self c.run_in_place.ensures.same c.in-Ok-Turned.ensures.same

pub returns-in-Ok-Dispatched-clause-made : goal.returns-in-Ok-Dispatched-clause-made
returns-in-Ok-Dispatched-clause-made c =
    let e = c.in-Ok-Dispatched.ensures in
    let mid = c.run_in_place.new.self in
    one_more_are c.in_ok-made.made c.args.w c.args.self.now mid c.in_ok-made.ensures.run c.step.new.self c.run_in_place.ensures.same e.state (dispatched_logs c.args.w mid c.step.new.self c.in-Ok-Dispatched.field-0 c.in-Ok-Dispatched.field-0-is e.log)

pub returns-in-Ok-Dispatched-clause-none : goal.returns-in-Ok-Dispatched-clause-none
returns-in-Ok-Dispatched-clause-none c none = absurd (omega (arith, none))

pub returns-in-Ok-Dispatched-clause-same : goal.returns-in-Ok-Dispatched-clause-same
returns-in-Ok-Dispatched-clause-same c = same_but_log c.args.self.now c.run_in_place.new.self c.step.new.self c.run_in_place.ensures.same c.in-Ok-Dispatched.ensures.same

pub returns-in-Ok-Idle-clause-made : goal.returns-in-Ok-Idle-clause-made
returns-in-Ok-Idle-clause-made c =
    let mid = c.run_in_place.new.self in
    let stays : c.step.new.self ≡ mid = c.in-Ok-Idle.ensures.log ∙ ap (λ s. after_step s c.args.w mid) c.in-Ok-Idle.field-0-is in
    subst (λ (x : Run). AreSteps c.in_ok-made.made c.args.w c.args.self.now x) (sym stays) (quiet_are c.in_ok-made.made c.args.w c.args.self.now mid c.in_ok-made.ensures.run)

pub returns-in-Ok-Idle-clause-none : goal.returns-in-Ok-Idle-clause-none
returns-in-Ok-Idle-clause-none c none =
    let mid = c.run_in_place.new.self in
    let e = c.in-Ok-Idle.ensures in
    let stays : c.step.new.self ≡ mid = e.log ∙ ap (λ s. after_step s c.args.w mid) c.in-Ok-Idle.field-0-is in
    let was : mid ≡ c.args.self.now = c.in_ok-made.ensures.run.none none in
    (stays ∙ was, λ _. stays_none c.args.w c.args.self.now mid c.step.new.self Idle was stays (sym e.stepped ∙ c.in-Ok-Idle.field-0-is) tt e.state)

pub returns-in-Ok-Idle-clause-same : goal.returns-in-Ok-Idle-clause-same
returns-in-Ok-Idle-clause-same c = same_but_log c.args.self.now c.run_in_place.new.self c.step.new.self c.run_in_place.ensures.same c.in-Ok-Idle.ensures.same

pub returns-in-Ok-Over-clause-made : goal.returns-in-Ok-Over-clause-made
returns-in-Ok-Over-clause-made c =
    let mid = c.run_in_place.new.self in
    let stays : c.step.new.self ≡ mid = c.in-Ok-Over.ensures.log ∙ ap (λ s. after_step s c.args.w mid) c.in-Ok-Over.field-0-is in
    subst (λ (x : Run). AreSteps c.in_ok-made.made c.args.w c.args.self.now x) (sym stays) (quiet_are c.in_ok-made.made c.args.w c.args.self.now mid c.in_ok-made.ensures.run)

pub returns-in-Ok-Over-clause-none : goal.returns-in-Ok-Over-clause-none
returns-in-Ok-Over-clause-none c none =
    let mid = c.run_in_place.new.self in
    let e = c.in-Ok-Over.ensures in
    let stays : c.step.new.self ≡ mid = e.log ∙ ap (λ s. after_step s c.args.w mid) c.in-Ok-Over.field-0-is in
    let was : mid ≡ c.args.self.now = c.in_ok-made.ensures.run.none none in
    (stays ∙ was, λ _. stays_none c.args.w c.args.self.now mid c.step.new.self Over was stays (sym e.stepped ∙ c.in-Ok-Over.field-0-is) tt e.state)

pub returns-in-Ok-Over-clause-same : goal.returns-in-Ok-Over-clause-same
returns-in-Ok-Over-clause-same c = same_but_log c.args.self.now c.run_in_place.new.self c.step.new.self c.run_in_place.ensures.same c.in-Ok-Over.ensures.same

pub returns-then-made-eq0-clause-err : goal.returns-then-made-eq0-clause-err
returns-then-made-eq0-clause-err c = c.in-Err.ensures.err ∙ c.in_ok-made.ensures.run.none c.if-made-eq0.true

pub returns-then-made-eq0-clause-same : goal.returns-then-made-eq0-clause-same
returns-then-made-eq0-clause-same c = same_but_log c.args.self.now c.run_in_place.new.self c.step.new.self c.run_in_place.ensures.same c.in-Err.ensures.same

pub returns-else-made-eq0-clause-made : goal.returns-else-made-eq0-clause-made
returns-else-made-eq0-clause-made c =
    subst (λ (x : Run). AreSteps c.in_ok-made.made c.args.w c.args.self.now x) (sym c.in-Err.ensures.err) (quiet_are c.in_ok-made.made c.args.w c.args.self.now c.run_in_place.new.self c.in_ok-made.ensures.run)

pub returns-else-made-eq0-clause-none : goal.returns-else-made-eq0-clause-none
returns-else-made-eq0-clause-none c none = absurd (c.if-made-eq0.false none)

pub returns-else-made-eq0-clause-same : goal.returns-else-made-eq0-clause-same
returns-else-made-eq0-clause-same c = same_but_log c.args.self.now c.run_in_place.new.self c.step.new.self c.run_in_place.ensures.same c.in-Err.ensures.same

pub step-requires-clause-worker : goal.step-requires-clause-worker
step-requires-clause-worker c = subst (λ (x : Run). c.args.w < x.workers) (sym c.run_in_place.ensures.same) c.requires.worker

pub step-requires-clause-lent : goal.step-requires-clause-lent
step-requires-clause-lent c = ap (λ (x : Run). among c.args.w x.lent) c.run_in_place.ensures.same ∙ c.requires.lent
