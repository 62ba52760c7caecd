use Rattle.std.proofs.Common.{rules, arith, refl, sym, ap, ◌∙◌, subst}
use Rattle.aos_kernel.specs.Run.{among}
use Rattle.aos_workers.specs.Round.{Works}
use Rattle.aos_workers.proofs.Rounds.{begins, works_of, works_turned, works_dispatched, works_stay, ends_idle, ends_over, ticked_works, ticked_answers}
use Rattle.aos_workers.proofs.worker.work.Goals as goal

pub loop-steps-init : goal.loop-steps-init
loop-steps-init c = (begins c.args.w c.args.kernel.now, omega arith)

pub step-requires-clause-lent : goal.step-requires-clause-lent
step-requires-clause-lent c = ap (among c.args.w) c.loop-steps.invariant.0.lent ∙ c.requires.lent

pub tick-requires-clause-lent : goal.tick-requires-clause-lent
tick-requires-clause-lent c = ap (among c.args.w) c.loop-steps.invariant.0.lent ∙ c.requires.lent

pub loop-steps-preserved-in-Turned : goal.loop-steps-preserved-in-Turned
loop-steps-preserved-in-Turned c =
    let e = c.in_ok-step.ensures in
    (works_turned _ _ _ _ _ _ e.stepped e.log e.same c.in-Turned.is c.loop-steps-test.true c.loop-steps.invariant.0, search rules)

pub loop-steps-preserved : goal.loop-steps-preserved
loop-steps-preserved c =
    let e = c.in_ok-step.ensures in
    (works_dispatched _ _ _ _ _ _ e.stepped e.log e.same e.state c.in-Dispatched.is c.loop-steps.invariant.0, search rules)

pub returns-in-Idle-clause-works : goal.returns-in-Idle-clause-works
returns-in-Idle-clause-works c =
    let e = c.in_ok-step.ensures in
    works_stay _ c.loop-steps.steps c.args.kernel.now _ _ _ _ e.log c.in-Idle.is refl c.loop-steps.invariant.0

pub returns-in-Over-clause-works : goal.returns-in-Over-clause-works
returns-in-Over-clause-works c =
    let e = c.in_ok-step.ensures in
    works_stay _ c.loop-steps.steps c.args.kernel.now _ _ _ _ e.log c.in-Over.is refl c.loop-steps.invariant.0

pub returns-in-Idle-clause-answer : goal.returns-in-Idle-clause-answer
returns-in-Idle-clause-answer c =
    let e = c.in_ok-step.ensures in
    ends_idle _ c.loop-steps.steps c.args.kernel.now _ _ _ e.stepped e.log e.same _ c.outcome.ensures c.in-Idle.is

pub returns-in-Over-clause-answer : goal.returns-in-Over-clause-answer
returns-in-Over-clause-answer c =
    let e = c.in_ok-step.ensures in
    ends_over _ c.loop-steps.steps c.args.kernel.now _ _ _ e.stepped e.log e.same _ c.outcome-in-Over.ensures c.in-Over.is

pub returns-in_err-step-clause-works : goal.returns-in_err-step-clause-works
returns-in_err-step-clause-works c = subst (Works c.args.w c.args.kernel.now) (sym c.in_err-step.ensures.err) (works_of _ c.loop-steps.steps _ _ c.loop-steps.invariant.0)

pub returns-in_err-tick-clause-works : goal.returns-in_err-tick-clause-works
returns-in_err-tick-clause-works c = subst (Works c.args.w c.args.kernel.now) (sym c.in_err-tick.ensures.err) (works_of _ c.loop-steps.steps _ _ c.loop-steps.invariant.0)

pub returns-clause-works : goal.returns-clause-works
returns-clause-works c =
    let e = c.in_ok-tick.ensures in
    ticked_works _ _ _ _ _ c.loop-steps-test.false c.loop-steps.invariant.0 _ e.ticked e.log e.same

pub returns-clause-answer : goal.returns-clause-answer
returns-clause-answer c =
    let e = c.in_ok-tick.ensures in
    ticked_answers _ _ _ _ _ _ _ c.loop-steps-test.false c.loop-steps.invariant.0.steps e.same _ _ e.ticked e.log e.state c.outcome-2.ensures
