use Rattle.std.proofs.Common.{sym, subst, ◌∙◌}
use Rattle.aos_workers.specs.Holding.{GoesOrStays}
use Rattle.aos_workers.proofs.Several.{positive, begins_turned, begins_dispatched, goes_many, stays_over}
use Rattle.aos_workers.proofs.lending.some_steps.Goals as goal

pub returns-in-Turned-clause-goes : goal.returns-in-Turned-clause-goes
returns-in-Turned-clause-goes c =
    let e = c.in_ok-step.ensures in
    subst (λ i. GoesOrStays c.args.w i 1 c.args.kernel.now c.step.new.self) (sym c.if-made-eq0.true) (begins_turned _ _ _ _ e.stepped e.log e.same c.in-Turned.is)

pub returns-in-Dispatched-clause-goes : goal.returns-in-Dispatched-clause-goes
returns-in-Dispatched-clause-goes c =
    let e = c.in_ok-step.ensures in
    subst (λ i. GoesOrStays c.args.w i 1 c.args.kernel.now c.step.new.self) (sym c.if-made-eq0.true) (begins_dispatched _ _ _ _ e.stepped e.log e.same e.state c.in-Dispatched.is)

pub returns-in_ok-many-in-Going-clause-goes : goal.returns-in_ok-many-in-Going-clause-goes
returns-in_ok-many-in-Going-clause-goes c =
    let e = c.in_ok-many-in-Going.ensures in
    goes_many _ _ _ _ _ _ (positive _ c.if-made-eq0.false) c.requires.some e.most c.requires.room (sym c.outcome.ensures ∙ c.in-Going.is) e.made e.none e.same

pub returns-in_default-clause-goes : goal.returns-in_default-clause-goes
returns-in_default-clause-goes c = stays_over _ _ _ (λ e. c.in_default.not-Going (c.outcome.ensures ∙ e))
