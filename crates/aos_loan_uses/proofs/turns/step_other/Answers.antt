use Rattle.aos_loan_uses.proofs.Behind.{goes_step}
use Rattle.aos_loan_uses.proofs.turns.step_other.Goals as goal

pub returns-in-Ok : goal.returns-in-Ok
returns-in-Ok c =
    let e = c.in-Ok.ensures in
    goes_step c.args.lent c.args.worker c.args.kernel.now c.step.new.self c.if-worker-lent.false e.same e.state
