use Rattle.aos_loan_uses.proofs.Behind.{goes_nowhere, goes_then, still_lent}
use Rattle.aos_loan_uses.proofs.turns.step_others.Goals as goal

pub loop-worker-init : goal.loop-worker-init
loop-worker-init c = goes_nowhere c.args.lent c.args.kernel.now

pub step_other-requires : goal.step_other-requires
step_other-requires c = still_lent c.args.lent c.args.kernel.now c.loop-worker.kernel c.loop-worker.invariant c.requires

pub loop-worker-preserved : goal.loop-worker-preserved
loop-worker-preserved c =
    goes_then c.args.lent c.args.kernel.now c.loop-worker.kernel c.step_other.new.kernel c.loop-worker.invariant c.step_other.ensures

pub returns-in-Err : goal.returns-in-Err
returns-in-Err c =
    goes_then c.args.lent c.args.kernel.now c.loop-worker.kernel c.step_other.new.kernel c.loop-worker.invariant c.step_other.ensures
