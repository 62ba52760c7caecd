use Rattle.aos_loan_uses.specs.Uses.{GoesBehind}
use Rattle.aos_loan_uses.proofs.turns.step_others.Given as goal

abbrev pub invariant-loop-worker : goal.invariant-loop-worker
invariant-loop-worker l = GoesBehind l.lent l.fn.kernel l.kernel
