use Rattle.aos_workers.specs.Run.{GoesOn}
use Rattle.aos_workers.proofs.alone.finish.Given as goal

abbrev pub invariant-loop : goal.invariant-loop
invariant-loop g l = GoesOn l.fn.kernel l.kernel
