use Rattle.aos_bench.specs.Holder.{Holds}
use Rattle.aos_bench.proofs.lock.enter_again.Given as goal

abbrev pub invariant-loop : goal.invariant-loop
invariant-loop l = Holds l.links l.locks l.lock l.owner
