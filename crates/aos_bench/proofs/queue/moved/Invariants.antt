use Rattle.std.proofs.Common.{◌<◌}
use Rattle.aos_bench.specs.Fill.{Fills}
use Rattle.aos_bench.proofs.queue.moved.Given as goal

abbrev pub invariant-loop : goal.invariant-loop
invariant-loop l = record {
  fills : Fills l.links l.queue l.count;
  known : l.n < l.count;
}
