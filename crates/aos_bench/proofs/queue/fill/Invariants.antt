use Rattle.std.proofs.Common.{◌≡◌}
use Rattle.aos_queue.specs.Lists.{room_of}
use Rattle.aos_bench.specs.Fill.{Fills}
use Rattle.aos_bench.proofs.queue.fill.Given as goal

abbrev pub invariant-loop-n : goal.invariant-loop-n
invariant-loop-n l = record {
  fills : Fills l.links l.queue l.n;
  room : room_of l.links ≡ room_of l.fn.links;
}
