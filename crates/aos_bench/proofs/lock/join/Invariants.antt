use Rattle.std.proofs.Common.{◌≡◌, ◌+◌}
use Rattle.aos_queue.specs.Lists.{room_of}
use Rattle.aos_bench.specs.Holder.{Holds, IdleFrom}
use Rattle.aos_bench.proofs.lock.join.Given as goal

abbrev pub invariant-loop-activity : goal.invariant-loop-activity
invariant-loop-activity l = record {
  holds : Holds l.links l.locks l.lock 0;
  idle : IdleFrom l.links l.locks (l.activity + 1);
  room : room_of l.links ≡ room_of l.fn.links;
}
