use Rattle.std.proofs.Common.{◌≡◌, ◌++◌, drop}
use Rattle.aos_layout.specs.Work.{again}
use Rattle.aos_layout.proofs.work.Work.put_again.Given as goal

abbrev pub invariant-loop-time : goal.invariant-loop-time
invariant-loop-time l =
    record {
      kinds : l.self.kinds.items ≡ l.fn.self.kinds.items ++ again l._time (drop l.from l.fn.self.kinds.items);
      tasks : l.self.tasks ≡ l.fn.self.tasks;
    }
