use Rattle.std.proofs.Common.{◌≡◌, ◌-◌}
use Rattle.aos_workers.specs.Run.{GoesOn}
use Rattle.aos_workers.proofs.alone.tick_all.Given as goal

abbrev pub invariant-loop-w : goal.invariant-loop-w
invariant-loop-w l = GoesOn l.fn.kernel l.kernel × (l.count ≡ l.kernel.workers)

abbrev pub decreases-loop-w : goal.decreases-loop-w
decreases-loop-w l = l.count - l.w
