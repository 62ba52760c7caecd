use Rattle.std.proofs.Common.{◌≤◌, ◌-◌}
use Rattle.aos_workers.proofs.Rounds.{Working}
use Rattle.aos_workers.proofs.worker.work.Given as goal

abbrev pub invariant-loop-steps : goal.invariant-loop-steps
invariant-loop-steps l = Working l.w l.steps l.fn.kernel l.kernel × (l.steps ≤ 256)

abbrev pub decreases-loop-steps : goal.decreases-loop-steps
decreases-loop-steps l = 256 - l.steps
