use Rattle.std.proofs.Common.{◌≡◌, ◌≤◌, ◌-◌}
use Rattle.aos_workers.proofs.Runs.{IsBetween}
use Rattle.aos_workers.proofs.worker.rounds.Given as goal

abbrev pub invariant-loop-count : goal.invariant-loop-count
invariant-loop-count g l = (l.pass.cell ≡ l.cell) × IsBetween l.w l.count l.fn.pass.view l.pass.view × (l.count ≤ 34359738368)

abbrev pub decreases-loop-count : goal.decreases-loop-count
decreases-loop-count g l = 34359738368 - l.count
