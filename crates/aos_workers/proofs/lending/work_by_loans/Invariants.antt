use Rattle.std.proofs.Common.{◌≡◌, ◌≤◌, ◌-◌}
use Rattle.aos_workers.specs.Holding.{IsWorking}
use Rattle.aos_workers.proofs.lending.work_by_loans.Given as goal

abbrev pub invariant-loop-steps : goal.invariant-loop-steps
invariant-loop-steps g l = (l.pass.cell ≡ l.cell) × IsWorking l.w l.steps l.steps l.fn.pass.view l.pass.view l.kernel.value × (l.steps ≤ 256)

abbrev pub decreases-loop-steps : goal.decreases-loop-steps
decreases-loop-steps g l = 256 - l.steps
