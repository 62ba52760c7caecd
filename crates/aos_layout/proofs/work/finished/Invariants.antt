use Rattle.std.proofs.Common.{◌≡◌}
use Rattle.aos_layout.specs.Work.{outcome, all_steps}
use Rattle.aos_layout.proofs.work.finished.Given as goal

abbrev pub invariant-loop-task : goal.invariant-loop-task
invariant-loop-task l = outcome l.types l.work ≡ outcome l.types l.fn.begun

abbrev pub decreases-loop-task : goal.decreases-loop-task
decreases-loop-task l = all_steps l.types l.work.tasks.items
