use Rattle.std.proofs.Common.{◌≤◌, ◌-◌, map, replicate}
use Rattle.aos_base.specs.Machine.{Step}
use Rattle.aos_replay.specs.Continues.{Continues}
use Rattle.aos_replay.specs.Told.{Told}
use Rattle.aos_replay.proofs.entry.steps.Given as goal

abbrev pub invariant-loop-left : goal.invariant-loop-left
invariant-loop-left g l = record {
  few : l.left ≤ l.count;
  made : Continues (replicate (l.count - l.left) (Step l.worker)) l.fn.kernel l.kernel;
  told : Told l.fn.kernel l.kernel
      (map (λ b. (goal.Probe-dyn g (b.vtable, b.value)).seen b.value) l.fn.probes.items)
      (map (λ b. (goal.Probe-dyn g (b.vtable, b.value)).seen b.value) l.probes.items);
}

abbrev pub decreases-loop-left : goal.decreases-loop-left
decreases-loop-left g l = l.left
