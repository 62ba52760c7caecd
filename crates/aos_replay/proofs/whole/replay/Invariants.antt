use Rattle.std.proofs.Common.{map, take}
use Rattle.aos_base.specs.Schedule.{choices}
use Rattle.aos_replay.specs.Continues.{Continues}
use Rattle.aos_replay.specs.Told.{Told}
use Rattle.aos_replay.proofs.whole.replay.Given as goal

abbrev pub invariant-loop-entry : goal.invariant-loop-entry
invariant-loop-entry g l = record {
  made : Continues (choices (take l.entry-index l.s.runs)) l.fn.kernel l.kernel;
  told : Told l.fn.kernel l.kernel
      (map (λ b. (goal.Probe-dyn g (b.vtable, b.value)).seen b.value) l.fn.probes.items)
      (map (λ b. (goal.Probe-dyn g (b.vtable, b.value)).seen b.value) l.probes.items);
}
