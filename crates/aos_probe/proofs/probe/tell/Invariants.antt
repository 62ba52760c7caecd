use Rattle.std.proofs.Common.{◌≡◌, ◌≤◌, ◌-◌, ◌++◌, length, map, take, drop}
use Rattle.aos_probe.specs.Told.{after}
use Rattle.aos_probe.proofs.probe.tell.Given as goal

-- those that were shown it so far, and then what it makes of the others, are what it makes of all
abbrev pub invariant-loop-i : goal.invariant-loop-i
invariant-loop-i g l = record {
  at : l.i ≤ length l.probes.items;
  told : map (λ b. (goal.Probe-dyn g (b.vtable, b.value)).seen b.value) (take l.i l.probes.items)
      ++ after l.event (map (λ b. (goal.Probe-dyn g (b.vtable, b.value)).seen b.value) (drop l.i l.probes.items))
      ≡ after l.event (map (λ b. (goal.Probe-dyn g (b.vtable, b.value)).seen b.value) l.fn.probes.items);
}

abbrev pub decreases-loop-i : goal.decreases-loop-i
decreases-loop-i g l = length l.probes.items - l.i
