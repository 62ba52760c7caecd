use Rattle.std.proofs.Common.{◌≡◌, map, drop}
use Rattle.aos_probe.specs.Told.{after_all}
use Rattle.aos_probe.proofs.fold.tell_all.Given as goal

-- the events that are left make of the probes what all of them make of those that were handed in
abbrev pub invariant-loop-event : goal.invariant-loop-event
invariant-loop-event g l =
    after_all (drop l.event-index l.events) (map (λ b. (goal.Probe-dyn g (b.vtable, b.value)).seen b.value) l.probes.items)
    ≡ after_all l.events (map (λ b. (goal.Probe-dyn g (b.vtable, b.value)).seen b.value) l.fn.probes.items)
