use Rattle.std.proofs.Common.{◌≡◌, ◌≤◌, ◌-◌}
use Rattle.aos_store.specs.Store.{memory_in}
use Rattle.aos_silent_steps.specs.Room.{StayFit}
use Rattle.aos_cpu.specs.Private.{no_memory, IsMadePrivately, turns_since}
use Rattle.aos_cpu.proofs.alone.private.Given as goal

abbrev pub invariant-loop-made : goal.invariant-loop-made
invariant-loop-made l = record {
  turns : IsMadePrivately l.image l.budget (turns_since l.fn.frames l.frames) l.fn.frames l.frames;
  told : l.made ≡ turns_since l.fn.frames l.frames;
  most : l.made ≤ l.most;
  memory : memory_in l.store ≡ no_memory;
  fit : StayFit l.image l.fn.frames l.frames;
}

abbrev pub decreases-loop-made : goal.decreases-loop-made
decreases-loop-made l = l.most - l.made
