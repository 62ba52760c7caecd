use Rattle.std.proofs.Common.{◌≡◌}
use Rattle.aos_store.specs.Store.{frame_in, memory_in}
use Rattle.aos_store.specs.Room.{HasMoreRoom}
use Rattle.aos_cpu.specs.Private.{no_memory}
use Rattle.aos_cpu.specs.InPlace.{HasRunTop}
use Rattle.aos_cpu.specs.Many.{HasRunOn}
use Rattle.aos_cpu.proofs.in_place.run_top.Given as goal

-- so many turns have been made, and where there is no memory there is none still
abbrev pub invariant-loop-made : goal.invariant-loop-made
invariant-loop-made l = record {
  ran : HasRunOn l.image l.here l.budget l.made l.begun l.now (memory_in l.fn.store) (memory_in l.store) (frame_in l.fn.frame) (frame_in l.frame);
  alone : memory_in l.fn.store ≡ no_memory → (memory_in l.store ≡ no_memory) × HasRunTop l.image l.here l.budget l.made l.begun l.now (frame_in l.fn.frame) (frame_in l.frame);
  room : HasMoreRoom l.fn.frame l.frame;
}
