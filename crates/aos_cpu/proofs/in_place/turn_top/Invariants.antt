use Rattle.std.proofs.Common.{◌-◌, length}
use Rattle.aos_store.specs.Store.{frame_in, memory_in}
use Rattle.aos_store.specs.Room.{HasMoreRoom}
use Rattle.aos_cpu.specs.InPlace.{HasWorked}
use Rattle.aos_cpu.proofs.in_place.turn_top.Given as goal

-- from here the same silent work is left
abbrev pub invariant-loop-frame : goal.invariant-loop-frame
invariant-loop-frame l = record {
  worked : HasWorked l.image l.here (memory_in l.fn.store) (memory_in l.store) (frame_in l.fn.frame) (frame_in l.frame);
  room : HasMoreRoom l.fn.frame l.frame;
}

abbrev pub decreases-loop-frame : goal.decreases-loop-frame
decreases-loop-frame l = length l.code - l.frame.next
