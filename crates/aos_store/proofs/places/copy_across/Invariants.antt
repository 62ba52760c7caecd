use Rattle.std.proofs.Common.{◌≡◌, take}
use Rattle.aos_base.specs.Rooted.{at_root, spliced}
use Rattle.aos_code.specs.Machine.{memory_with}
use Rattle.aos_store.specs.Store.{frames_in, SameCounts, memory_in, rooted_in, with_frames, read_all}
use Rattle.aos_store.specs.Room.{KeepsRoom}
use Rattle.aos_store.proofs.places.copy_across.Given as goal

-- the cells up to here are copied
abbrev pub invariant-loop-i : goal.invariant-loop-i
invariant-loop-i l = record {
  frames : frames_in l.frames ≡ with_frames l.to (spliced l.to_cell (take l.i (read_all l.count l.from_cell (at_root l.from (rooted_in l.fn.frames l.fn.store))))) l.fn.frames;
  counts : SameCounts l.fn.frames l.frames;
  room : KeepsRoom l.fn.frames l.frames;
  memory : memory_in l.store ≡ memory_with l.to (spliced l.to_cell (take l.i (read_all l.count l.from_cell (at_root l.from (rooted_in l.fn.frames l.fn.store))))) (memory_in l.fn.store);
}
