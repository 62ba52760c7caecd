use Rattle.std.proofs.Common.{◌≡◌, [], take}
use Rattle.aos_base.specs.Rooted.{spliced}
use Rattle.aos_code.specs.Machine.{memory_with, character_cells}
use Rattle.aos_store.specs.Store.{frames_in, SameCounts, memory_in, with_frames}
use Rattle.aos_store.specs.Room.{KeepsRoom}
use Rattle.aos_cpu.proofs.texts.store_characters.Given as goal

-- the characters up to here are stored
abbrev pub invariant-loop-i : goal.invariant-loop-i
invariant-loop-i l = record {
  frames : frames_in l.frames ≡ with_frames l.root (spliced l.cell (take l.i (character_cells [] l.bytes))) l.fn.frames;
  counts : SameCounts l.fn.frames l.frames;
  room : KeepsRoom l.fn.frames l.frames;
  memory : memory_in l.store ≡ memory_with l.root (spliced l.cell (take l.i (character_cells [] l.bytes))) (memory_in l.fn.store);
}
