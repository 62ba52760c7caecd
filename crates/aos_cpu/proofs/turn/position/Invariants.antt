use Rattle.std.proofs.Common.{◌≡◌, take}
use Rattle.aos_code.specs.Machine.{position_or}
use Rattle.aos_store.specs.Store.{list_in}
use Rattle.aos_cpu.specs.Turns.{where_in}
use Rattle.aos_cpu.proofs.turn.position.Given as goal

abbrev pub invariant-loop-frame : goal.invariant-loop-frame
invariant-loop-frame l = position_or l.image (where_in l.initial.found) (list_in (take l.frame-index l.frames.list.items)) ≡ where_in l.found
