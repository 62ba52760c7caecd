use Rattle.std.proofs.Common.{◌≡◌, map, take}
use Rattle.aos_code.specs.Machine.{first_cell}
use Rattle.aos_store.proofs.frames.first_cells.Given as goal

abbrev pub invariant-loop-kind : goal.invariant-loop-kind
invariant-loop-kind l = l.cells.items ≡ map first_cell (take l.kind-index l.kinds)
