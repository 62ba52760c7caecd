use Rattle.std.proofs.Common.{◌≡◌, ◌++◌, map, take}
use Rattle.aos_code.specs.Machine.{first_cell}
use Rattle.aos_cpu.proofs.calls.add_first.Given as goal

-- the cells of the kinds up to here
abbrev pub invariant-loop-kind : goal.invariant-loop-kind
invariant-loop-kind l = l.cells.items ≡ l.fn.cells.items ++ map first_cell (take l.kind-index l.kinds)
