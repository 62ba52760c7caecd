use Rattle.std.proofs.Common.{◌≡◌, [], map}
use Rattle.aos_code.specs.Machine.{first_cell, times}
use Rattle.aos_store_calls.proofs.objects.element_cells.Given as goal

-- the cells of so many elements
abbrev pub invariant-loop : goal.invariant-loop
invariant-loop l = l.cells.items ≡ times [] l.counter (map first_cell l.kinds)
