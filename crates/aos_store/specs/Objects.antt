-- Objects as code keeps them.
use Rattle.std.specs.Prelude.{ℕ, List}
use Rattle.aos_base.specs.Rooted.{Made}
use Rattle.aos_code.specs.declared.instr.Cell.{Cell}
use Rattle.aos_code.specs.Memory.{counted as counted_as}
use Rattle.aos_store.specs.declared.heap.Object.{Object}

abbrev pub made_in : Object → Made
made_in o = record { type = o.made_of; lengths = o.lengths.items }

abbrev pub object_cells : Object → List Cell
object_cells o = o.cells.items

-- how many scalars it counts as
abbrev pub object_counted : Object → ℕ
object_counted o = counted_as (object_cells o)
