-- The memory that code works on: cells below each root, and what objects were made as.
use Rattle.std.specs.Prelude.{ℕ, List, length, Bool}
use Rattle.aos_base.specs.declared.root.Root.{Root}
use Rattle.aos_base.specs.Rooted.{Made}
use Rattle.aos_base.specs.Shared.{Shared, counted_by, has_room_by}
pub use Rattle.aos_base.specs.Shared.{type_of_object, with_object, new_number}
use Rattle.aos_code.specs.declared.instr.Cell.{Cell}

-- the place of a cell
pub record Addr : Type 0 where
  pub root : Root
  pub cell : ℕ

-- the cells of modules and of objects
abbrev pub Memory : Type 0
Memory = Shared (List Cell)

-- each cell is a scalar
abbrev pub counted : List Cell → ℕ
counted cells = counted_by length cells

abbrev pub has_room : Made → List Cell → Memory → Bool
has_room m cells mem = has_room_by length m cells mem
