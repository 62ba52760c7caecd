-- What contracts see of a pass.
use Rattle.std.specs.Prelude.{ℕ}
use Rattle.atomic_table.specs.Seated.{TableId}
use Rattle.aos_cell.specs.declared.rule.View.{View}

-- the cell that it is one of, its number there, and what it has and knows
pub record Hold : Type 0 where
  pub cell : TableId
  pub seat : ℕ
  pub view : View
