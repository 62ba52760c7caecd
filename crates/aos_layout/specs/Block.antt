-- What code has of a module's variables and, behind them, its string constants: the first cell of each, in the order of the text,
-- how many cells they have, and the kinds of these.
use Rattle.std.specs.Prelude.{ℕ, List}
use Rattle.aos_types.specs.declared.row.TypeRow.{TypeRow}
use Rattle.aos_types.specs.Shape.{size}
use Rattle.aos_code.specs.declared.instr.Kind.{Kind}
use Rattle.aos_typed.specs.Program.{Module}
use Rattle.aos_layout.specs.Layout.{leaves, block_parts, block}
use Rattle.aos_layout.specs.Frame.{places_from}

pub record BlockShape : Type 0 where
  pub places : List ℕ
  pub cells : ℕ
  pub kinds : List Kind

abbrev pub block_shape : List TypeRow → Module → BlockShape
block_shape rows m =
    record { places = places_from 0 (block_parts rows m); cells = size (block rows m); kinds = leaves (block rows m) }
