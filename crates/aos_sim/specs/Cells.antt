-- The cell that holds a value. The place of a parameter is held as the place of its first cell.
use Rattle.std.specs.Prelude.{pos}
use Rattle.aos_base.specs.Operators.{flag}
use Rattle.aos_types.specs.World.{World, cell_at}
use Rattle.aos_typed.specs.Sort.{Sort}
use Rattle.aos_typed.specs.Location.{Location}
use Rattle.aos_typed.specs.Value.{Value, Int, Flag, Char, Set, Object, Callable, Place}
use Rattle.aos_code.specs.declared.instr.Cell.{Cell}
use Rattle.aos_code.specs.declared.instr.Cell.TheVariants as cell

abbrev pub place_in : World Sort → Location → Cell
place_in w p = cell.Place p.root (cell_at w p.root p.path) p.type

abbrev pub cell_of : World Sort → Value → Cell
cell_of w (Int z) = cell.Num z
cell_of w (Flag b) = cell.Num (flag b)
cell_of w (Char c) = cell.Num (pos c)
cell_of w (Set s) = cell.Num (pos s)
cell_of w (Object o) = cell.Ref o
cell_of w (Callable p o) = cell.Call p o
cell_of w (Place p) = place_in w p
