-- The parts of a frame and of a module, as the code's parameters, variables and string constants give them.
use Rattle.std.specs.Prelude.{ℕ, List, map}
use Rattle.std.specs.declared.vec.Vec.{Vec}
use Rattle.std.specs.declared.alloc.Global.{Global}
use Rattle.aos_types.specs.declared.row.TypeRow.{TypeRow}
use Rattle.aos_types.specs.Shape.{Shape, row}
use Rattle.aos_code.specs.declared.instr.Kind.{Kind}
use Rattle.aos_typed.specs.declared.tree.TParameter.{TParameter}
use Rattle.aos_typed.specs.declared.tree.TVariable.{TVariable}
use Rattle.aos_typed.specs.Seen.{seen_parameter, seen_variable}
use Rattle.aos_layout.specs.Layout.{leaves, variable_cells, text_cells}
use Rattle.aos_layout.specs.Frame.{parameter_cells}

abbrev pub parameter_parts : List TypeRow → List TParameter → List (Shape Kind)
parameter_parts rows ps = map (parameter_cells rows) (map seen_parameter ps)

abbrev pub local_parts : List TypeRow → List TVariable → List (Shape Kind)
local_parts rows vs = variable_cells rows (map seen_variable vs)

abbrev pub text_parts : List (Vec ℕ Global) → List (Shape Kind)
text_parts ts = map text_cells (map (λ t. t.items) ts)

-- the kinds of the parts' cells
abbrev pub kinds_of : List (Shape Kind) → List Kind
kinds_of ss = leaves (row ss)
