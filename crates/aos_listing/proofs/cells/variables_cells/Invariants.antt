use Rattle.std.proofs.Common.{◌≡◌, take, map}
use Rattle.aos_types.specs.Shape.{size, row}
use Rattle.aos_typed.specs.Seen.{seen_variable}
use Rattle.aos_layout.specs.Layout.{variable_cells}
use Rattle.aos_listing.proofs.cells.variables_cells.Given as goal

-- what was counted so far
abbrev pub invariant-loop-variable : goal.invariant-loop-variable
invariant-loop-variable l = l.all ≡ size (row (variable_cells l.types (map seen_variable (take l.variable-index l.variables))))
