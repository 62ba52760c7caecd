use Rattle.std.proofs.Common.{◌≡◌, take, map}
use Rattle.aos_types.specs.Shape.{size, row}
use Rattle.aos_typed.specs.Seen.{seen_parameter}
use Rattle.aos_layout.specs.Frame.{parameter_cells}
use Rattle.aos_listing.proofs.cells.parameters_cells.Given as goal

-- what was counted so far
abbrev pub invariant-loop-parameter : goal.invariant-loop-parameter
invariant-loop-parameter l = l.all ≡ size (row (map (parameter_cells l.types) (map seen_parameter (take l.parameter-index l.parameters))))
