use Rattle.std.proofs.Common.{◌≡◌, ◌++◌, take, map}
use Rattle.std.specs.List.{flat_map}
use Rattle.aos_code.specs.Machine.{first_cell}
use Rattle.aos_sim.specs.Shows.{text_cells}
use Rattle.aos_image.proofs.modules.first_cells.Given as goal

abbrev pub invariant-loop-text : goal.invariant-loop-text
invariant-loop-text l =
    l.cells.items ≡ map first_cell l.kinds ++ flat_map (λ t. text_cells t.items) (take l.text-index l.texts)
