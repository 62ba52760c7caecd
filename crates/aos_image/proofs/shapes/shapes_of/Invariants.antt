use Rattle.std.proofs.Common.{◌≡◌, map, take}
use Rattle.aos_typed.specs.Seen.{seen_program}
use Rattle.aos_layout.specs.Seen.{seen_shape}
use Rattle.aos_dispatch.specs.Routines.{seen_routines}
use Rattle.aos_sim.specs.Shows.{shape_of}
use Rattle.aos_image.proofs.shapes.shapes_of.Given as goal

-- the shapes so far
abbrev pub invariant-loop-routine : goal.invariant-loop-routine
invariant-loop-routine l =
    map seen_shape l.shapes.items ≡ map (shape_of (seen_program l.program).types) (seen_routines (take l.routine-index l.routine-items))
