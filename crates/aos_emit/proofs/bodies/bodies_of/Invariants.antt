use Rattle.std.proofs.Common.{take}
use Rattle.aos_typed.specs.Seen.{seen_program}
use Rattle.aos_dispatch.specs.Routines.{seen_routines}
use Rattle.aos_emit.proofs.Matching.{AreBodies}
use Rattle.aos_emit.proofs.bodies.bodies_of.Given as goal

-- the bodies so far
abbrev pub invariant-loop-routine : goal.invariant-loop-routine
invariant-loop-routine l = AreBodies (seen_program l.program) (seen_routines (take l.routine-index l.routine-items)) l.bodies.items
