use Rattle.aos_typed.specs.Seen.{seen_program}
use Rattle.aos_image.specs.Made.{AreTypesOf}
use Rattle.aos_image.proofs.types.types_of.Given as goal

-- the types so far
abbrev pub invariant-loop-number : goal.invariant-loop-number
invariant-loop-number l = AreTypesOf (seen_program l.program) l.number l.types.items
