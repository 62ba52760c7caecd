use Rattle.aos_types.specs.Circle.{AreTested}
use Rattle.aos_types.proofs.circle.circles.Given as goal

abbrev pub invariant-loop-number : goal.invariant-loop-number
invariant-loop-number l = AreTested l.rows l.flags.items l.number
