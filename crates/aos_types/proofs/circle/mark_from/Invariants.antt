use Rattle.aos_types.specs.Chain.{ContainsItself}
use Rattle.aos_types.specs.Circle.{IsMarked}
use Rattle.aos_types.proofs.circle.mark_from.Given as goal

abbrev pub invariant-loop : goal.invariant-loop
invariant-loop l = IsMarked l.rows l.fn.flags.items l.fn.t l.flags.items × ContainsItself l.rows l.at
