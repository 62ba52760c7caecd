use Rattle.aos_order.proofs.Knots.{cycle_ties}
use Rattle.aos_order.proofs.laws.law_of_cycle.Goals as goal

pub returns : goal.returns
returns c = cycle_ties
