use Rattle.aos_order.proofs.Keeps.{order_keeps}
use Rattle.aos_order.proofs.laws.law_of_order.Goals as goal

pub returns : goal.returns
returns c = order_keeps
