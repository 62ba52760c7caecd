use Rattle.aos_parse_expr.proofs.Moved.{one_expr, one_desig}
use Rattle.aos_parse_expr.proofs.laws.unambiguous.Goals as goal

pub returns : goal.returns
returns c = record { expressions = λ d may a b ts rest x y. one_expr may rest x y; designators = λ d may a b ts rest x y. one_desig may rest x y }
