-- The measure of each is the greater depth of the two: lists and boxes ask for it of both.
use Rattle.std.proofs.Common.{max}
use Rattle.aos_tree.proofs.expr.Desig.TheLaws as desig
use Rattle.aos_tree.proofs.expr.Elem.TheLaws as elem
use Rattle.aos_tree.proofs.expr.Expr.TheLaws as expr
use Rattle.aos_tree.proofs.expr.Simple.TheLaws as simple
use Rattle.aos_tree.proofs.expr.Term.TheLaws as term
use Rattle.aos_same.proofs.expr.+same_expressions.Given as goal

abbrev pub decreases-DesigAlike::same : goal.decreases-DesigAlike::same
decreases-DesigAlike::same l = max (desig.the_size l.self.now) (desig.the_size l.other.now)

abbrev pub decreases-ElemAlike::same : goal.decreases-ElemAlike::same
decreases-ElemAlike::same l = max (elem.the_size l.self.now) (elem.the_size l.other.now)

abbrev pub decreases-ExprAlike::same : goal.decreases-ExprAlike::same
decreases-ExprAlike::same l = max (expr.the_size l.self.now) (expr.the_size l.other.now)

abbrev pub decreases-SimpleAlike::same : goal.decreases-SimpleAlike::same
decreases-SimpleAlike::same l = max (simple.the_size l.self.now) (simple.the_size l.other.now)

abbrev pub decreases-TermAlike::same : goal.decreases-TermAlike::same
decreases-TermAlike::same l = max (term.the_size l.self.now) (term.the_size l.other.now)
