-- Parts tell of the whole, by the lemmas on nodes; a variant differs from each other variant.
use Rattle.std.proofs.Common.{arith}
use Rattle.aos_same.proofs.SameNodes.{addition, desig, elem, expr, product, relation, simple, term}
use Rattle.aos_same.proofs.expr.+same_expressions.Goals as goal

pub AdditionAlike::same-returns-then-same-2 : goal.AdditionAlike::same-returns-then-same-2
AdditionAlike::same-returns-then-same-2 t c = grind (arith, addition)

pub AdditionAlike::same-returns-else-same-2 : goal.AdditionAlike::same-returns-else-same-2
AdditionAlike::same-returns-else-same-2 t c = grind arith

pub DesigAlike::same-returns-then-same : goal.DesigAlike::same-returns-then-same
DesigAlike::same-returns-then-same t c = grind (arith, desig)

pub DesigAlike::same-returns-else-same : goal.DesigAlike::same-returns-else-same
DesigAlike::same-returns-else-same t c = grind arith

pub ElemAlike::same-returns-then-same : goal.ElemAlike::same-returns-then-same
ElemAlike::same-returns-then-same t c = grind (arith, elem)

pub ElemAlike::same-returns-else-same : goal.ElemAlike::same-returns-else-same
ElemAlike::same-returns-else-same t c = grind arith

pub ExprAlike::same-returns-then-same-2 : goal.ExprAlike::same-returns-then-same-2
ExprAlike::same-returns-then-same-2 t c = grind (arith, expr)

pub ExprAlike::same-returns-else-same-2 : goal.ExprAlike::same-returns-else-same-2
ExprAlike::same-returns-else-same-2 t c = grind arith

pub FactorAlike::same-returns-in_default : goal.FactorAlike::same-returns-in_default
FactorAlike::same-returns-in_default t c = grind arith

pub FactorAlike::same-returns-then-same : goal.FactorAlike::same-returns-then-same
FactorAlike::same-returns-then-same t c = grind arith

pub FactorAlike::same-returns-else-same : goal.FactorAlike::same-returns-else-same
FactorAlike::same-returns-else-same t c = grind arith

pub FactorAlike::same-returns-in_default-other : goal.FactorAlike::same-returns-in_default-other
FactorAlike::same-returns-in_default-other t c = grind arith

pub FactorAlike::same-returns-then-same-2 : goal.FactorAlike::same-returns-then-same-2
FactorAlike::same-returns-then-same-2 t c = grind arith

pub FactorAlike::same-returns-else-same-2 : goal.FactorAlike::same-returns-else-same-2
FactorAlike::same-returns-else-same-2 t c = grind arith

pub FactorAlike::same-returns-in_default-other-2 : goal.FactorAlike::same-returns-in_default-other-2
FactorAlike::same-returns-in_default-other-2 t c = grind arith

pub FactorAlike::same-returns-in-Text-other : goal.FactorAlike::same-returns-in-Text-other
FactorAlike::same-returns-in-Text-other t c = grind arith

pub FactorAlike::same-returns-in_default-other-3 : goal.FactorAlike::same-returns-in_default-other-3
FactorAlike::same-returns-in_default-other-3 t c = grind arith

pub FactorAlike::same-returns-in-Nil-other : goal.FactorAlike::same-returns-in-Nil-other
FactorAlike::same-returns-in-Nil-other t c = grind arith

pub FactorAlike::same-returns-in_default-other-4 : goal.FactorAlike::same-returns-in_default-other-4
FactorAlike::same-returns-in_default-other-4 t c = grind arith

pub FactorAlike::same-returns-else-same-3 : goal.FactorAlike::same-returns-else-same-3
FactorAlike::same-returns-else-same-3 t c = grind arith

pub FactorAlike::same-returns-in_default-other-5 : goal.FactorAlike::same-returns-in_default-other-5
FactorAlike::same-returns-in_default-other-5 t c = grind arith

pub FactorAlike::same-returns-else-same-4 : goal.FactorAlike::same-returns-else-same-4
FactorAlike::same-returns-else-same-4 t c = grind arith

pub FactorAlike::same-returns-in_default-other-6 : goal.FactorAlike::same-returns-in_default-other-6
FactorAlike::same-returns-in_default-other-6 t c = grind arith

pub FactorAlike::same-returns-else-same-5 : goal.FactorAlike::same-returns-else-same-5
FactorAlike::same-returns-else-same-5 t c = grind arith

pub FactorAlike::same-returns-in_default-other-7 : goal.FactorAlike::same-returns-in_default-other-7
FactorAlike::same-returns-in_default-other-7 t c = grind arith

pub ProductAlike::same-returns-then-same-2 : goal.ProductAlike::same-returns-then-same-2
ProductAlike::same-returns-then-same-2 t c = grind (arith, product)

pub ProductAlike::same-returns-else-same-2 : goal.ProductAlike::same-returns-else-same-2
ProductAlike::same-returns-else-same-2 t c = grind arith

pub RelationAlike::same-returns-then-same-2 : goal.RelationAlike::same-returns-then-same-2
RelationAlike::same-returns-then-same-2 t c = grind (arith, relation)

pub RelationAlike::same-returns-else-same-2 : goal.RelationAlike::same-returns-else-same-2
RelationAlike::same-returns-else-same-2 t c = grind arith

pub SelectorAlike::same-returns-then-same : goal.SelectorAlike::same-returns-then-same
SelectorAlike::same-returns-then-same t c = grind arith

pub SelectorAlike::same-returns-else-same : goal.SelectorAlike::same-returns-else-same
SelectorAlike::same-returns-else-same t c = grind arith

pub SelectorAlike::same-returns-in_default : goal.SelectorAlike::same-returns-in_default
SelectorAlike::same-returns-in_default t c = grind arith

pub SelectorAlike::same-returns-else-same-2 : goal.SelectorAlike::same-returns-else-same-2
SelectorAlike::same-returns-else-same-2 t c = grind arith

pub SelectorAlike::same-returns-in_default-other : goal.SelectorAlike::same-returns-in_default-other
SelectorAlike::same-returns-in_default-other t c = grind arith

pub SelectorAlike::same-returns-in-Follow-other : goal.SelectorAlike::same-returns-in-Follow-other
SelectorAlike::same-returns-in-Follow-other t c = grind arith

pub SelectorAlike::same-returns-in_default-other-2 : goal.SelectorAlike::same-returns-in_default-other-2
SelectorAlike::same-returns-in_default-other-2 t c = grind arith

pub SelectorAlike::same-returns-else-same-3 : goal.SelectorAlike::same-returns-else-same-3
SelectorAlike::same-returns-else-same-3 t c = grind arith

pub SelectorAlike::same-returns-in_default-other-3 : goal.SelectorAlike::same-returns-in_default-other-3
SelectorAlike::same-returns-in_default-other-3 t c = grind arith

pub SimpleAlike::same-returns-then-not-same : goal.SimpleAlike::same-returns-then-not-same
SimpleAlike::same-returns-then-not-same t c = grind arith

pub SimpleAlike::same-returns : goal.SimpleAlike::same-returns
SimpleAlike::same-returns t c = grind (arith, simple)

pub TermAlike::same-returns-then-same-2 : goal.TermAlike::same-returns-then-same-2
TermAlike::same-returns-then-same-2 t c = grind (arith, term)

pub TermAlike::same-returns-else-same-2 : goal.TermAlike::same-returns-else-same-2
TermAlike::same-returns-else-same-2 t c = grind arith
