-- Parts tell of the whole, by the lemmas on nodes; a variant differs from each other variant.
use Rattle.std.proofs.Common.{arith}
use Rattle.aos_same.proofs.SameStatements.{block, elsif, sequence}
use Rattle.aos_same.proofs.stat.+same_statements.Goals as goal

pub BlockAlike::same-returns-then-same-2 : goal.BlockAlike::same-returns-then-same-2
BlockAlike::same-returns-then-same-2 t c = grind (arith, block)

pub BlockAlike::same-returns-else-same-2 : goal.BlockAlike::same-returns-else-same-2
BlockAlike::same-returns-else-same-2 t c = grind arith

pub CaseAlike::same-returns-in-Empty-other : goal.CaseAlike::same-returns-in-Empty-other
CaseAlike::same-returns-in-Empty-other t c = grind arith

pub CaseAlike::same-returns-in_default : goal.CaseAlike::same-returns-in_default
CaseAlike::same-returns-in_default t c = grind arith

pub CaseAlike::same-returns-else-same : goal.CaseAlike::same-returns-else-same
CaseAlike::same-returns-else-same t c = grind arith

pub CaseAlike::same-returns-in_default-other : goal.CaseAlike::same-returns-in_default-other
CaseAlike::same-returns-in_default-other t c = grind arith

pub ElsifAlike::same-returns-then-same-2 : goal.ElsifAlike::same-returns-then-same-2
ElsifAlike::same-returns-then-same-2 t c = grind (arith, elsif)

pub ElsifAlike::same-returns-else-same-2 : goal.ElsifAlike::same-returns-else-same-2
ElsifAlike::same-returns-else-same-2 t c = grind arith

pub StatAlike::same-returns-in-Empty-other : goal.StatAlike::same-returns-in-Empty-other
StatAlike::same-returns-in-Empty-other t c = grind arith

pub StatAlike::same-returns-in_default : goal.StatAlike::same-returns-in_default
StatAlike::same-returns-in_default t c = grind arith

pub StatAlike::same-returns-else-same-2 : goal.StatAlike::same-returns-else-same-2
StatAlike::same-returns-else-same-2 t c = grind arith

pub StatAlike::same-returns-in_default-other : goal.StatAlike::same-returns-in_default-other
StatAlike::same-returns-in_default-other t c = grind arith

pub StatAlike::same-returns-in_default-other-2 : goal.StatAlike::same-returns-in_default-other-2
StatAlike::same-returns-in_default-other-2 t c = grind arith

pub StatAlike::same-returns-in_default-other-3 : goal.StatAlike::same-returns-in_default-other-3
StatAlike::same-returns-in_default-other-3 t c = grind arith

pub StatAlike::same-returns-in_default-other-4 : goal.StatAlike::same-returns-in_default-other-4
StatAlike::same-returns-in_default-other-4 t c = grind arith

pub StatAlike::same-returns-else-same-3 : goal.StatAlike::same-returns-else-same-3
StatAlike::same-returns-else-same-3 t c = grind arith

pub StatAlike::same-returns-in_default-other-5 : goal.StatAlike::same-returns-in_default-other-5
StatAlike::same-returns-in_default-other-5 t c = grind arith

pub StatAlike::same-returns-else-same-4 : goal.StatAlike::same-returns-else-same-4
StatAlike::same-returns-else-same-4 t c = grind arith

pub StatAlike::same-returns-in_default-other-6 : goal.StatAlike::same-returns-in_default-other-6
StatAlike::same-returns-in_default-other-6 t c = grind arith

pub StatAlike::same-returns-in_default-other-7 : goal.StatAlike::same-returns-in_default-other-7
StatAlike::same-returns-in_default-other-7 t c = grind arith

pub StatAlike::same-returns-in_default-other-8 : goal.StatAlike::same-returns-in_default-other-8
StatAlike::same-returns-in_default-other-8 t c = grind arith

pub StatAlike::same-returns-else-same-13 : goal.StatAlike::same-returns-else-same-13
StatAlike::same-returns-else-same-13 t c = grind arith

pub StatAlike::same-returns-in_default-other-9 : goal.StatAlike::same-returns-in_default-other-9
StatAlike::same-returns-in_default-other-9 t c = grind arith

pub StatAlike::same-returns-in_default-other-10 : goal.StatAlike::same-returns-in_default-other-10
StatAlike::same-returns-in_default-other-10 t c = grind arith

pub StatAlike::same-returns-else-same-16 : goal.StatAlike::same-returns-else-same-16
StatAlike::same-returns-else-same-16 t c = grind arith

pub StatAlike::same-returns-in_default-other-11 : goal.StatAlike::same-returns-in_default-other-11
StatAlike::same-returns-in_default-other-11 t c = grind arith

pub StatAlike::same-returns-else-same-22 : goal.StatAlike::same-returns-else-same-22
StatAlike::same-returns-else-same-22 t c = grind arith

pub StatAlike::same-returns-in_default-other-12 : goal.StatAlike::same-returns-in_default-other-12
StatAlike::same-returns-in_default-other-12 t c = grind arith

pub StatAlike::same-returns-else-same-26 : goal.StatAlike::same-returns-else-same-26
StatAlike::same-returns-else-same-26 t c = grind arith

pub StatAlike::same-returns-in_default-other-13 : goal.StatAlike::same-returns-in_default-other-13
StatAlike::same-returns-in_default-other-13 t c = grind arith

pub StatSeqAlike::same-returns : goal.StatSeqAlike::same-returns
StatSeqAlike::same-returns t c = grind (arith, sequence)
