-- What each form of one operand is made of.
use Rattle.aos_operators.proofs.operations.single_typed.Goals as goal

pub returns-in-On : goal.returns-in-On
returns-in-On c = rw c.in-On.is c.unary.ensures

pub returns-in-Ord : goal.returns-in-Ord
returns-in-Ord c = rw c.in-Ord.is c.ord.ensures

pub returns-in-Chr : goal.returns-in-Chr
returns-in-Chr c = rw c.in-Chr.is c.chr.ensures

pub returns-in-Element : goal.returns-in-Element
returns-in-Element c = rw c.in-Element.is c.element.ensures
