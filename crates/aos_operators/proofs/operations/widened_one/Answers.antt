-- The operator itself, or the one of 64 bits.
use Rattle.aos_operators.proofs.operations.widened_one.Goals as goal

pub returns-in-Neg : goal.returns-in-Neg
returns-in-Neg c = rw c.in-Neg.is

pub returns-in-Abs : goal.returns-in-Abs
returns-in-Abs c = rw c.in-Abs.is

pub returns-in-Range : goal.returns-in-Range
returns-in-Range c = rw c.in-Range.is

pub returns-in-Not : goal.returns-in-Not
returns-in-Not c = rw c.in-Not.is

pub returns-in-Odd : goal.returns-in-Odd
returns-in-Odd c = rw c.in-Odd.is

pub returns-in-Cap : goal.returns-in-Cap
returns-in-Cap c = rw c.in-Cap.is

pub returns-in-Compl : goal.returns-in-Compl
returns-in-Compl c = rw c.in-Compl.is
