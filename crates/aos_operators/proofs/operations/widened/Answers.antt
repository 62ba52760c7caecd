-- The operator itself, or the one of 64 bits.
use Rattle.aos_operators.proofs.operations.widened.Goals as goal

pub returns-in-Add : goal.returns-in-Add
returns-in-Add c = rw c.in-Add.is

pub returns-in-Sub : goal.returns-in-Sub
returns-in-Sub c = rw c.in-Sub.is

pub returns-in-Mul : goal.returns-in-Mul
returns-in-Mul c = rw c.in-Mul.is

pub returns-in-Div : goal.returns-in-Div
returns-in-Div c = rw c.in-Div.is

pub returns-in-Mod : goal.returns-in-Mod
returns-in-Mod c = rw c.in-Mod.is

pub returns-in-Ash : goal.returns-in-Ash
returns-in-Ash c = rw c.in-Ash.is

pub returns-in-Cmp : goal.returns-in-Cmp
returns-in-Cmp c = rw c.in-Cmp.is

pub returns-in-In : goal.returns-in-In
returns-in-In c = rw c.in-In.is

pub returns-in-Union : goal.returns-in-Union
returns-in-Union c = rw c.in-Union.is

pub returns-in-Minus : goal.returns-in-Minus
returns-in-Minus c = rw c.in-Minus.is

pub returns-in-Meet : goal.returns-in-Meet
returns-in-Meet c = rw c.in-Meet.is

pub returns-in-Xor : goal.returns-in-Xor
returns-in-Xor c = rw c.in-Xor.is

pub returns-in-SetSpan : goal.returns-in-SetSpan
returns-in-SetSpan c = rw c.in-SetSpan.is
