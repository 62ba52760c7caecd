-- No value where there is none.
use Rattle.aos_operators.proofs.operations.number_given.Goals as goal

pub returns-in-Trap : goal.returns-in-Trap
returns-in-Trap c = rw c.in-Trap.is

pub returns-in-Undefined : goal.returns-in-Undefined
returns-in-Undefined c = rw c.in-Undefined.is
