-- What each form of two operands is made of.
use Rattle.aos_operators.proofs.operations.joint_typed.Goals as goal

pub returns-in-On : goal.returns-in-On
returns-in-On c = rw c.in-On.is c.binary.ensures

pub returns-in-And : goal.returns-in-And
returns-in-And c = rw c.in-And.is c.and.ensures

pub returns-in-Or : goal.returns-in-Or
returns-in-Or c = rw c.in-Or.is c.or.ensures

pub returns-in-Same : goal.returns-in-Same
returns-in-Same c = rw c.in-Same.is c.same.ensures

pub returns-in-SameProcedure : goal.returns-in-SameProcedure
returns-in-SameProcedure c = rw c.in-SameProcedure.is c.same_procedure.ensures
