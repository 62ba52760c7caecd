use Rattle.aos_sim.proofs.Rewriting.{designator_rewrites, expression_rewrites, statement_rewrites, assigned_rewrites, assignment_rewrites}
use Rattle.aos_sim.proofs.feeding_is_rewriting.Goals as goal

pub returns-clause-designator : goal.returns-clause-designator
returns-clause-designator c p here variables q ls asked = designator_rewrites p here variables q ls asked

pub returns-clause-expression : goal.returns-clause-expression
returns-clause-expression c p here variables e ls asked = expression_rewrites p here variables e ls asked

pub returns-clause-statement : goal.returns-clause-statement
returns-clause-statement c p here variables e onward ls asked = statement_rewrites p here variables e onward ls asked

pub returns-clause-assigned : goal.returns-clause-assigned
returns-clause-assigned c p here variables at t q e ls asked = assigned_rewrites p here variables at t q e ls asked

pub returns-clause-assignment : goal.returns-clause-assignment
returns-clause-assignment c p here variables at t q s e ls is asked = assignment_rewrites p here variables at t q s e ls is asked
