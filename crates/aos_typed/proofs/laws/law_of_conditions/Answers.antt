use Rattle.aos_typed.proofs.Conditions.{linked, numbers_in_order}
use Rattle.aos_typed.proofs.Numbered.{numbered_typed}
use Rattle.aos_typed.proofs.laws.law_of_conditions.Goals as goal

pub returns-clause-walk : goal.returns-clause-walk
returns-clause-walk c p = numbers_in_order p

pub returns-clause-linked : goal.returns-clause-linked
returns-clause-linked c p h = linked p h

pub returns-clause-typed : goal.returns-clause-typed
returns-clause-typed c p h rules = numbered_typed p h rules
