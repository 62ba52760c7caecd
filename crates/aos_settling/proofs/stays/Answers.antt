use Rattle.std.specs.Prelude.{IsTrue}
use Rattle.aos_settling.proofs.Stores.{execution_store, execution_budget}
use Rattle.aos_settling.proofs.stays.Goals as goal

pub returns-clause-store : goal.returns-clause-store
returns-clause-store g c m kept cs st keeps first = execution_store m (λ s. IsTrue (kept s)) keeps cs st first

pub returns-clause-budget : goal.returns-clause-budget
returns-clause-budget g c m cs st = execution_budget m cs st
