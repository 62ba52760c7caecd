use Rattle.std.proofs.Common.{refl}
use Rattle.aos_base.specs.Machine.{start_of}
use Rattle.aos_concurrency.proofs.Begin.{orderly_start}
use Rattle.aos_concurrency.proofs.Itself.{execution_orderly}
use Rattle.aos_concurrency.proofs.Records.{records_traps, execution_told}
use Rattle.aos_concurrency.proofs.laws.in_order.Goals as goal

pub returns-clause-places : goal.returns-clause-places
returns-clause-places g c m s f budget cs = execution_orderly m cs (start_of s f budget) (orderly_start s f budget)

pub returns-clause-traps : goal.returns-clause-traps
returns-clause-traps g c m choice st = records_traps m choice st

pub returns-clause-told : goal.returns-clause-told
returns-clause-told g c m s f budget cs = execution_told m cs (start_of s f budget) refl
