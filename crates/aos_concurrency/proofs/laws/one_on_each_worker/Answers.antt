use Rattle.std.proofs.Common.{◌≤◌, arith}
use Rattle.aos_base.specs.Machine.{start_of}
use Rattle.aos_concurrency.proofs.Places.{one_place, execution_one, keeps_none}
use Rattle.aos_concurrency.proofs.laws.one_on_each_worker.Goals as goal

pub returns-clause-one : goal.returns-clause-one
returns-clause-one g c m s f budget cs w a b at bt = one_place w a b _ (execution_one m w cs (start_of s f budget) (omega arith)) at bt

pub returns-clause-idle : goal.returns-clause-idle
returns-clause-idle g c m w cs st others idle = keeps_none m w cs st others idle
