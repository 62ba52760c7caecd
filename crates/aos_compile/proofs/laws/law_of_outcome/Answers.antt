use Rattle.aos_compile.proofs.OneReading.{one_outcome}
use Rattle.aos_compile.proofs.laws.law_of_outcome.Goals as goal

pub returns : goal.returns
returns c = one_outcome
