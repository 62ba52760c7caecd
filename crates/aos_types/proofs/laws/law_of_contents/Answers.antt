use Rattle.aos_types.proofs.Ranks.{ranked}
use Rattle.aos_types.proofs.Tables.{by_parts}
use Rattle.aos_types.proofs.laws.law_of_contents.Goals as goal

pub returns : goal.returns
returns c = λ rows t free. by_parts rows (ranked rows free) t
