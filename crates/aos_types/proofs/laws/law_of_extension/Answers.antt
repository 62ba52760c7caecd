use Rattle.aos_types.proofs.Ranks.{ranked}
use Rattle.aos_types.proofs.Extensions.{on}
use Rattle.aos_types.proofs.laws.law_of_extension.Goals as goal

pub returns : goal.returns
returns c = λ rows a b c' free e f. on rows (ranked rows free) a b c' e f
