use Rattle.aos_types.proofs.Ranks.{ranked}
use Rattle.aos_types.proofs.laws.law_of_ranks.Goals as goal

pub returns : goal.returns
returns c = λ rows free. ranked rows free
