use Rattle.aos_types.proofs.Ranks.{ranked}
use Rattle.aos_types.proofs.Tables.{front}
use Rattle.aos_types.proofs.laws.law_of_fronts.Goals as goal

pub returns : goal.returns
returns c = λ rows a b free h e. front rows (ranked rows free) a b h e
