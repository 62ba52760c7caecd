use Rattle.aos_stability.proofs.Handing.{lasts}
use Rattle.aos_stability.proofs.conditions_last.Goals as goal

pub returns : goal.returns
returns c = lasts
