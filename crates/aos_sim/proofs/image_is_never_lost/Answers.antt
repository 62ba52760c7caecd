use Rattle.aos_sim.proofs.Shown.{shown}
use Rattle.aos_sim.proofs.NeverLost.{never_lost}
use Rattle.aos_sim.proofs.image_is_never_lost.Goals as goal

pub returns : goal.returns
returns c = λ p image typed ok. never_lost p image (shown p image typed ok)
