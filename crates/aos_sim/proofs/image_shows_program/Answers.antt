use Rattle.aos_sim.proofs.Shown.{shown}
use Rattle.aos_sim.proofs.image_shows_program.Goals as goal

pub returns : goal.returns
returns c = λ p image typed ok. shown p image typed ok
