use Rattle.aos_sim.proofs.Judged.{judges_as_program}
use Rattle.aos_sim.proofs.image_judges_as_program.Goals as goal

pub returns : goal.returns
returns c = λ p image typed ok. judges_as_program p image typed ok
