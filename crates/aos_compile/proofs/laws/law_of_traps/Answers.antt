use Rattle.aos_sim.proofs.Shown.{shown}
use Rattle.aos_sim.proofs.NeverLost.{never_lost}
use Rattle.aos_compile.proofs.Typing.{well_typed}
use Rattle.aos_compile.proofs.laws.law_of_traps.Goals as goal

pub returns : goal.returns
returns c = λ texts p image comes some few code. never_lost p image (shown p image (well_typed texts p comes some few) code)
