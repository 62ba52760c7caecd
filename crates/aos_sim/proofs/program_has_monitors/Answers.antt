use Rattle.aos_sim.proofs.Monitors.{has_monitors}
use Rattle.aos_sim.proofs.program_has_monitors.Goals as goal

pub returns : goal.returns
returns c = λ p. has_monitors p
