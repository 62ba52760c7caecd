use Rattle.aos_uses.proofs.Largest.{quiet_are}
use Rattle.aos_guard.proofs.laws.law_of_quiet.Goals as goal

pub returns : goal.returns
returns c = quiet_are
