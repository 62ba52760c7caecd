use Rattle.aos_script.proofs.Sole.{one_script}
use Rattle.aos_script.proofs.script.one_script.Goals as goal

pub returns : goal.returns
returns c = one_script
