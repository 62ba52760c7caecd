use Rattle.aos_script.proofs.Prints.{joined_alike}
use Rattle.aos_script.proofs.script.joined_alike.Goals as goal

pub returns : goal.returns
returns c = joined_alike
