use Rattle.aos_script.proofs.Lasting.{not_both}
use Rattle.aos_script.proofs.script.not_both.Goals as goal

pub returns : goal.returns
returns c = not_both
