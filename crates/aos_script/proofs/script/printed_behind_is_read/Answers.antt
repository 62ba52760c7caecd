use Rattle.aos_script.proofs.Prints.{printed_behind_is_read}
use Rattle.aos_script.proofs.script.printed_behind_is_read.Goals as goal

pub returns : goal.returns
returns c = printed_behind_is_read
