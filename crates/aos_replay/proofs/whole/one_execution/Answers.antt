use Rattle.std.proofs.Common.{ap}
use Rattle.aos_base.specs.Machine.{execution}
use Rattle.aos_code.specs.Machine.{machine}
use Rattle.aos_script.proofs.Prints.{joined_alike}
use Rattle.aos_replay.proofs.whole.one_execution.Goals as goal

pub returns : goal.returns
returns c image s st h = ap (λ cs. execution (machine image) cs st) (joined_alike s h)
