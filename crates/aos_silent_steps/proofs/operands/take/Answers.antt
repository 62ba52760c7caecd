use Rattle.std.proofs.Common.{arith}
use Rattle.aos_silent_steps.proofs.Topmost.{taken}
use Rattle.aos_silent_steps.proofs.operands.take.Goals as goal

pub returns-clause-operands : goal.returns-clause-operands
returns-clause-operands c = taken _ _ _ c.saturating_sub.result (omega arith) c.truncate.ensures.items
