use Rattle.std.proofs.Common.{arith}
use Rattle.aos_silent_steps.proofs.Topmost.{replaced}
use Rattle.aos_silent_steps.proofs.operands.replace.Goals as goal

pub returns-clause-operands : goal.returns-clause-operands
returns-clause-operands c = replaced _ _ _ _ c.saturating_sub.result _ (omega arith) c.truncate.ensures.items c.push_reserved.ensures.items
