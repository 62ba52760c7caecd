use Rattle.std.proofs.Common.{arith}
use Rattle.std.proofs.lemmas.Grind.{common_steps}
use Rattle.aos_queue.proofs.Runs.{keeps_others}
use Rattle.aos_queue.proofs.links.Links.reserve.Goals as goal

pub returns-in_err-resize-clause-queues : goal.returns-in_err-resize-clause-queues
returns-in_err-resize-clause-queues c = keeps_others _ _ _ (grind (arith, common_steps)) (λ n out. grind (arith, common_steps)) (λ n out. grind (arith, common_steps))

pub returns-clause-queues : goal.returns-clause-queues
returns-clause-queues c = keeps_others _ _ _ (grind (arith, common_steps)) (λ n out. grind (arith, common_steps)) (λ n out. grind (arith, common_steps))
