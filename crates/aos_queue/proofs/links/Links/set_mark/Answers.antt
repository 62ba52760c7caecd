use Rattle.std.proofs.Common.{arith}
use Rattle.std.proofs.lemmas.Grind.{common_steps}
use Rattle.aos_queue.specs.Lists.{room_of}
use Rattle.aos_queue.proofs.Runs.{keeps_others}
use Rattle.aos_queue.proofs.Tables.{next_read, prior_read, next_same, prior_same}
use Rattle.aos_queue.proofs.links.Links.set_mark.Goals as goal

pub returns-clause-queues : goal.returns-clause-queues
unfolding room_of
returns-clause-queues c = keeps_others _ _ _ (grind (arith, common_steps))
    (λ n out. next_same _ c.args.n _ (next_read _ c.args.n _ c.requires c.index_mut.ensures.value) n)
    (λ n out. prior_same _ c.args.n _ (prior_read _ c.args.n _ c.requires c.index_mut.ensures.value) n)
