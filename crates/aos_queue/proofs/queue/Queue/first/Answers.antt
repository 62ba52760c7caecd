use Rattle.aos_queue.proofs.Runs.{start_is}
use Rattle.aos_queue.proofs.queue.Queue.first.Goals as goal

pub returns : goal.returns
returns c links h = start_is _ _ _ h.stands.run
