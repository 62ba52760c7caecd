use Rattle.aos_queue.specs.Lists.{room_of}
use Rattle.aos_queue.proofs.Tables.{next_read, next_same}
use Rattle.aos_queue.proofs.links.Links.link_back.Goals as goal

pub returns-clause-next : goal.returns-clause-next
unfolding room_of
returns-clause-next c m = next_same _ c.args.n _ (next_read _ c.args.n _ c.requires c.index_mut.ensures.value) m
