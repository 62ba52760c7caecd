use Rattle.aos_queue.specs.Lists.{room_of}
use Rattle.aos_queue.proofs.Tables.{prior_read, prior_same}
use Rattle.aos_queue.proofs.links.Links.link.Goals as goal

pub returns-clause-before : goal.returns-clause-before
unfolding room_of
returns-clause-before c m = prior_same _ c.args.n _ (prior_read _ c.args.n _ c.requires c.index_mut.ensures.value) m
