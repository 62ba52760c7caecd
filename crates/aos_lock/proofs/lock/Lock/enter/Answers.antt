use Rattle.std.proofs.Common.{◌∷◌}
use Rattle.aos_lock.specs.Waits.{numbers_of}
use Rattle.aos_lock.proofs.Changes.{keeps_same}
use Rattle.aos_lock.proofs.lock.Lock.enter.Goals as goal

pub returns-in-None-clause-others : goal.returns-in-None-clause-others
returns-in-None-clause-others c = keeps_same c.args.links.now (c.args.activity ∷ numbers_of c.args.links.now c.args.self.now)

pub returns-then-owner-activity-clause-others : goal.returns-then-owner-activity-clause-others
returns-then-owner-activity-clause-others c = keeps_same c.args.links.now (c.args.activity ∷ numbers_of c.args.links.now c.args.self.now)

pub returns-else-owner-activity-clause-entrants : goal.returns-else-owner-activity-clause-entrants
returns-else-owner-activity-clause-entrants c = c.join.ensures.entrants

pub returns-else-owner-activity-clause-waiters : goal.returns-else-owner-activity-clause-waiters
returns-else-owner-activity-clause-waiters c = c.join.ensures.waiters
