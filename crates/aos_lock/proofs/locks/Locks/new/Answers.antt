use Rattle.aos_lock.proofs.Changes.{none_belong}
use Rattle.aos_lock.proofs.locks.Locks.new.Goals as goal

pub returns-clause-belong : goal.returns-clause-belong
returns-clause-belong c links = none_belong links _ c.new.ensures.items
