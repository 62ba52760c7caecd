use Rattle.aos_lock.proofs.Owns.{heir_shown, entrants_left, waiters_left}
use Rattle.aos_lock.proofs.law.stands_for_lists.Goals as goal

pub returns-clause-heir : goal.returns-clause-heir
returns-clause-heir c verdict of es h = heir_shown verdict of es h

pub returns-clause-entrants : goal.returns-clause-entrants
returns-clause-entrants c chosen es = entrants_left chosen es

pub returns-clause-waiters : goal.returns-clause-waiters
returns-clause-waiters c chosen es = waiters_left chosen es
