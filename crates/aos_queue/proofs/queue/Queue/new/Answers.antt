use Rattle.std.proofs.Common.{[]}
use Rattle.aos_queue.proofs.Runs.{stands_belongs, stands_list, nobody_stands}
use Rattle.aos_queue.proofs.queue.Queue.new.Goals as goal

pub returns-clause-belongs : goal.returns-clause-belongs
returns-clause-belongs c links = stands_belongs links _ [] (nobody_stands _ _ 0) tt

pub returns-clause-empty : goal.returns-clause-empty
returns-clause-empty c links = stands_list links _ _ (nobody_stands _ _ 0)
