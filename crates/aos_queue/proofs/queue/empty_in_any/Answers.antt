use Rattle.std.proofs.Common.{[]}
use Rattle.aos_queue.proofs.Runs.{stands_belongs, stands_list, nobody_anywhere}
use Rattle.aos_queue.proofs.queue.empty_in_any.Goals as goal

pub returns-clause-belongs : goal.returns-clause-belongs
returns-clause-belongs c links other queue h e = stands_belongs other queue [] (nobody_anywhere links other queue h e) tt

pub returns-clause-empty : goal.returns-clause-empty
returns-clause-empty c links other queue h e = stands_list other queue _ (nobody_anywhere links other queue h e)
