use Rattle.std.proofs.Common.{◌+◌, ◌*◌}
use Rattle.aos_workers.proofs.workers.+fn-start-join+arg3+start.Given as goal

abbrev pub decreases-join+arg3 : goal.decreases-join+arg3
decreases-join+arg3 g l = 2 * l.last + 1

abbrev pub decreases-start : goal.decreases-start
decreases-start g l = 2 * l.count
