use Rattle.std.proofs.Common.{arith}
use Rattle.aos_workers.specs.Run.{gives_each}
use Rattle.aos_cell.proofs.Passes.{starts_one}
use Rattle.aos_workers.proofs.Runs.{begins_rounds}
use Rattle.aos_workers.proofs.worker.rounds.Goals as goal

pub worker-w-requires : goal.worker-w-requires
worker-w-requires g c = (starts_one gives_each c.args.pass.view c.requires.start).0

pub loop-count-init : goal.loop-count-init
loop-count-init g c = (c.requires.pass, begins_rounds c.worker-w.result c.args.pass.view c.worker-w.ensures c.requires.start, omega arith)
