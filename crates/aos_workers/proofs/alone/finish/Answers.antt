use Rattle.aos_cell.proofs.Passes.{still_unlent}
use Rattle.aos_workers.proofs.Runs.{goes_then}
use Rattle.aos_workers.proofs.alone.finish.Goals as goal

pub tick_and_work-requires-clause-lent : goal.tick_and_work-requires-clause-lent
tick_and_work-requires-clause-lent g c = still_unlent c.args.kernel.now c.loop.kernel c.loop.invariant.program.1 c.loop.invariant.lent c.requires

pub loop-preserved : goal.loop-preserved
loop-preserved g c = goes_then _ _ _ c.loop.invariant c.tick_and_work.ensures.goes

pub returns-in_default-clause-goes : goal.returns-in_default-clause-goes
returns-in_default-clause-goes g c = goes_then _ _ _ c.loop.invariant c.tick_and_work.ensures.goes
