use Rattle.std.proofs.Common.{sym, ◌∙◌, arith}
use Rattle.aos_cell.proofs.Passes.{still_unlent}
use Rattle.aos_workers.proofs.Runs.{goes_nowhere, goes_then, goes_tick}
use Rattle.aos_workers.proofs.alone.tick_all.Goals as goal

pub loop-w-init : goal.loop-w-init
loop-w-init c = (goes_nowhere _, c.workers-count.ensures.workers)

pub tick-requires-clause-lent : goal.tick-requires-clause-lent
tick-requires-clause-lent c =
    let goes = c.loop-w.invariant.0 in
    still_unlent c.args.kernel.now c.loop-w.kernel goes.program.1 goes.lent c.requires c.loop-w.w (let many = c.loop-w.invariant.1 in omega arith)

pub loop-w-preserved : goal.loop-w-preserved
loop-w-preserved c =
    let t = goes_tick _ _ _ _ c.in_ok-tick.ensures.log c.in_ok-tick.ensures.same in
    (goes_then _ _ _ c.loop-w.invariant.0 t, c.loop-w.invariant.1 ∙ sym t.program.1)
