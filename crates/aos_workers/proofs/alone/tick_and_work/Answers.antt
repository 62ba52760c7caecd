use Rattle.std.proofs.Common.{ap, ◌∙◌}
use Rattle.aos_kernel.specs.Run.{Run, among}
use Rattle.aos_workers.proofs.Runs.{goes_round}
use Rattle.aos_workers.proofs.alone.tick_and_work.Goals as goal

pub tick-requires-clause-lent : goal.tick-requires-clause-lent
tick-requires-clause-lent c = c.requires.lent c.args.w c.requires.worker

pub work-requires-clause-lent : goal.work-requires-clause-lent
work-requires-clause-lent c =
    ap (λ (r : Run). among c.args.w r.lent) c.in_ok-tick.ensures.same ∙ c.requires.lent c.args.w c.requires.worker

pub returns-clause-goes : goal.returns-clause-goes
returns-clause-goes c = let e = c.in_ok-tick.ensures in goes_round _ _ _ _ _ e.ticked e.log e.same c.work.ensures.works
