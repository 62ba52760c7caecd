use Rattle.std.proofs.Common.{subst, sym}
use Rattle.aos_cell.specs.Passes.{HasEnded}
use Rattle.aos_cell.proofs.Passes.{all_end, ended_has}
use Rattle.aos_workers.specs.Run.{gives_each, MayBegin}
use Rattle.aos_workers.proofs.workers.+fn-start-join+arg3+start.Goals as goal

pub rounds-requires-clause-start : goal.rounds-requires-clause-start
rounds-requires-clause-start g t c = subst (λ n. MayBegin n c.args.pass.view) c.if-count-eq1.true c.requires.start

pub join-requires-clause-free : goal.join-requires-clause-free
join-requires-clause-free g t c = ((ended_has _ _ c.join-mine.ensures.second.1).0, (ended_has _ _ c.join-mine.ensures.first.1).1)

pub returns-clause-view : goal.returns-clause-view
returns-clause-view g t c =
    subst (HasEnded c.args.pass.view) (sym c.join.ensures.view)
    (all_end gives_each c.args.count _ _ _ c.requires.count c.requires.start
    (subst (λ v. HasEnded v c.join-mine.result.1.view) c.part-mine.ensures.view.0 c.join-mine.ensures.second.1)
    (subst (λ v. HasEnded v c.join-mine.result.0.view) c.part-mine.ensures.view.1 c.join-mine.ensures.first.1))
