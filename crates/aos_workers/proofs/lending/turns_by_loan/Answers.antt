use Rattle.std.proofs.Common.{◌≤◌, arith}
use Rattle.aos_workers.proofs.Loaned.{gives_lent, gave_workers, runs_lent, takes_lent}
use Rattle.aos_workers.proofs.lending.turns_by_loan.Goals as goal

pub give-requires-clause-kernel : goal.give-requires-clause-kernel
give-requires-clause-kernel g c = gives_lent _ _ _ _ _ _ _ (let less = c.requires.steps in let few : c.args.steps ≤ 256 = omega (arith, less) in few) c.requires.lent.1

pub take-kernel-requires-clause-own : goal.take-kernel-requires-clause-own
take-kernel-requires-clause-own g c = gave_workers _ _ _ c.give.ensures.view

pub returns-clause-back : goal.returns-clause-back
returns-clause-back g c v lent =
    let e = c.run.ensures in
    takes_lent _ _ _ v _ _ _ _ _ _ (runs_lent _ _ _ v _ _ _ _ e.image e.budget e.made e.fit lent) c.give.ensures.view c.take-kernel.ensures.kernel
