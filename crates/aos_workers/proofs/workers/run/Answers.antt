use Rattle.std.proofs.Common.{sym, subst}
use Rattle.aos_cell.specs.Passes.{NoneLent}
use Rattle.aos_workers.specs.Run.{GoesOn}
use Rattle.aos_workers.proofs.Runs.{runs_then}
use Rattle.aos_workers.proofs.workers.run.Goals as goal

pub finish-want-requires : goal.finish-want-requires
finish-want-requires g c = subst NoneLent (sym c.deref_mut.ensures.value) c.by_workers-kernel.ensures.lent

pub returns-clause-kernel : goal.returns-clause-kernel
returns-clause-kernel g c =
    runs_then c.args.kernel.value c.by_workers-kernel.result.value c.finish-want.new.kernel c.by_workers-kernel.ensures.runs
    (subst (λ r. GoesOn r c.finish-want.new.kernel) c.deref_mut.ensures.value c.finish-want.ensures.goes)
