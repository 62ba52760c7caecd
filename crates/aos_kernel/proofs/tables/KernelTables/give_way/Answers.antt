use Rattle.std.proofs.Common.{sym, subst}
use Rattle.aos_kernel.specs.Conditions.{HasRooms}
use Rattle.aos_kernel.proofs.TablesShown.{on_err}
use Rattle.aos_kernel.proofs.tables.KernelTables.give_way.Goals as goal

pub returns-in_err-join_waiters-clause-err : goal.returns-in_err-join_waiters-clause-err
returns-in_err-join_waiters-clause-err c = on_err c.from_residual.result c.in_err-join_waiters.ensures.err

pub release-requires-clause-stack : goal.release-requires-clause-stack
release-requires-clause-stack c = subst (λ s. HasRooms c.args.image.now s) (sym c.join_waiters.ensures.stack) c.requires.stack

pub returns-clause-ok : goal.returns-clause-ok
returns-clause-ok c condition awaits before earlier st h work =
    c.release.ensures earlier _ (c.in_ok-join_waiters.ensures.ok condition awaits before earlier st h work)
