use Rattle.std.proofs.Common.{sym}
use Rattle.std.specs.Prelude.{slice_index_or}
use Rattle.aos_base.specs.declared.kernel.Verdict.TheVariants.{Fails}
use Rattle.aos_lock.specs.Waits.{entrants_in, waiters_in}
use Rattle.aos_lock.proofs.Chosen.{passed_within}
use Rattle.aos_kernel_tests.proofs.Flags.{keeps_left}
use Rattle.aos_kernel_tests.proofs.handovers.leave.Goals as goal

pub returns : goal.returns
returns c =
    let before = c.args.links.now in
    let old = c.args.locks.now in
    let e = c.leave-passed.ensures in
    keeps_left before c.leave-passed.new.links old c.leave-passed.new.self c.args.waits.now _ c.leave-passed.result c.owner.result c.requires e.others e.belong e.table.room e.entrants e.waiters
    (λ a is. passed_within (λ n. slice_index_or c.args.verdicts.of n Fails) (entrants_in before old 0) (waiters_in before old 0) c.leave-passed.result a e.heir is)
    (sym c.owner.ensures) c.wake.ensures.some c.wake.ensures.none
