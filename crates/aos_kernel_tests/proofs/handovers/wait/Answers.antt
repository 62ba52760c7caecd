use Rattle.std.proofs.Common.{◌++◌, ◌∷◌, [], sym}
use Rattle.std.specs.Prelude.{slice_index_or}
use Rattle.aos_base.specs.declared.kernel.Verdict.TheVariants.{Fails}
use Rattle.aos_lock.specs.Waits.{entrants_in, waiters_in}
use Rattle.aos_lock.proofs.Chosen.{passed_within}
use Rattle.aos_kernel_tests.proofs.Flags.{keeps_waited}
use Rattle.aos_kernel_tests.proofs.handovers.wait.Goals as goal

pub returns : goal.returns
returns c =
    let before = c.args.links.now in
    let old = c.args.locks.now in
    let a = c.args.owner in
    let e = c.wait-passed.ensures in
    keeps_waited before c.wait-passed.new.links old c.wait-passed.new.self c.args.waits.now _ a c.wait-passed.result c.owner.result c.requires.keeps c.requires.known c.requires.idle e.others
    e.belong e.marks.room e.entrants e.waiters
    (λ b is. passed_within (λ n. slice_index_or c.args.verdicts.of n Fails) (entrants_in before old 0) (waiters_in before old 0 ++ a ∷ []) c.wait-passed.result b e.heir is)
    (sym c.owner.ensures) c.wake.ensures.some c.wake.ensures.none
