use Rattle.std.proofs.Common.{sym, subst}
use Rattle.std.specs.Prelude.{Bool, slice_set}
use Rattle.aos_kernel_tests.specs.Waits.{Keeps}
use Rattle.aos_kernel_tests.proofs.Flags.{keeps_entered}
use Rattle.aos_kernel_tests.proofs.handovers.enter.Goals as goal

pub returns : goal.returns
returns c =
    subst (λ (b : Bool). Keeps c.enter-entered.new.links c.enter-entered.new.self (slice_set c.args.waits.now c.args.activity b)) (sym c.does_wait.ensures)
    (keeps_entered c.args.links.now c.enter-entered.new.links c.args.locks.now c.enter-entered.new.self c.args.waits.now c.args.activity c.enter-entered.result
    c.requires.keeps c.requires.known c.requires.idle c.enter-entered.ensures.others c.enter-entered.ensures.belong c.enter-entered.ensures.marks.room
    c.enter-entered.ensures.entrants c.enter-entered.ensures.waiters)
