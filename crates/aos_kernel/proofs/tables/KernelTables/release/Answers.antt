use Rattle.std.proofs.Common.{sym, subst, refl}
use Rattle.aos_base.specs.Machine.{State}
use Rattle.aos_code.specs.Memory.{Memory}
use Rattle.aos_code.specs.Machine.{Frames}
use Rattle.aos_lock.specs.declared.lock.Passed.{Passed}
use Rattle.aos_kernel.specs.Shows.{Shows, HasHeir}
use Rattle.aos_kernel.proofs.tables.KernelTables.release.Goals as goal

pub returns-in-Free : goal.returns-in-Free
returns-in-Free c earlier st h =
    subst (λ (p : Passed). HasHeir c.args.image.now earlier c.args.activity c.args.lock p c.hand_over.new.self st) c.in-Free.is (c.hand_over.ensures.heir earlier st h)

pub returns-in-Entrant : goal.returns-in-Entrant
returns-in-Entrant c earlier st h =
    let image = c.args.image.now in
    let e = subst (λ (p : Passed). HasHeir image earlier c.args.activity c.args.lock p c.hand_over.new.self st) c.in-Entrant.is (c.hand_over.ensures.heir earlier st h) in
    subst (λ (x : State Memory Frames). Shows image earlier c.go_past.new.self x) (sym e.0) (c.go_past.ensures.past image earlier _ e.1.shows refl e.1.out e.1.at.0 e.1.at.1)

pub returns-in-Waiter : goal.returns-in-Waiter
returns-in-Waiter c earlier st h =
    let image = c.args.image.now in
    let e = subst (λ (p : Passed). HasHeir image earlier c.args.activity c.args.lock p c.hand_over.new.self st) c.in-Waiter.is (c.hand_over.ensures.heir earlier st h) in
    subst (λ (x : State Memory Frames). Shows image earlier c.wake_waiter.new.self x) (sym e.1) (c.wake_waiter.ensures earlier _ e.0 e.2.shows e.2.at e.3 e.2.out)
