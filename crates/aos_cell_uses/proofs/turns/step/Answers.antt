use Rattle.std.proofs.Common.{◌≡◌, subst, sym, false, ◌<◌}
use Rattle.aos_kernel.specs.Run.{among}
use Rattle.aos_cell.proofs.Passes.{starts_one, starts_free, in_range, takes_unlent}
use Rattle.aos_cell_uses.proofs.Passing.{Adds, adds, may_give, step_ends}
use Rattle.aos_cell_uses.proofs.turns.step.Goals as goal

pub worker-w-requires : goal.worker-w-requires
worker-w-requires g c = (starts_one 1 _ c.requires.start).0

pub take-kernel-requires-clause-own : goal.take-kernel-requires-clause-own
take-kernel-requires-clause-own g c = (starts_one 1 _ c.requires.start).1

pub step-stepped-requires-clause-lent : goal.step-stepped-requires-clause-lent
step-stepped-requires-clause-lent g c =
    subst (λ r. among c.worker-w.result r.lent ≡ false) (sym c.deref_mut.ensures.value)
    (takes_unlent _ _ _ _ c.worker-w.ensures (starts_free 1 1 _ c.requires.start) c.take-kernel.ensures.kernel)

pub step-stepped-requires-clause-worker : goal.step-stepped-requires-clause-worker
step-stepped-requires-clause-worker g c = subst (λ r. c.worker-w.result < r.workers) (sym c.deref_mut.ensures.value) (in_range _ _ _ _ c.worker-w.ensures c.take-kernel.ensures.kernel)

pub give-requires-clause-kernel : goal.give-requires-clause-kernel
give-requires-clause-kernel g c =
    let e = c.step-stepped.ensures in
    let made = adds c.worker-w.result _ c.step-stepped.new.self e.same c.step-stepped.result e.log e.err in
    may_give _ _ _ _ _ c.requires.start c.worker-w.ensures c.take-kernel.ensures.kernel (subst (λ r. Adds c.worker-w.result r c.step-stepped.new.self) c.deref_mut.ensures.value made)

pub returns-clause-view : goal.returns-clause-view
returns-clause-view g c =
    let e = c.step-stepped.ensures in
    let made = adds c.worker-w.result _ c.step-stepped.new.self e.same c.step-stepped.result e.log e.err in
    step_ends c.worker-w.result _ _ _ _ _ c.requires.start c.take-kernel.ensures.kernel (subst (λ r. Adds c.worker-w.result r c.step-stepped.new.self) c.deref_mut.ensures.value made) c.give.ensures.view
