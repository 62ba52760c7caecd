use Rattle.std.proofs.Common.{◌≡◌, ◌≤◌, ◌-◌, replicate, sym, ◌∙◌, ap, subst, arith}
use Rattle.aos_base.specs.Machine.{Step}
use Rattle.aos_kernel.specs.Run.{state_of}
use Rattle.aos_kernel.proofs.TablesShown.{on_err}
use Rattle.aos_replay.specs.Continues.{Continues}
use Rattle.aos_replay.proofs.Going.{goes_nowhere, goes_more, goes_steps_idly, part_of_steps}
use Rattle.aos_replay.proofs.Telling.{tells_nothing, tells_then}
use Rattle.aos_replay.proofs.entry.steps.Goals as goal

pub loop-left-init : goal.loop-left-init
loop-left-init g c =
    let none : 0 ≡ c.args.count - c.args.count = omega arith in
    let old = c.args.kernel.now in
    record { few = omega arith; made = subst (λ n. Continues (replicate n (Step c.args.worker)) old old) none (goes_nowhere old); told = tells_nothing old _ }

pub loop-left-preserved : goal.loop-left-preserved
loop-left-preserved g c =
    let e = c.in_ok-made.ensures in
    let i = c.loop-left.invariant in
    record {
      few = (let f = i.few in omega (arith, f));
      made = goes_more c.args.worker c.loop-left.left c.in_ok-made.made c.args.count c.args.kernel.now c.loop-left.kernel c.some_steps.new.kernel i.few e.most i.made e.done;
      told = tells_then c.args.kernel.now c.loop-left.kernel c.some_steps.new.kernel _ _ _ i.told c.some_steps.ensures.told;
    }

pub returns-then-made-eq0-clause-done : goal.returns-then-made-eq0-clause-done
returns-then-made-eq0-clause-done g c =
    let i = c.loop-left.invariant in
    let stays = c.in_ok-made.ensures.idle c.if-made-eq0.true in
    let less : c.args.count - c.loop-left.left ≤ c.args.count = omega arith in
    goes_steps_idly c.args.worker (c.args.count - c.loop-left.left) c.args.count c.args.kernel.now c.loop-left.kernel c.some_steps.new.kernel less i.made stays.0 (ap state_of stays.0 ∙ sym stays.1)

pub returns-then-made-eq0-clause-told : goal.returns-then-made-eq0-clause-told
returns-then-made-eq0-clause-told g c =
    tells_then c.args.kernel.now c.loop-left.kernel c.some_steps.new.kernel _ _ _ c.loop-left.invariant.told c.some_steps.ensures.told

pub returns-in_err-made-clause-part : goal.returns-in_err-made-clause-part
returns-in_err-made-clause-part g c =
    let less : c.args.count - c.loop-left.left ≤ c.args.count = omega arith in
    on_err c.from_residual.result
    (part_of_steps c.args.worker (c.args.count - c.loop-left.left) c.args.count c.args.kernel.now c.loop-left.kernel c.some_steps.new.kernel less c.loop-left.invariant.made c.in_err-made.ensures.err)

pub returns-in_err-made-clause-told : goal.returns-in_err-made-clause-told
returns-in_err-made-clause-told g c =
    tells_then c.args.kernel.now c.loop-left.kernel c.some_steps.new.kernel _ _ _ c.loop-left.invariant.told c.some_steps.ensures.told

pub returns-clause-done : goal.returns-clause-done
returns-clause-done g c =
    let all : c.args.count - c.loop-left.left ≡ c.args.count = omega arith in
    subst (λ n. Continues (replicate n (Step c.args.worker)) c.args.kernel.now c.loop-left.kernel) all c.loop-left.invariant.made

pub returns-clause-told : goal.returns-clause-told
returns-clause-told g c = c.loop-left.invariant.told
