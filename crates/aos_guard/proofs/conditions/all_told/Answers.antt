use Rattle.std.proofs.Common.{◌++◌, ap, ◌∙◌, subst, arith}
use Rattle.aos_typed.specs.Seen.{seen_program}
use Rattle.aos_guard.specs.Awaits.{AreTold}
use Rattle.aos_guard.proofs.Tellings.{found_of, all_next, all_last}
use Rattle.aos_guard.proofs.conditions.all_told.Goals as goal

pub loop-routine-preserved : goal.loop-routine-preserved
loop-routine-preserved c =
    let p = seen_program c.args.dispatch.now in
    let told = c.loop-routine.all.items in
    let here = c.in_ok-here.here.items in
    let are = subst (λ r. AreTold p (found_of r) here) c.routine-item.is c.in_ok-here.ensures in
    let put = c.in_ok-put_all.ensures ∙ ap (λ l. told ++ l) c.deref.ensures.value in
    all_next p c.routines-routines.result.now c.loop-routine.routine-index c.routine-item.result told here c.put_all.new.all.items
    c.loop-routine-test.true are put c.loop-routine.invariant

pub returns : goal.returns
returns c =
    all_last (seen_program c.args.dispatch.now) c.routines-routines.result.now c.loop-routine.routine-index c.loop-routine.all.items
    (omega (arith, c.loop-routine-test.false)) c.loop-routine.invariant
