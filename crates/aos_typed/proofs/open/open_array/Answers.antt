use Rattle.std.proofs.Common.{◌<◌, length, sym, ◌∙◌, arith}
use Rattle.aos_typed.proofs.Opens.{open_step, behind_step}
use Rattle.aos_typed.proofs.open.open_array.Goals as goal

pub loop-step-preserved : goal.loop-step-preserved
loop-step-preserved c =
    let rows = c.args.types.now in
    let e = sym c.in-Some.ensures in
    let i = c.loop-step.invariant in
    let n = c.len-step-end.ensures in
    let l : c.loop-step._step < length rows = omega (arith, n, c.loop-step-test.true) in
    let o = open_step rows c.loop-step.open.element c.in-Some.element e (length rows) c.loop-step._step l in
    let b = behind_step rows c.loop-step.open.element c.in-Some.element e (length rows) c.loop-step._step l in
    record { few = omega (arith, i); dimensions = omega (arith, i, o); element = sym b ∙ i.element }
