use Rattle.std.proofs.Common.{◌≤◌, List, ◌∙◌, ap, subst, arith}
use Rattle.std.specs.Prelude.{IfOk}
use Rattle.aos_code.specs.declared.image.ProcShape.{ProcShape}
use Rattle.aos_code.specs.Numbered.{numbered}
use Rattle.aos_code.specs.Silent.{keeps_in}
use Rattle.aos_sound.specs.FitFrames.{depth_of}
use Rattle.aos_store.specs.Store.{memory_in}
use Rattle.aos_silent_steps.specs.Room.{keeps_for}
use Rattle.aos_cpu.specs.Calls.{IsCalled}
use Rattle.aos_cpu.proofs.calls.call.Goals as goal

pub returns-in-Some-clause-ok : goal.returns-in-Some-clause-ok
returns-in-Some-clause-ok c out =
    subst (λ shape. IfOk c.call_shape.result (λ did. IsCalled shape c.args.procedure c.args.way c.args.count c.args.at c.args.frames.now c.call_shape.new.frames (memory_in c.args.store.now) did out))
    (c.in-Some.ensures ∙ ap (λ shapes. numbered shapes c.args.procedure) c.deref.ensures.value) (c.call_shape.ensures.ok out)

pub returns-in-Some-clause-room : goal.returns-in-Some-clause-room
returns-in-Some-clause-room c =
    let image = c.args.image.now in
    let p = c.args.procedure in
    let kept = ap keeps_in (c.in-Some.ensures ∙ ap (λ (shapes : List ProcShape). numbered shapes p) c.deref.ensures.value) in
    let deep : depth_of image p ≤ c.depth_of-depth.result = omega (arith, c.depth_of-depth.ensures) in
    let many : keeps_for image p ≤ c.in-Some.shape.now.keeps = omega (arith, kept) in
    c.call_shape.ensures.room (depth_of image) (keeps_for image) deep many
