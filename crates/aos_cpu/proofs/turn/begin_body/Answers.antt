use Rattle.std.proofs.Common.{◌≤◌, List, ap, ◌∙◌, arith}
use Rattle.aos_code.specs.declared.image.ProcShape.{ProcShape}
use Rattle.aos_code.specs.Numbered.{numbered}
use Rattle.aos_code.specs.Silent.{keeps_in}
use Rattle.aos_sound.specs.FitFrames.{depth_of}
use Rattle.aos_silent_steps.specs.Room.{keeps_for}
use Rattle.aos_cpu.proofs.turn.begin_body.Goals as goal

pub returns-in-Ok-clause-room : goal.returns-in-Ok-clause-room
returns-in-Ok-clause-room c =
    let image = c.args.image.now in
    let p = c.args.procedure in
    let kept = c.keeps_of-keeps.ensures ∙ ap (λ (shapes : List ProcShape). keeps_in (numbered shapes p)) c.deref.ensures.value in
    let deep : depth_of image p ≤ c.depth_of-depth.result = omega (arith, c.depth_of-depth.ensures) in
    let many : keeps_for image p ≤ c.keeps_of-keeps.result = omega (arith, kept) in
    c.grow.ensures.room (depth_of image) (keeps_for image) deep many

pub returns-in-Err-clause-room : goal.returns-in-Err-clause-room
returns-in-Err-clause-room c =
    let image = c.args.image.now in
    let p = c.args.procedure in
    let kept = c.keeps_of-keeps.ensures ∙ ap (λ (shapes : List ProcShape). keeps_in (numbered shapes p)) c.deref.ensures.value in
    let deep : depth_of image p ≤ c.depth_of-depth.result = omega (arith, c.depth_of-depth.ensures) in
    let many : keeps_for image p ≤ c.keeps_of-keeps.result = omega (arith, kept) in
    c.grow.ensures.room (depth_of image) (keeps_for image) deep many
