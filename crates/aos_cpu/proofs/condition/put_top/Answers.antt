use Rattle.std.proofs.Common.{◌≡◌, ◌+◌, length, refl, ap, arith}
use Rattle.aos_code.specs.Machine.{Frame}
use Rattle.aos_store.specs.declared.frames.Frame.{Frame as KeptFrame}
use Rattle.aos_store.specs.Store.{frame_in}
use Rattle.aos_store.specs.Room.{HasMoreRoom}
use Rattle.aos_cpu.proofs.Turns.{last_read}
use Rattle.aos_cpu.proofs.Verdicts.{top_at, gone_on_as}
use Rattle.aos_cpu.proofs.condition.put_top.Goals as goal

pub replace-requires : goal.replace-requires
replace-requires c =
    let frames = c.args.frames.now.list in
    let all : frames.len ≡ length frames.items = omega arith in
    let here = last_read frames.items frames.len c.in-Some.frame.now all c.in-Some.ensures.item.3.0 c.in-Some.ensures.item.1 in
    let room = c.requires.room c.in-Some.frame.now (top_at frames.items frames.len c.in-Some.frame.now all here) in
    omega (arith, room)

pub returns-in-Some-clause-put : goal.returns-in-Some-clause-put
returns-in-Some-clause-put c f top =
    let frames = c.args.frames.now.list in
    let all : frames.len ≡ length frames.items = omega arith in
    let here = last_read frames.items frames.len c.in-Some.frame.now all c.in-Some.ensures.item.3.0 c.in-Some.ensures.item.1 in
    let g : KeptFrame = record c.in-Some.frame.now { next = c.args.at + 1; operands = c.replace.new.stack } in
    let more : HasMoreRoom c.in-Some.frame.now g = record { procedure = refl; operands = omega (arith, c.replace.ensures.room); kept = omega arith } in
    gone_on_as frames.items frames.len c.in-Some.frame.now f g c.args.at c.args.taken c.args.cell all here top
    (ap (λ s. let x : Frame = record (frame_in c.in-Some.frame.now) { next = c.args.at + 1; stack = s } in x) c.replace.ensures.operands) more
