use Rattle.std.proofs.Common.{◌≡◌, length, arith}
use Rattle.aos_silent_steps.specs.Known.{known}
use Rattle.aos_cpu.proofs.Turns.{last_read}
use Rattle.aos_cpu.proofs.Verdicts.{no_top, top_at, stopped_as}
use Rattle.aos_cpu.proofs.condition.come_to.Goals as goal

pub returns-in-None-clause-stopped : goal.returns-in-None-clause-stopped
returns-in-None-clause-stopped c f top =
    let none = c.in-None.ensures.item.3 in
    absurd (no_top c.args.frames.now.list.items f (omega (arith, none)) top)

pub silent_condition-requires-clause-few : goal.silent_condition-requires-clause-few
silent_condition-requires-clause-few c =
    let frames = c.args.frames.now.list in
    let all : frames.len ≡ length frames.items = omega arith in
    omega (arith, all, c.requires.top.few, c.requires.top.some)

pub silent_condition-requires-clause-room : goal.silent_condition-requires-clause-room
silent_condition-requires-clause-room c =
    let frames = c.args.frames.now.list in
    let all : frames.len ≡ length frames.items = omega arith in
    let here = last_read frames.items frames.len c.in-Some.frame.now all c.in-Some.ensures.item.3.0 c.in-Some.ensures.item.1 in
    c.requires.room c.in-Some.frame.now (top_at frames.items frames.len c.in-Some.frame.now all here)

pub returns-in-Some-clause-stopped : goal.returns-in-Some-clause-stopped
returns-in-Some-clause-stopped c f top =
    let frames = c.args.frames.now.list in
    let all : frames.len ≡ length frames.items = omega arith in
    let here = last_read frames.items frames.len c.in-Some.frame.now all c.in-Some.ensures.item.3.0 c.in-Some.ensures.item.1 in
    let e = c.silent_condition.ensures in
    stopped_as c.args.image.now (known c.args.heap.now) c.args.code.now frames.items frames.len c.saturating_sub-here.result c.in-Some.frame.now f c.silent_condition.new.frame c.silent_condition.result all (omega arith) here top e.stop e.place e.moves e.asks e.more
