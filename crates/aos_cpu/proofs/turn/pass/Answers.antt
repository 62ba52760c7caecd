use Rattle.std.proofs.Common.{◌≡◌, length, ap, arith}
use Rattle.aos_code.specs.Machine.{Frame}
use Rattle.aos_store.specs.declared.frames.Frame.{Frame as KeptFrame}
use Rattle.aos_cpu.proofs.Turns.{last_read, passed}
use Rattle.aos_cpu.proofs.Fitting.{passed_stay}
use Rattle.aos_cpu.proofs.turn.pass.Goals as goal

pub returns-in-Some-clause-past : goal.returns-in-Some-clause-past
returns-in-Some-clause-past c image made fs is before stands h =
    let frames = c.args.frames.now.list in
    let f = c.in-Some.frame.now in
    let all : frames.len ≡ length frames.items = omega arith in
    let here = last_read frames.items frames.len f all c.in-Some.ensures.item.3.0 c.in-Some.ensures.item.1 in
    let g : KeptFrame = record c.close_work.new.frame { next = c.saturating_add-frame.result } in
    passed image made c.args.left fs c.args.frames.now frames.len f g c.saturating_add-frame.result is all here before stands h
    (λ small. let same : c.close_work.new.frame.next ≡ f.next = ap (λ (x : Frame). x.next) c.close_work.ensures.work in omega (arith, same))
    (ap (λ (x : Frame). let y : Frame = record x { next = c.saturating_add-frame.result } in y) c.close_work.ensures.work)

pub returns-in-Some-clause-fit : goal.returns-in-Some-clause-fit
returns-in-Some-clause-fit c image passed before =
    let frames = c.args.frames.now.list in
    let f = c.in-Some.frame.now in
    let all : frames.len ≡ length frames.items = omega arith in
    let here = last_read frames.items frames.len f all c.in-Some.ensures.item.3.0 c.in-Some.ensures.item.1 in
    let g : KeptFrame = record c.close_work.new.frame { next = c.saturating_add-frame.result } in
    let closed = c.close_work.ensures in
    passed_stay image c.args.left c.args.frames.now frames.len f g c.saturating_add-frame.result passed all here before
    (λ small. let same : c.close_work.new.frame.next ≡ f.next = ap (λ (x : Frame). x.next) closed.work in omega (arith, same))
    (ap (λ (x : Frame). let y : Frame = record x { next = c.saturating_add-frame.result } in y) closed.work)
    (record { procedure = closed.room.procedure; operands = closed.room.operands; kept = closed.room.kept })
