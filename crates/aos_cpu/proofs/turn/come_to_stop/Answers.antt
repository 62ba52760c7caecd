use Rattle.std.proofs.Common.{◌≡◌, length, ap, arith}
use Rattle.std.specs.Prelude.{IsOk}
use Rattle.aos_silent_steps.specs.Known.{known}
use Rattle.aos_silent_steps.specs.Silent.{Seen}
use Rattle.aos_cpu.proofs.Turns.{last_read, advanced, stands_there, itself}
use Rattle.aos_cpu.proofs.Fitting.{same_stay, opened_stay, silent_stay}
use Rattle.aos_cpu.proofs.turn.come_to_stop.Goals as goal

pub returns-in_err-stop-clause-alike : goal.returns-in_err-stop-clause-alike
returns-in_err-stop-clause-alike c =
    let frames = c.open.new.frames.list in
    let all : frames.len ≡ length frames.items = omega arith in
    let here = last_read frames.items frames.len c.in-Some.frame.now all c.in-Some.ensures.item.3.0 c.in-Some.ensures.item.1 in
    advanced c.args.image.now (known c.args.heap.now) c.args.frames.now c.open.new.frames frames.len c.saturating_sub-here.result c.in-Some.frame.now c.silent_from.new.frame c.in_ok-open.ensures.ok all (omega arith) here c.silent_from.ensures.alike

pub returns-clause-stop : goal.returns-clause-stop
returns-clause-stop c =
    let frames = c.open.new.frames.list in
    let all : frames.len ≡ length frames.items = omega arith in
    let here = last_read frames.items frames.len c.in-Some.frame.now all c.in-Some.ensures.item.3.0 c.in-Some.ensures.item.1 in
    stands_there c.args.image.now (known c.args.heap.now) c.in_ok-stop.stop frames.items frames.len c.saturating_sub-here.result c.in-Some.frame.now c.silent_from.new.frame all (omega arith) here c.in_ok-stop.ensures.stop c.in_ok-stop.ensures.place (c.silent_from.ensures.alike (known c.args.heap.now) (itself (known c.args.heap.now)))

pub returns-clause-alike : goal.returns-clause-alike
returns-clause-alike c =
    let frames = c.open.new.frames.list in
    let all : frames.len ≡ length frames.items = omega arith in
    let here = last_read frames.items frames.len c.in-Some.frame.now all c.in-Some.ensures.item.3.0 c.in-Some.ensures.item.1 in
    advanced c.args.image.now (known c.args.heap.now) c.args.frames.now c.open.new.frames frames.len c.saturating_sub-here.result c.in-Some.frame.now c.silent_from.new.frame c.in_ok-open.ensures.ok all (omega arith) here c.silent_from.ensures.alike

pub returns-in_err-open-clause-fit : goal.returns-in_err-open-clause-fit
returns-in_err-open-clause-fit c = same_stay c.args.image.now c.args.frames.now c.open.new.frames c.in_err-open.ensures.err c.open.ensures.room

pub returns-in_default-clause-fit : goal.returns-in_default-clause-fit
returns-in_default-clause-fit c = opened_stay c.args.image.now c.args.frames.now c.open.new.frames c.in_ok-open.ensures.ok c.open.ensures.room

pub returns-in_err-stop-clause-fit : goal.returns-in_err-stop-clause-fit
returns-in_err-stop-clause-fit c whole fit =
    let image = c.args.image.now in
    let mid = c.open.new.frames in
    let frames = mid.list in
    let f = c.in-Some.frame.now in
    let g = c.silent_from.new.frame in
    let all : frames.len ≡ length frames.items = omega arith in
    let here = last_read frames.items frames.len f all c.in-Some.ensures.item.3.0 c.in-Some.ensures.item.1 in
    let made = known c.args.heap.now in
    silent_stay (IsOk c.silent_from.result) image mid frames.len c.saturating_sub-here.result f g all (omega arith) here (ap (λ (x : Seen). x.procedure) (c.silent_from.ensures.alike made (itself made)))
    c.silent_from.ensures.room whole (opened_stay image c.args.frames.now mid c.in_ok-open.ensures.ok c.open.ensures.room whole fit)

pub returns-clause-fit : goal.returns-clause-fit
returns-clause-fit c whole fit =
    let image = c.args.image.now in
    let mid = c.open.new.frames in
    let frames = mid.list in
    let f = c.in-Some.frame.now in
    let g = c.silent_from.new.frame in
    let all : frames.len ≡ length frames.items = omega arith in
    let here = last_read frames.items frames.len f all c.in-Some.ensures.item.3.0 c.in-Some.ensures.item.1 in
    let made = known c.args.heap.now in
    silent_stay (IsOk c.silent_from.result) image mid frames.len c.saturating_sub-here.result f g all (omega arith) here (ap (λ (x : Seen). x.procedure) (c.silent_from.ensures.alike made (itself made)))
    c.silent_from.ensures.room whole (opened_stay image c.args.frames.now mid c.in_ok-open.ensures.ok c.open.ensures.room whole fit)
