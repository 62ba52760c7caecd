use Rattle.std.proofs.Common.{◌≡◌, ◌-◌, length, arith}
use Rattle.aos_store.specs.Store.{frame_in, memory_in}
use Rattle.aos_cpu.proofs.Turns.{last_read}
use Rattle.aos_cpu.proofs.InPlace.{kept_fit, kept_tried, tried_fits}
use Rattle.aos_cpu.proofs.in_place.turn_in_place.Goals as goal

pub returns-clause-tried : goal.returns-clause-tried
returns-clause-tried c =
    let old = c.args.frames.now in
    let list = old.list in
    let all : list.len ≡ length list.items = omega arith in
    let above : c.in-Ok.here ≡ list.len - 1 = omega arith in
    let there = last_read list.items list.len c.in-Some.frame.now all c.in-Some.ensures.item.3.0 c.in-Some.ensures.item.1 in
    kept_tried old list.len c.in-Ok.here c.in-Some.frame.now c.turn_top.new.frame all above there c.args.image.now c.turn_top.result (memory_in c.args.store.now) (memory_in c.turn_top.new.store)
    c.turn_top.ensures.tried

pub returns-clause-fit : goal.returns-clause-fit
returns-clause-fit c =
    let old = c.args.frames.now in
    let list = old.list in
    let f = c.in-Some.frame.now in
    let g = c.turn_top.new.frame in
    let all : list.len ≡ length list.items = omega arith in
    let above : c.in-Ok.here ≡ list.len - 1 = omega arith in
    let there = last_read list.items list.len f all c.in-Some.ensures.item.3.0 c.in-Some.ensures.item.1 in
    kept_fit old list.len c.in-Ok.here f g all above there c.args.image.now
    (tried_fits c.args.image.now c.in-Ok.here c.turn_top.result (memory_in c.args.store.now) (memory_in c.turn_top.new.store) (frame_in f) (frame_in g) c.turn_top.ensures.tried) c.turn_top.ensures.room
