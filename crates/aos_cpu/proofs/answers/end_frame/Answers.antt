use Rattle.std.proofs.Common.{◌≡◌, length, arith}
use Rattle.std.specs.Prelude.{option_to_list}
use Rattle.aos_store.proofs.Rooms.{roomy_front, roomy_back}
use Rattle.aos_cpu.proofs.answers.end_frame.Goals as goal

pub returns-in_default-clause-room : goal.returns-in_default-clause-room
returns-in_default-clause-room c depths keeps roomy =
    roomy_front depths keeps c.args.frames.now.list.items c.pop.new.self.items (option_to_list c.pop.result) c.pop.ensures.items roomy

pub returns-in-None-clause-room : goal.returns-in-None-clause-room
returns-in-None-clause-room c depths keeps roomy =
    roomy_front depths keeps c.args.frames.now.list.items c.pop.new.self.items (option_to_list c.pop.result) c.pop.ensures.items roomy

pub returns-in-Ok-clause-room : goal.returns-in-Ok-clause-room
returns-in-Ok-clause-room c depths keeps roomy =
    c.give_top.ensures.room depths keeps (roomy_front depths keeps c.args.frames.now.list.items c.pop.new.self.items (option_to_list c.pop.result) c.pop.ensures.items roomy)

pub returns-in-Err-clause-room : goal.returns-in-Err-clause-room
returns-in-Err-clause-room c depths keeps roomy =
    let old = c.args.frames.now.list.items in
    let front = c.pop.new.self in
    let mid = c.give_top.new.frames.list in
    let same : length mid.items ≡ length front.items = omega (arith, c.give_top.ensures.len, mid.ok.0, front.ok.0) in
    roomy_back depths keeps old front.items mid.items c.push_reserved.new.self.items c.in-Some.frame c.in-Some.ensures.items c.push_reserved.ensures.items same
    (c.give_top.ensures.room depths keeps (roomy_front depths keeps old front.items (option_to_list c.pop.result) c.pop.ensures.items roomy)) roomy
