use Rattle.std.proofs.Common.{ap}
use Rattle.std.specs.Prelude.{option_to_list}
use Rattle.aos_code.specs.Machine.{Frame}
use Rattle.aos_store.proofs.Rooms.{roomy_front, roomy_last}
use Rattle.aos_cpu.proofs.answers.give_top.Goals as goal

pub returns-in_default-clause-room : goal.returns-in_default-clause-room
returns-in_default-clause-room c depths keeps roomy =
    roomy_front depths keeps c.args.frames.now.list.items c.pop.new.self.items (option_to_list c.pop.result) c.pop.ensures.items roomy

pub returns-in-Ok-clause-room : goal.returns-in-Ok-clause-room
returns-in-Ok-clause-room c depths keeps roomy =
    let given = c.in-Ok.ensures in
    roomy_last depths keeps c.args.frames.now.list.items c.pop.new.self.items c.push_reserved.new.self.items c.in-Some.frame c.give.new.frame c.in-Some.ensures.items c.push_reserved.ensures.items
    (record { procedure = ap (λ (x : Frame). x.procedure) given.ok; operands = given.room; kept = given.keeps }) roomy

pub returns-in-Err-clause-room : goal.returns-in-Err-clause-room
returns-in-Err-clause-room c depths keeps roomy =
    let given = c.in-Err.ensures in
    roomy_last depths keeps c.args.frames.now.list.items c.pop.new.self.items c.push_reserved-in-Err.new.self.items c.in-Some.frame c.give.new.frame c.in-Some.ensures.items c.push_reserved-in-Err.ensures.items
    (record { procedure = ap (λ (x : Frame). x.procedure) given.err; operands = given.room; kept = given.keeps }) roomy
