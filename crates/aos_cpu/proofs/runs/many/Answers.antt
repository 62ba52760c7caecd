use Rattle.std.proofs.Common.{◌≡◌, ◌-◌, length, refl, arith}
use Rattle.aos_store.specs.Store.{memory_in}
use Rattle.aos_cpu.proofs.Turns.{last_read}
use Rattle.aos_cpu.proofs.InPlace.{kept_ran, kept_fit, no_turns}
use Rattle.aos_cpu.proofs.runs.many.Goals as goal

pub returns-in_default-clause-made : goal.returns-in_default-clause-made
returns-in_default-clause-made c = no_turns c.args.image.now c.args.budget (memory_in c.args.store.now) c.args.frames.now

pub returns-clause-made : goal.returns-clause-made
returns-clause-made c fs h =
    let list = c.args.frames.now.list in
    let all : list.len ≡ length list.items = omega arith in
    let above : c.in-Ok.here ≡ list.len - 1 = omega arith in
    let there = last_read list.items list.len c.in-Some.frame.now all c.in-Some.ensures.item.3.0 c.in-Some.ensures.item.1 in
    kept_ran c.args.frames.now list.len c.in-Ok.here c.in-Some.frame.now c.run_top-made.new.frame all above there _ c.args.image.now c.args.budget c.run_top-made.result.0 c.run_top-made.result.1 _
    (memory_in c.args.store.now) (memory_in c.run_top-made.new.store) fs refl c.run_top-made.ensures.made refl h

pub returns-clause-fit : goal.returns-clause-fit
returns-clause-fit c =
    let list = c.args.frames.now.list in
    let f = c.in-Some.frame.now in
    let all : list.len ≡ length list.items = omega arith in
    let above : c.in-Ok.here ≡ list.len - 1 = omega arith in
    let there = last_read list.items list.len f all c.in-Some.ensures.item.3.0 c.in-Some.ensures.item.1 in
    kept_fit c.args.frames.now list.len c.in-Ok.here f c.run_top-made.new.frame all above there c.args.image.now (c.run_top-made.ensures.made).fits c.run_top-made.ensures.room
