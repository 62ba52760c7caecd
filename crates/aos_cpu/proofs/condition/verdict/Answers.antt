use Rattle.std.proofs.Common.{◌≡◌, ◌<◌, ◌≤◌, length, reverse, sym, ap, ◌∙◌, arith}
use Rattle.std.specs.Prelude.{vec_capacity}
use Rattle.aos_store.specs.Store.{memory_in}
use Rattle.aos_silent_steps.specs.Conditions.{need}
use Rattle.aos_cpu.proofs.Verdicts.{has_top, no_verdict, whole_top, begins_in_room, whole_verdict, as_before, room_back, room_kept}
use Rattle.aos_cpu.proofs.condition.verdict.Goals as goal

pub returns-then-count-eq0-clause-verdict : goal.returns-then-count-eq0-clause-verdict
returns-then-count-eq0-clause-verdict c =
    let none : length c.args.frames.now.list.items ≡ 0 = omega arith in
    sym (no_verdict c.args.image.now (memory_in c.args.store.now) c.args.frames.now.list.items none c.args.condition)

pub evaluate-verdict-requires-clause-top : goal.evaluate-verdict-requires-clause-top
evaluate-verdict-requires-clause-top c =
    let old = c.args.frames.now.list.items in
    let some : 0 < length old = omega arith in
    let t = has_top old some in
    whole_top c.condition_of-code.result.now t.0 c.args.stack.now c.exchange-at.new.operands c.exchange-at.result old c.exchange-at.new.frames.list.items t.1 (c.exchange-at.ensures.exchanged t.0 t.1) some c.requires.few

pub evaluate-verdict-requires-clause-room : goal.evaluate-verdict-requires-clause-room
evaluate-verdict-requires-clause-room c =
    let old = c.args.frames.now.list.items in
    let some : 0 < length old = omega arith in
    let t = has_top old some in
    let room : need c.condition_of-code.result.now ≤ vec_capacity c.args.stack.now = (let r = c.requires.room in let e = ap need c.condition_of-code.ensures.code in omega (arith, r, e)) in
    begins_in_room c.condition_of-code.result.now t.0 c.args.stack.now c.exchange-at.new.operands c.exchange-at.result old c.exchange-at.new.frames.list.items t.1 (c.exchange-at.ensures.exchanged t.0 t.1) c.requires.empty room

pub returns-clause-verdict : goal.returns-clause-verdict
returns-clause-verdict c =
    let old = c.args.frames.now.list.items in
    let some : 0 < length old = omega arith in
    let t = has_top old some in
    c.evaluate-verdict.ensures.verdict
    ∙ whole_verdict c.condition_of-code.result.now t.0 c.args.stack.now c.exchange-at.new.operands c.exchange-at.result old c.exchange-at.new.frames.list.items t.1 (c.exchange-at.ensures.exchanged t.0 t.1)
    c.args.image.now (memory_in c.args.store.now) c.args.condition c.requires.empty c.condition_of-code.ensures.code

pub returns-clause-frames : goal.returns-clause-frames
returns-clause-frames c =
    let old = c.args.frames.now.list.items in
    let some : 0 < length old = omega arith in
    let t = has_top old some in
    let same = as_before t.0 c.args.stack.now c.exchange-at.new.operands c.exchange.new.operands c.exchange-at.result c.exchange.result old c.exchange-at.new.frames.list.items c.evaluate-verdict.new.frames.list.items c.exchange.new.frames.list.items t.1
    (c.exchange-at.ensures.exchanged t.0 t.1) c.evaluate-verdict.ensures.moved c.exchange.ensures.exchanged in
    let follow = c.exchange.ensures.following ∙ c.evaluate-verdict.ensures.following ∙ c.exchange-at.ensures.following in
    λ i. record { following = reverse (follow i).items; frames = same i }

pub returns-clause-room : goal.returns-clause-room
returns-clause-room c =
    let old = c.args.frames.now.list.items in
    let some : 0 < length old = omega arith in
    let t = has_top old some in
    let le = room_back t.0 c.args.stack.now c.exchange-at.new.operands c.exchange.new.operands c.exchange-at.result c.exchange.result old c.exchange-at.new.frames.list.items c.evaluate-verdict.new.frames.list.items c.exchange.new.frames.list.items t.1
    (c.exchange-at.ensures.exchanged t.0 t.1) c.evaluate-verdict.ensures.moved c.exchange.ensures.exchanged in
    omega (arith, le, c.clear.ensures.capacity)

pub returns-clause-keeps : goal.returns-clause-keeps
returns-clause-keeps c =
    let old = c.args.frames.now.list.items in
    let some : 0 < length old = omega arith in
    let t = has_top old some in
    room_kept t.0 c.args.stack.now c.exchange-at.new.operands c.exchange.new.operands c.exchange-at.result c.exchange.result old c.exchange-at.new.frames.list.items c.evaluate-verdict.new.frames.list.items c.exchange.new.frames.list.items t.1
    (c.exchange-at.ensures.exchanged t.0 t.1) c.evaluate-verdict.ensures.moved c.exchange.ensures.exchanged
