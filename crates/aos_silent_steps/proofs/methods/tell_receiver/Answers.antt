use Rattle.std.proofs.Common.{◌≡◌, reverse, take, subst, arith}
use Rattle.std.specs.Prelude.{Some, slice_get}
use Rattle.aos_silent_steps.specs.Acts.{object_in}
use Rattle.aos_silent_steps.proofs.Receivers.{sent_lost, sent_nil, sent_unknown, sent_unheard, sent_one}
use Rattle.aos_silent_steps.proofs.methods.tell_receiver.Goals as goal

pub returns-in-None-clause-told : goal.returns-in-None-clause-told
returns-in-None-clause-told c p is = sent_lost c.args.shapes.now c.args.types.now c.args.heap.now c.args.slot p (reverse c.args.stack.now) c.args.count c.in-None.ensures

pub returns-in-Some-eq0-clause-told : goal.returns-in-Some-eq0-clause-told
returns-in-Some-eq0-clause-told c p is =
    let s = reverse c.args.stack.now in
    let zero : c.in-Some-eq0.field-0 ≡ 0 = omega (arith, c.in-Some-eq0.field-0-test) in
    sent_nil c.args.shapes.now c.args.types.now c.args.heap.now c.args.slot p s c.args.count
    (subst (λ n. Some n ≡ object_in (slice_get s c.args.count)) zero c.in-Some-eq0.ensures)

pub returns-in-None-get-clause-told : goal.returns-in-None-get-clause-told
returns-in-None-get-clause-told c p is =
    sent_unknown c.args.shapes.now c.args.types.now c.args.heap.now c.args.slot p (reverse c.args.stack.now) c.args.count c.in-Some.number (omega (arith, c.in-Some.number-test)) c.in-Some.ensures c.in-None-get.ensures

pub returns-in-None-method_for-clause-told : goal.returns-in-None-method_for-clause-told
returns-in-None-method_for-clause-told c p is =
    let s = reverse c.args.stack.now in
    sent_unheard c.args.shapes.now c.args.types.now c.args.heap.now c.args.slot p s c.args.count c.in-Some.number (omega (arith, c.in-Some.number-test)) c.in-Some.ensures c.in-Some-get.object.now c.in-Some-get.ensures
    (c.in-None-method_for.ensures p c.in-Some.number (reverse (take c.args.count s)) is)

pub returns-in-Some-method_for-clause-told : goal.returns-in-Some-method_for-clause-told
returns-in-Some-method_for-clause-told c p is =
    let s = reverse c.args.stack.now in
    sent_one c.args.shapes.now c.args.types.now c.args.heap.now c.args.slot p s c.args.count c.in-Some.number (omega (arith, c.in-Some.number-test)) c.in-Some.ensures c.in-Some-get.object.now c.in-Some-method_for.method
    c.in-Some-get.ensures (c.in-Some-method_for.ensures p c.in-Some.number (reverse (take c.args.count s)) is)
