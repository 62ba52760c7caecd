-- One more has its numbers, and at the end all have.
use Rattle.std.proofs.Common.{◌+◌, ◌<◌, ◌∙◌, ◌≤◌, ap, arith, length, map, slice_index_or, slice_set}
use Rattle.aos_typed.specs.Seen.{seen_object}
use Rattle.aos_typed.specs.Conditions.{awaits}
use Rattle.aos_await.specs.Counts.{with_object_body}
use Rattle.aos_await.proofs.Each.{left, one_more, one_less, all_done, none_left}
use Rattle.aos_await.proofs.program.number_objects.Goals as goal

pub loop-place-preserved : goal.loop-place-preserved
loop-place-preserved c =
    let l = c.loop-place in
    let d = c.index-objects-place.result in
    let call = c.number_procedure in
    let told = c.in_ok-number_procedure.ensures in
    let old = slice_index_or l.objects l.place d in
    let new = (record old { body = call.new.procedure }) in
    let below : l.place < length l.objects = omega (arith, c.loop-place-test.true, l.auto.objects) in
    let less = one_less seen_object (λ o. awaits o.body.body) with_object_body l.place l.objects d new below in
    let next = told.next in
    record {
      numbers =
          ap (λ n. left (λ o. awaits o.body.body) with_object_body (l.place + 1) n (map seen_object (slice_set l.objects l.place new))) next
          ∙ one_more seen_object (λ o. awaits o.body.body) with_object_body l.place l.next l.objects d new below (ap (λ q. record (seen_object old) { body = q }) told.numbers)
          ∙ l.invariant.numbers;
      next = omega (arith, next, less, l.invariant.next);
    }

pub returns-clause-numbers : goal.returns-clause-numbers
returns-clause-numbers c =
    let l = c.loop-place in
    let most : length l.objects ≤ l.place = omega (arith, c.loop-place-test.false, l.auto.objects) in
    all_done seen_object (λ o. awaits o.body.body) with_object_body l.place l.next c.args.next.now l.objects c.args.objects.now most l.invariant.numbers

pub returns-clause-next : goal.returns-clause-next
returns-clause-next c =
    let l = c.loop-place in
    let most : length l.objects ≤ l.place = omega (arith, c.loop-place-test.false, l.auto.objects) in
    none_left seen_object (λ o. awaits o.body.body) with_object_body l.place l.next c.args.next.now l.objects c.args.objects.now most l.invariant.next
