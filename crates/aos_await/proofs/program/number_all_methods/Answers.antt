-- One more has its numbers, and at the end all have.
use Rattle.std.proofs.Common.{◌+◌, ◌<◌, ◌∙◌, ◌≤◌, ap, arith, length, map, slice_index_or, slice_set, sum_by}
use Rattle.std.specs.Vec.{with_items}
use Rattle.aos_typed.specs.Seen.{seen_object, seen_method}
use Rattle.aos_typed.specs.Conditions.{awaits, awaits_in_methods, methods_renumbered}
use Rattle.aos_await.specs.Counts.{with_methods}
use Rattle.aos_await.proofs.Held.{refilled}
use Rattle.aos_await.proofs.Each.{left, one_more, one_less, all_done, none_left}
use Rattle.aos_await.proofs.program.number_all_methods.Goals as goal

pub loop-place-preserved : goal.loop-place-preserved
loop-place-preserved c =
    let l = c.loop-place in
    let d = c.index-objects-place.result in
    let call = c.number_methods in
    let told = c.in_ok-number_methods.ensures in
    let old = slice_index_or l.objects l.place d in
    let new = (record old { methods = with_items old.methods call.new.methods }) in
    let below : l.place < length l.objects = omega (arith, c.loop-place-test.true, l.auto.objects) in
    let less = one_less seen_object awaits_in_methods with_methods l.place l.objects d new below in
    let next = told.next ∙ ap (λ ms. l.next + sum_by (λ m. awaits m.procedure.body) (map seen_method ms)) c.as_mut_slice.ensures.value in
    record {
      numbers =
          ap (λ n. left awaits_in_methods with_methods (l.place + 1) n (map seen_object (slice_set l.objects l.place new))) next
          ∙ one_more seen_object awaits_in_methods with_methods l.place l.next l.objects d new below (ap (λ ms. record (seen_object old) { methods = ms }) (ap (map seen_method) (refilled old.methods c.as_mut_slice.result.now call.new.methods c.as_mut_slice.ensures.value call.auto.methods) ∙ told.numbers ∙ ap (λ ms. methods_renumbered l.next (map seen_method ms)) c.as_mut_slice.ensures.value))
          ∙ l.invariant.numbers;
      next = omega (arith, next, less, l.invariant.next);
    }

pub returns-clause-numbers : goal.returns-clause-numbers
returns-clause-numbers c =
    let l = c.loop-place in
    let most : length l.objects ≤ l.place = omega (arith, c.loop-place-test.false, l.auto.objects) in
    all_done seen_object awaits_in_methods with_methods l.place l.next c.args.next.now l.objects c.args.objects.now most l.invariant.numbers

pub returns-clause-next : goal.returns-clause-next
returns-clause-next c =
    let l = c.loop-place in
    let most : length l.objects ≤ l.place = omega (arith, c.loop-place-test.false, l.auto.objects) in
    none_left seen_object awaits_in_methods with_methods l.place l.next c.args.next.now l.objects c.args.objects.now most l.invariant.next
