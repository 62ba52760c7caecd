-- One more has its numbers, and at the end all have.
use Rattle.std.proofs.Common.{◌+◌, ◌<◌, ◌∙◌, ◌≤◌, ap, arith, length, map, slice_index_or, slice_set, sym}
use Rattle.aos_typed.specs.Seen.{seen_method}
use Rattle.aos_typed.specs.Conditions.{awaits}
use Rattle.aos_await.proofs.Each.{left, one_more, one_less, all_done, none_left}
use Rattle.aos_await.proofs.Passes.{method_renumbered, methods_numbered}
use Rattle.aos_await.proofs.program.number_methods.Goals as goal

pub loop-place-preserved : goal.loop-place-preserved
loop-place-preserved c =
    let l = c.loop-place in
    let d = c.index-methods-place.result in
    let call = c.number_procedure in
    let told = c.in_ok-number_procedure.ensures in
    let old = slice_index_or l.methods l.place d in
    let new = (record old { procedure = call.new.procedure }) in
    let below : l.place < length l.methods = omega (arith, c.loop-place-test.true, l.auto.methods) in
    let less = one_less seen_method (λ m. awaits m.procedure.body) method_renumbered l.place l.methods d new below in
    let next = told.next in
    record {
      numbers =
          ap (λ n. left (λ m. awaits m.procedure.body) method_renumbered (l.place + 1) n (map seen_method (slice_set l.methods l.place new))) next
          ∙ one_more seen_method (λ m. awaits m.procedure.body) method_renumbered l.place l.next l.methods d new below (ap (λ q. record (seen_method old) { procedure = q }) told.numbers)
          ∙ l.invariant.numbers;
      next = omega (arith, next, less, l.invariant.next);
    }

pub returns-clause-numbers : goal.returns-clause-numbers
returns-clause-numbers c =
    let l = c.loop-place in
    let most : length l.methods ≤ l.place = omega (arith, c.loop-place-test.false, l.auto.methods) in
    all_done seen_method (λ m. awaits m.procedure.body) method_renumbered l.place l.next c.args.next.now l.methods c.args.methods.now most l.invariant.numbers
    ∙ sym (methods_numbered c.args.next.now (map seen_method c.args.methods.now))

pub returns-clause-next : goal.returns-clause-next
returns-clause-next c =
    let l = c.loop-place in
    let most : length l.methods ≤ l.place = omega (arith, c.loop-place-test.false, l.auto.methods) in
    none_left seen_method (λ m. awaits m.procedure.body) method_renumbered l.place l.next c.args.next.now l.methods c.args.methods.now most l.invariant.next
