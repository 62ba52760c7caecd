-- One more has its numbers, and at the end all have.
use Rattle.std.proofs.Common.{◌+◌, ◌<◌, ◌∙◌, ◌≤◌, ap, arith, length, map, slice_index_or, slice_set}
use Rattle.aos_typed.specs.Seen.{seen_module}
use Rattle.aos_typed.specs.Conditions.{awaits}
use Rattle.aos_await.specs.Counts.{with_body}
use Rattle.aos_await.proofs.Each.{left, one_more, one_less, all_done, none_left}
use Rattle.aos_await.proofs.program.number_modules.Goals as goal

pub loop-place-preserved : goal.loop-place-preserved
loop-place-preserved c =
    let l = c.loop-place in
    let d = c.index-modules-place.result in
    let call = c.number_body in
    let told = c.in_ok-number_body.ensures in
    let old = slice_index_or l.modules l.place d in
    let new = (record old { body = call.new.body }) in
    let below : l.place < length l.modules = omega (arith, c.loop-place-test.true, l.auto.modules) in
    let less = one_less seen_module (λ x. awaits x.body) with_body l.place l.modules d new below in
    record {
      numbers =
          ap (λ n. left (λ x. awaits x.body) with_body (l.place + 1) n (map seen_module (slice_set l.modules l.place new))) told.next
          ∙ one_more seen_module (λ x. awaits x.body) with_body l.place l.next l.modules d new below (ap (λ ss. record (seen_module old) { body = record { is_exclusive = old.is_exclusive; statements = ss } }) told.numbers)
          ∙ l.invariant.numbers;
      next = omega (arith, told.next, less, l.invariant.next);
    }

pub returns-clause-numbers : goal.returns-clause-numbers
returns-clause-numbers c =
    let l = c.loop-place in
    let most : length l.modules ≤ l.place = omega (arith, c.loop-place-test.false, l.auto.modules) in
    all_done seen_module (λ x. awaits x.body) with_body l.place l.next c.args.next.now l.modules c.args.modules.now most l.invariant.numbers

pub returns-clause-next : goal.returns-clause-next
returns-clause-next c =
    let l = c.loop-place in
    let most : length l.modules ≤ l.place = omega (arith, c.loop-place-test.false, l.auto.modules) in
    none_left seen_module (λ x. awaits x.body) with_body l.place l.next c.args.next.now l.modules c.args.modules.now most l.invariant.next
