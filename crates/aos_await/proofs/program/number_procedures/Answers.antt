-- One more has its numbers, and at the end all have.
use Rattle.std.proofs.Common.{◌+◌, ◌<◌, ◌∙◌, ◌≤◌, ap, arith, length, map, slice_set, sym}
use Rattle.aos_typed.specs.Seen.{seen_procedure}
use Rattle.aos_typed.specs.Conditions.{awaits, procedure_renumbered}
use Rattle.aos_await.proofs.Each.{left, one_more, one_less, all_done, none_left}
use Rattle.aos_await.proofs.Passes.{procedures_numbered}
use Rattle.aos_await.proofs.program.number_procedures.Goals as goal

pub loop-place-preserved : goal.loop-place-preserved
loop-place-preserved c =
    let l = c.loop-place in
    let d = c.index-procedures-place.result in
    let call = c.number_procedure in
    let told = c.in_ok-number_procedure.ensures in
    let new = call.new.procedure in
    let below : l.place < length l.procedures = omega (arith, c.loop-place-test.true, l.auto.procedures) in
    let less = one_less seen_procedure (λ q. awaits q.body) procedure_renumbered l.place l.procedures d new below in
    let next = told.next in
    record {
      numbers =
          ap (λ n. left (λ q. awaits q.body) procedure_renumbered (l.place + 1) n (map seen_procedure (slice_set l.procedures l.place new))) next
          ∙ one_more seen_procedure (λ q. awaits q.body) procedure_renumbered l.place l.next l.procedures d new below told.numbers
          ∙ l.invariant.numbers;
      next = omega (arith, next, less, l.invariant.next);
    }

pub returns-clause-numbers : goal.returns-clause-numbers
returns-clause-numbers c =
    let l = c.loop-place in
    let most : length l.procedures ≤ l.place = omega (arith, c.loop-place-test.false, l.auto.procedures) in
    all_done seen_procedure (λ q. awaits q.body) procedure_renumbered l.place l.next c.args.next.now l.procedures c.args.procedures.now most l.invariant.numbers
    ∙ sym (procedures_numbered c.args.next.now (map seen_procedure c.args.procedures.now))

pub returns-clause-next : goal.returns-clause-next
returns-clause-next c =
    let l = c.loop-place in
    let most : length l.procedures ≤ l.place = omega (arith, c.loop-place-test.false, l.auto.procedures) in
    none_left seen_procedure (λ q. awaits q.body) procedure_renumbered l.place l.next c.args.next.now l.procedures c.args.procedures.now most l.invariant.next
