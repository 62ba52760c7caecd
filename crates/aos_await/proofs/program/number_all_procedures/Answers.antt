-- One more has its numbers, and at the end all have.
use Rattle.std.proofs.Common.{◌+◌, ◌<◌, ◌∙◌, ◌≤◌, ap, arith, length, map, slice_index_or, slice_set, sum_by}
use Rattle.std.specs.Vec.{with_items}
use Rattle.aos_typed.specs.Seen.{seen_module, seen_procedure}
use Rattle.aos_typed.specs.Conditions.{awaits, awaits_in_procedures, procedures_renumbered}
use Rattle.aos_await.specs.Counts.{with_procedures}
use Rattle.aos_await.proofs.Held.{refilled}
use Rattle.aos_await.proofs.Each.{left, one_more, one_less, all_done, none_left}
use Rattle.aos_await.proofs.program.number_all_procedures.Goals as goal

pub loop-place-preserved : goal.loop-place-preserved
loop-place-preserved c =
    let l = c.loop-place in
    let d = c.index-modules-place.result in
    let call = c.number_procedures in
    let told = c.in_ok-number_procedures.ensures in
    let old = slice_index_or l.modules l.place d in
    let new = (record old { procedures = with_items old.procedures call.new.procedures }) in
    let below : l.place < length l.modules = omega (arith, c.loop-place-test.true, l.auto.modules) in
    let less = one_less seen_module awaits_in_procedures with_procedures l.place l.modules d new below in
    let next = told.next ∙ ap (λ qs. l.next + sum_by (λ q. awaits q.body) (map seen_procedure qs)) c.as_mut_slice.ensures.value in
    record {
      numbers =
          ap (λ n. left awaits_in_procedures with_procedures (l.place + 1) n (map seen_module (slice_set l.modules l.place new))) next
          ∙ one_more seen_module awaits_in_procedures with_procedures l.place l.next l.modules d new below (ap (λ qs. record (seen_module old) { procedures = qs }) (ap (map seen_procedure) (refilled old.procedures c.as_mut_slice.result.now call.new.procedures c.as_mut_slice.ensures.value call.auto.procedures) ∙ told.numbers ∙ ap (λ qs. procedures_renumbered l.next (map seen_procedure qs)) c.as_mut_slice.ensures.value))
          ∙ l.invariant.numbers;
      next = omega (arith, next, less, l.invariant.next);
    }

pub returns-clause-numbers : goal.returns-clause-numbers
returns-clause-numbers c =
    let l = c.loop-place in
    let most : length l.modules ≤ l.place = omega (arith, c.loop-place-test.false, l.auto.modules) in
    all_done seen_module awaits_in_procedures with_procedures l.place l.next c.args.next.now l.modules c.args.modules.now most l.invariant.numbers

pub returns-clause-next : goal.returns-clause-next
returns-clause-next c =
    let l = c.loop-place in
    let most : length l.modules ≤ l.place = omega (arith, c.loop-place-test.false, l.auto.modules) in
    none_left seen_module awaits_in_procedures with_procedures l.place l.next c.args.next.now l.modules c.args.modules.now most l.invariant.next
