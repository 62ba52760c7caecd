-- Statements that hold others, and loops over them, are numbered as the definitions say.
use Rattle.std.proofs.Common.{◌+◌, ◌<◌, ◌≤◌, length, map, slice_index_or, slice_set, sym, ap, ◌∙◌, arith}
use Rattle.std.proofs.lemmas.Result.{on_ok_weaker}
use borrow.Enum.Known.{ValuesAt}
use borrow.Enum.Total.{values_d}
use Rattle.aos_typed.specs.contracts.tree.TStat.{enum}
use Rattle.std.specs.Vec.{with_items}
use Rattle.aos_typed.specs.Seen.{seen_expr, seen_stat}
use Rattle.aos_typed.specs.declared.tree.TArm.{out-TArm, roll-TArm}
use Rattle.aos_typed.specs.declared.tree.TCase.{out-TCase, roll-TCase}
use Rattle.aos_typed.specs.Conditions.{awaited_in, renumbered, stats_renumbered, arms_renumbered, cases_renumbered}
use Rattle.aos_await.specs.Counts.{awaits_of_arms, awaits_of_cases, each_from, seen_arm, seen_case, awaits_behind, renumbered_behind}
use Rattle.aos_await.proofs.Each.{left, one_more, one_less, all_done, none_left, stay_behind}
use Rattle.aos_await.proofs.Passes.{count, sequence, tested, labelled, as_sequence, as_tested, as_labelled, sequence_numbered, sequence_counted, tested_numbered, labelled_numbered}
use Rattle.aos_await.proofs.Held.{body_numbered, body_counted, held_numbered, held_counted, in_while, in_repeat, in_loop, in_for, in_block, in_with, in_with_record, arms_done, cases_done, if_numbered, if_counted, case_numbered, case_counted, else_numbered, else_counted}
use Rattle.aos_await.proofs.Written.{made_of}
use Rattle.aos_await.proofs.statements.+numbers.Goals as goal

pub number_stat-returns-in-While-clause-numbers : goal.number_stat-returns-in-While-clause-numbers
number_stat-returns-in-While-clause-numbers t c =
    let call = c.number_body-in-While in
    on_ok_weaker call.result (held_numbered in_while c.args.next.now c.args.stat.now _ c.in-While.is call.new.body) call.ensures.numbers

pub number_stat-returns-in-While-clause-next : goal.number_stat-returns-in-While-clause-next
number_stat-returns-in-While-clause-next t c =
    let call = c.number_body-in-While in
    on_ok_weaker call.result (held_counted in_while c.args.next.now c.args.stat.now _ c.in-While.is call.new.next) call.ensures.next

pub number_stat-returns-in-Repeat-clause-numbers : goal.number_stat-returns-in-Repeat-clause-numbers
number_stat-returns-in-Repeat-clause-numbers t c =
    let call = c.number_body-in-Repeat in
    on_ok_weaker call.result (held_numbered in_repeat c.args.next.now c.args.stat.now _ c.in-Repeat.is call.new.body) call.ensures.numbers

pub number_stat-returns-in-Repeat-clause-next : goal.number_stat-returns-in-Repeat-clause-next
number_stat-returns-in-Repeat-clause-next t c =
    let call = c.number_body-in-Repeat in
    on_ok_weaker call.result (held_counted in_repeat c.args.next.now c.args.stat.now _ c.in-Repeat.is call.new.next) call.ensures.next

pub number_stat-returns-in-Loop-clause-numbers : goal.number_stat-returns-in-Loop-clause-numbers
number_stat-returns-in-Loop-clause-numbers t c =
    let call = c.number_body-in-Loop in
    on_ok_weaker call.result (held_numbered in_loop c.args.next.now c.args.stat.now _ c.in-Loop.is call.new.body) call.ensures.numbers

pub number_stat-returns-in-Loop-clause-next : goal.number_stat-returns-in-Loop-clause-next
number_stat-returns-in-Loop-clause-next t c =
    let call = c.number_body-in-Loop in
    on_ok_weaker call.result (held_counted in_loop c.args.next.now c.args.stat.now _ c.in-Loop.is call.new.next) call.ensures.next

pub number_stat-returns-in-For-clause-numbers : goal.number_stat-returns-in-For-clause-numbers
number_stat-returns-in-For-clause-numbers t c =
    let call = c.number_body-in-For in
    on_ok_weaker call.result (held_numbered in_for c.args.next.now c.args.stat.now _ c.in-For.is call.new.body) call.ensures.numbers

pub number_stat-returns-in-For-clause-next : goal.number_stat-returns-in-For-clause-next
number_stat-returns-in-For-clause-next t c =
    let call = c.number_body-in-For in
    on_ok_weaker call.result (held_counted in_for c.args.next.now c.args.stat.now _ c.in-For.is call.new.next) call.ensures.next

pub number_stat-returns-in-Block-clause-numbers : goal.number_stat-returns-in-Block-clause-numbers
number_stat-returns-in-Block-clause-numbers t c =
    let call = c.number_body-in-Block in
    on_ok_weaker call.result (held_numbered in_block c.args.next.now c.args.stat.now _ c.in-Block.is call.new.body) call.ensures.numbers

pub number_stat-returns-in-Block-clause-next : goal.number_stat-returns-in-Block-clause-next
number_stat-returns-in-Block-clause-next t c =
    let call = c.number_body-in-Block in
    on_ok_weaker call.result (held_counted in_block c.args.next.now c.args.stat.now _ c.in-Block.is call.new.next) call.ensures.next

pub number_stat-returns-in-With-clause-numbers : goal.number_stat-returns-in-With-clause-numbers
number_stat-returns-in-With-clause-numbers t c =
    let call = c.number_body-in-With in
    on_ok_weaker call.result (held_numbered in_with c.args.next.now c.args.stat.now _ c.in-With.is call.new.body) call.ensures.numbers

pub number_stat-returns-in-With-clause-next : goal.number_stat-returns-in-With-clause-next
number_stat-returns-in-With-clause-next t c =
    let call = c.number_body-in-With in
    on_ok_weaker call.result (held_counted in_with c.args.next.now c.args.stat.now _ c.in-With.is call.new.next) call.ensures.next

pub number_stat-returns-in-WithRecord-clause-numbers : goal.number_stat-returns-in-WithRecord-clause-numbers
number_stat-returns-in-WithRecord-clause-numbers t c =
    let call = c.number_body-in-WithRecord in
    on_ok_weaker call.result (held_numbered in_with_record c.args.next.now c.args.stat.now _ c.in-WithRecord.is call.new.body) call.ensures.numbers

pub number_stat-returns-in-WithRecord-clause-next : goal.number_stat-returns-in-WithRecord-clause-next
number_stat-returns-in-WithRecord-clause-next t c =
    let call = c.number_body-in-WithRecord in
    on_ok_weaker call.result (held_counted in_with_record c.args.next.now c.args.stat.now _ c.in-WithRecord.is call.new.next) call.ensures.next

pub number_stat-returns-in_ok-number_arms-in-If-clause-numbers : goal.number_stat-returns-in_ok-number_arms-in-If-clause-numbers
number_stat-returns-in_ok-number_arms-in-If-clause-numbers t c =
    let n = c.args.next.now in
    let x = c.in-If in
    let v : ValuesAt enum.parts 3 = (x.field-0, (x.arms, (x.last, tt))) in
    let p = values_d enum 3 v c.args.stat.now in
    let arms = c.as_mut_slice in
    let k = c.number_arms.new.next in
    let call = c.number_body in
    on_ok_weaker call.result
    (λ e.
    if_numbered n k call.new.next c.args.stat.now p.0 p.1.0 p.1.1.0 (made_of enum 3 v x.is) (with_items p.1.0 c.number_arms.new.arms) call.new.body
    (arms_done n k p.1.0 arms.result.now c.number_arms.new.arms arms.ensures.value c.number_arms.auto.arms c.in_ok-number_arms-in-If.ensures.numbers)
    e)
    call.ensures.numbers

pub number_stat-returns-in_ok-number_arms-in-If-clause-next : goal.number_stat-returns-in_ok-number_arms-in-If-clause-next
number_stat-returns-in_ok-number_arms-in-If-clause-next t c =
    let n = c.args.next.now in
    let x = c.in-If in
    let v : ValuesAt enum.parts 3 = (x.field-0, (x.arms, (x.last, tt))) in
    let p = values_d enum 3 v c.args.stat.now in
    let k = c.number_arms.new.next in
    let call = c.number_body in
    let first = c.in_ok-number_arms-in-If.ensures.next ∙ ap (λ as'. n + awaits_of_arms as') c.as_mut_slice.ensures.value in
    on_ok_weaker call.result (λ e. if_counted n k call.new.next c.args.stat.now p.0 p.1.0 p.1.1.0 (made_of enum 3 v x.is) first e) call.ensures.next

pub number_stat-returns-in_ok-number_cases-in-Case-clause-numbers : goal.number_stat-returns-in_ok-number_cases-in-Case-clause-numbers
number_stat-returns-in_ok-number_cases-in-Case-clause-numbers t c =
    let n = c.args.next.now in
    let x = c.in-Case in
    let v : ValuesAt enum.parts 4 = (x.field-0, (x.field-1, (x.cases, (x.otherwise, tt)))) in
    let p = values_d enum 4 v c.args.stat.now in
    let cases = c.as_mut_slice-in-Case in
    let k = c.number_cases.new.next in
    let call = c.number_else in
    on_ok_weaker call.result
    (λ e.
    case_numbered n k call.new.next c.args.stat.now p.0 p.1.0 p.1.1.0 p.1.1.1.0 (made_of enum 4 v x.is) (with_items p.1.1.0 c.number_cases.new.cases) call.new.otherwise
    (cases_done n k p.1.1.0 cases.result.now c.number_cases.new.cases cases.ensures.value c.number_cases.auto.cases c.in_ok-number_cases-in-Case.ensures.numbers)
    e)
    call.ensures.numbers

pub number_stat-returns-in_ok-number_cases-in-Case-clause-next : goal.number_stat-returns-in_ok-number_cases-in-Case-clause-next
number_stat-returns-in_ok-number_cases-in-Case-clause-next t c =
    let n = c.args.next.now in
    let x = c.in-Case in
    let v : ValuesAt enum.parts 4 = (x.field-0, (x.field-1, (x.cases, (x.otherwise, tt)))) in
    let p = values_d enum 4 v c.args.stat.now in
    let k = c.number_cases.new.next in
    let call = c.number_else in
    let first = c.in_ok-number_cases-in-Case.ensures.next ∙ ap (λ as'. n + awaits_of_cases as') c.as_mut_slice-in-Case.ensures.value in
    on_ok_weaker call.result (λ e. case_counted n k call.new.next c.args.stat.now p.0 p.1.0 p.1.1.0 p.1.1.1.0 (made_of enum 4 v x.is) first e) call.ensures.next

pub number_else-returns-in-Else-clause-numbers : goal.number_else-returns-in-Else-clause-numbers
number_else-returns-in-Else-clause-numbers t c =
    let call = c.number_body in
    on_ok_weaker call.result (else_numbered c.args.next.now c.args.otherwise.now _ c.in-Else.is call.new.body) call.ensures.numbers

pub number_else-returns-in-Else-clause-next : goal.number_else-returns-in-Else-clause-next
number_else-returns-in-Else-clause-next t c =
    let call = c.number_body in
    on_ok_weaker call.result (else_counted c.args.next.now c.args.otherwise.now _ c.in-Else.is call.new.next) call.ensures.next

pub number_body-returns-clause-numbers : goal.number_body-returns-clause-numbers
number_body-returns-clause-numbers t c =
    let v = c.as_mut_slice in
    let call = c.number_stats in
    on_ok_weaker call.result (λ e. body_numbered c.args.next.now c.args.body.now v.result.now call.new.stats v.ensures.value call.auto.stats e) call.ensures.numbers

pub number_body-returns-clause-next : goal.number_body-returns-clause-next
number_body-returns-clause-next t c =
    let v = c.as_mut_slice in
    let call = c.number_stats in
    on_ok_weaker call.result (λ e. body_counted c.args.next.now call.new.next c.args.body.now v.result.now v.ensures.value e) call.ensures.next

pub number_stats-loop-place-preserved : goal.number_stats-loop-place-preserved
number_stats-loop-place-preserved t c =
    let l = c.loop-place in
    let d = c.index-stats-place.result in
    let new = c.number_stat.new.stat in
    let below : l.place < length l.stats = omega (arith, c.loop-place-test.true, l.auto.stats) in
    let told = c.in_ok-number_stat.ensures in
    let less = one_less seen_stat count renumbered l.place l.stats d new below in
    record {
      unvisited = stay_behind l.place l.stats c.args.stats.now new l.invariant.unvisited;
      numbers =
          ap (λ n. left count renumbered (l.place + 1) n (map seen_stat (slice_set l.stats l.place new))) told.next
          ∙ one_more seen_stat count renumbered l.place l.next l.stats d new below told.numbers
          ∙ l.invariant.numbers;
      next = omega (arith, told.next, less, l.invariant.next);
    }

pub number_stats-returns-clause-numbers : goal.number_stats-returns-clause-numbers
number_stats-returns-clause-numbers t c =
    let l = c.loop-place in
    let most : length l.stats ≤ l.place = omega (arith, c.loop-place-test.false, l.auto.stats) in
    as_sequence l.stats
    ∙ ap sequence (all_done seen_stat count renumbered l.place l.next c.args.next.now l.stats c.args.stats.now most l.invariant.numbers)
    ∙ sym (sequence_numbered c.args.next.now (map seen_stat c.args.stats.now))
    ∙ ap (stats_renumbered c.args.next.now) (sym (as_sequence c.args.stats.now))

pub number_stats-returns-clause-next : goal.number_stats-returns-clause-next
number_stats-returns-clause-next t c =
    let l = c.loop-place in
    let most : length l.stats ≤ l.place = omega (arith, c.loop-place-test.false, l.auto.stats) in
    none_left seen_stat count renumbered l.place l.next c.args.next.now l.stats c.args.stats.now most l.invariant.next
    ∙ ap (λ k. c.args.next.now + k)
    (sym (sequence_counted (map seen_stat c.args.stats.now)) ∙ ap (λ ss. length (awaited_in ss)) (sym (as_sequence c.args.stats.now)))

pub number_arms-loop-place-preserved : goal.number_arms-loop-place-preserved
number_arms-loop-place-preserved t c =
    let l = c.loop-place in
    let d = c.index-arms-place.result in
    let old = out-TArm (slice_index_or l.arms l.place d) in
    let call = c.number_body in
    let new = roll-TArm (record { test = old.test; body = call.new.body }) in
    let below : l.place < length l.arms = omega (arith, c.loop-place-test.true, l.auto.arms) in
    let told = c.in_ok-number_body.ensures in
    let less = one_less seen_arm awaits_behind renumbered_behind l.place l.arms d new below in
    record {
      unvisited = stay_behind l.place l.arms c.args.arms.now new l.invariant.unvisited;
      numbers =
          ap (λ n. left awaits_behind renumbered_behind (l.place + 1) n (map seen_arm (slice_set l.arms l.place new))) told.next
          ∙ one_more seen_arm awaits_behind renumbered_behind l.place l.next l.arms d new below (ap (λ ss. (seen_expr old.test, ss)) told.numbers)
          ∙ l.invariant.numbers;
      next = omega (arith, told.next, less, l.invariant.next);
    }

pub number_arms-returns-clause-numbers : goal.number_arms-returns-clause-numbers
number_arms-returns-clause-numbers t c =
    let l = c.loop-place in
    let n = c.args.next.now in
    let old = c.args.arms.now in
    let most : length l.arms ≤ l.place = omega (arith, c.loop-place-test.false, l.auto.arms) in
    λ last.
    as_tested l.arms (stats_renumbered l.next last)
    ∙ ap (λ as'. tested as' (stats_renumbered l.next last)) (all_done seen_arm awaits_behind renumbered_behind l.place l.next n l.arms old most l.invariant.numbers)
    ∙ ap (λ k. tested (each_from awaits_behind renumbered_behind n (map seen_arm old)) (stats_renumbered k last)) (none_left seen_arm awaits_behind renumbered_behind l.place l.next n l.arms old most l.invariant.next)
    ∙ sym (tested_numbered n (map seen_arm old) last)
    ∙ ap (arms_renumbered n) (sym (as_tested old last))

pub number_arms-returns-clause-next : goal.number_arms-returns-clause-next
number_arms-returns-clause-next t c =
    let l = c.loop-place in
    let most : length l.arms ≤ l.place = omega (arith, c.loop-place-test.false, l.auto.arms) in
    none_left seen_arm awaits_behind renumbered_behind l.place l.next c.args.next.now l.arms c.args.arms.now most l.invariant.next

pub number_cases-loop-place-preserved : goal.number_cases-loop-place-preserved
number_cases-loop-place-preserved t c =
    let l = c.loop-place in
    let d = c.index-cases-place.result in
    let old = out-TCase (slice_index_or l.cases l.place d) in
    let call = c.number_body in
    let new = roll-TCase (record { labels = old.labels; body = call.new.body }) in
    let below : l.place < length l.cases = omega (arith, c.loop-place-test.true, l.auto.cases) in
    let told = c.in_ok-number_body.ensures in
    let less = one_less seen_case awaits_behind renumbered_behind l.place l.cases d new below in
    record {
      unvisited = stay_behind l.place l.cases c.args.cases.now new l.invariant.unvisited;
      numbers =
          ap (λ n. left awaits_behind renumbered_behind (l.place + 1) n (map seen_case (slice_set l.cases l.place new))) told.next
          ∙ one_more seen_case awaits_behind renumbered_behind l.place l.next l.cases d new below (ap (λ ss. (old.labels.items, ss)) told.numbers)
          ∙ l.invariant.numbers;
      next = omega (arith, told.next, less, l.invariant.next);
    }

pub number_cases-returns-clause-numbers : goal.number_cases-returns-clause-numbers
number_cases-returns-clause-numbers t c =
    let l = c.loop-place in
    let n = c.args.next.now in
    let old = c.args.cases.now in
    let most : length l.cases ≤ l.place = omega (arith, c.loop-place-test.false, l.auto.cases) in
    λ last.
    as_labelled l.cases (cases_renumbered l.next last)
    ∙ ap (λ as'. labelled as' (cases_renumbered l.next last)) (all_done seen_case awaits_behind renumbered_behind l.place l.next n l.cases old most l.invariant.numbers)
    ∙ ap (λ k. labelled (each_from awaits_behind renumbered_behind n (map seen_case old)) (cases_renumbered k last)) (none_left seen_case awaits_behind renumbered_behind l.place l.next n l.cases old most l.invariant.next)
    ∙ sym (labelled_numbered n (map seen_case old) last)
    ∙ ap (cases_renumbered n) (sym (as_labelled old last))

pub number_cases-returns-clause-next : goal.number_cases-returns-clause-next
number_cases-returns-clause-next t c =
    let l = c.loop-place in
    let most : length l.cases ≤ l.place = omega (arith, c.loop-place-test.false, l.auto.cases) in
    none_left seen_case awaits_behind renumbered_behind l.place l.next c.args.next.now l.cases c.args.cases.now most l.invariant.next
