use Rattle.std.proofs.Common.{◌++◌, map, refl, sym, ap, ◌∙◌, rules}
use Rattle.std.proofs.lemmas.Result.{on_ok_weaker}
use Rattle.aos_typed.specs.Conditions.{awaited, awaited_in, awaited_in_arms, awaited_in_cases}
use Rattle.aos_typed.specs.Seen.{seen_stat, seen_stats, seen_else, arms_of, cases_of}
use Rattle.aos_typed.proofs.Seen.{if_seen, case_seen, while_seen, repeat_seen, loop_seen, for_seen, block_seen, with_seen, with_record_seen}
use Rattle.aos_dispatch.proofs.Heights.{within, arms_within, cases_within}
use Rattle.aos_dispatch.specs.Awaits.{seen_await}
use Rattle.aos_dispatch.proofs.awaits.+stat_awaits.Goals as goal

pub stat_awaits-arms_awaits-requires : goal.stat_awaits-arms_awaits-requires
stat_awaits-arms_awaits-requires t c =
    let x = c.in-If in
    let less = arms_within _ _ _ _ _ _ (ap seen_stat x.is ∙ if_seen x.field-0 x.arms x.otherwise) c.deref.ensures.value c.deref-in-If.ensures.value in
    search (rules, less)

pub stat_awaits-cases_awaits-requires : goal.stat_awaits-cases_awaits-requires
stat_awaits-cases_awaits-requires t c =
    let x = c.in-Case in
    let less = cases_within _ _ _ _ _ _ (ap seen_stat x.is ∙ case_seen x.field-0 x.field-1 x.cases x.otherwise) c.deref-in-Case.ensures.value in
    search (rules, less)

pub stat_awaits-stats_awaits-requires : goal.stat_awaits-stats_awaits-requires
stat_awaits-stats_awaits-requires t c =
    let x = c.in-While in
    let less = within _ _ _ _ (ap seen_stat x.is ∙ while_seen x.field-0 x.field-1 x.body) refl c.deref-in-While.ensures.value in
    search (rules, less)

pub stat_awaits-stats_awaits-requires-in-Repeat : goal.stat_awaits-stats_awaits-requires-in-Repeat
stat_awaits-stats_awaits-requires-in-Repeat t c =
    let x = c.in-Repeat in
    let less = within _ _ _ _ (ap seen_stat x.is ∙ repeat_seen x.field-0 x.body x.field-2) refl c.deref-in-Repeat.ensures.value in
    search (rules, less)

pub stat_awaits-stats_awaits-requires-in-Loop : goal.stat_awaits-stats_awaits-requires-in-Loop
stat_awaits-stats_awaits-requires-in-Loop t c =
    let x = c.in-Loop in
    let less = within _ _ _ _ (ap seen_stat x.is ∙ loop_seen x.field-0 x.body) refl c.deref-in-Loop.ensures.value in
    search (rules, less)

pub stat_awaits-stats_awaits-requires-in-For : goal.stat_awaits-stats_awaits-requires-in-For
stat_awaits-stats_awaits-requires-in-For t c =
    let x = c.in-For in
    let less = within _ _ _ _ (ap seen_stat x.is ∙ for_seen x.field-0 x.field-1 x.field-2 x.field-3 x.field-4 x.field-5 x.body) refl c.deref-in-For.ensures.value in
    search (rules, less)

pub stat_awaits-stats_awaits-requires-in-Block : goal.stat_awaits-stats_awaits-requires-in-Block
stat_awaits-stats_awaits-requires-in-Block t c =
    let x = c.in-Block in
    let less = within _ _ _ _ (ap seen_stat x.is ∙ block_seen x.field-0 x.field-1 x.body) refl c.deref-in-Block.ensures.value in
    search (rules, less)

pub stat_awaits-stats_awaits-requires-in-With : goal.stat_awaits-stats_awaits-requires-in-With
stat_awaits-stats_awaits-requires-in-With t c =
    let x = c.in-With in
    let less = within _ _ _ _ (ap seen_stat x.is ∙ with_seen x.field-0 x.field-1 x.body) refl c.deref-in-With.ensures.value in
    search (rules, less)

pub stat_awaits-stats_awaits-requires-in-WithRecord : goal.stat_awaits-stats_awaits-requires-in-WithRecord
stat_awaits-stats_awaits-requires-in-WithRecord t c =
    let x = c.in-WithRecord in
    let less = within _ _ _ _ (ap seen_stat x.is ∙ with_record_seen x.field-0 x.field-1 x.body) refl c.deref-in-WithRecord.ensures.value in
    search (rules, less)

pub stat_awaits-returns-in-If : goal.stat_awaits-returns-in-If
stat_awaits-returns-in-If t c =
    let x = c.in-If in
    let all = (λ i. awaited_in_arms (arms_of (c.deref.ensures.value i) (seen_stats (c.deref-in-If.ensures.value i)))) ∙ sym (ap awaited (ap seen_stat x.is ∙ if_seen x.field-0 x.arms x.otherwise)) in
    on_ok_weaker c.arms_awaits.result (λ e. e ∙ ap (λ l. map seen_await c.args.found.now.items ++ l) all) c.arms_awaits.ensures

pub stat_awaits-returns-in-Case : goal.stat_awaits-returns-in-Case
stat_awaits-returns-in-Case t c =
    let x = c.in-Case in
    let all = ap (λ l. awaited_in_cases (cases_of l (seen_else x.otherwise))) c.deref-in-Case.ensures.value ∙ sym (ap awaited (ap seen_stat x.is ∙ case_seen x.field-0 x.field-1 x.cases x.otherwise)) in
    on_ok_weaker c.cases_awaits.result (λ e. e ∙ ap (λ l. map seen_await c.args.found.now.items ++ l) all) c.cases_awaits.ensures

pub stat_awaits-returns-in-While : goal.stat_awaits-returns-in-While
stat_awaits-returns-in-While t c =
    let x = c.in-While in
    let all = ap (λ l. awaited_in (seen_stats l)) c.deref-in-While.ensures.value ∙ sym (ap awaited (ap seen_stat x.is ∙ while_seen x.field-0 x.field-1 x.body)) in
    on_ok_weaker c.stats_awaits.result (λ e. e ∙ ap (λ l. map seen_await c.args.found.now.items ++ l) all) c.stats_awaits.ensures

pub stat_awaits-returns-in-Repeat : goal.stat_awaits-returns-in-Repeat
stat_awaits-returns-in-Repeat t c =
    let x = c.in-Repeat in
    let all = ap (λ l. awaited_in (seen_stats l)) c.deref-in-Repeat.ensures.value ∙ sym (ap awaited (ap seen_stat x.is ∙ repeat_seen x.field-0 x.body x.field-2)) in
    on_ok_weaker c.stats_awaits-in-Repeat.result (λ e. e ∙ ap (λ l. map seen_await c.args.found.now.items ++ l) all) c.stats_awaits-in-Repeat.ensures

pub stat_awaits-returns-in-Loop : goal.stat_awaits-returns-in-Loop
stat_awaits-returns-in-Loop t c =
    let x = c.in-Loop in
    let all = ap (λ l. awaited_in (seen_stats l)) c.deref-in-Loop.ensures.value ∙ sym (ap awaited (ap seen_stat x.is ∙ loop_seen x.field-0 x.body)) in
    on_ok_weaker c.stats_awaits-in-Loop.result (λ e. e ∙ ap (λ l. map seen_await c.args.found.now.items ++ l) all) c.stats_awaits-in-Loop.ensures

pub stat_awaits-returns-in-For : goal.stat_awaits-returns-in-For
stat_awaits-returns-in-For t c =
    let x = c.in-For in
    let all = ap (λ l. awaited_in (seen_stats l)) c.deref-in-For.ensures.value ∙ sym (ap awaited (ap seen_stat x.is ∙ for_seen x.field-0 x.field-1 x.field-2 x.field-3 x.field-4 x.field-5 x.body)) in
    on_ok_weaker c.stats_awaits-in-For.result (λ e. e ∙ ap (λ l. map seen_await c.args.found.now.items ++ l) all) c.stats_awaits-in-For.ensures

pub stat_awaits-returns-in-Block : goal.stat_awaits-returns-in-Block
stat_awaits-returns-in-Block t c =
    let x = c.in-Block in
    let all = ap (λ l. awaited_in (seen_stats l)) c.deref-in-Block.ensures.value ∙ sym (ap awaited (ap seen_stat x.is ∙ block_seen x.field-0 x.field-1 x.body)) in
    on_ok_weaker c.stats_awaits-in-Block.result (λ e. e ∙ ap (λ l. map seen_await c.args.found.now.items ++ l) all) c.stats_awaits-in-Block.ensures

pub stat_awaits-returns-in-With : goal.stat_awaits-returns-in-With
stat_awaits-returns-in-With t c =
    let x = c.in-With in
    let all = ap (λ l. awaited_in (seen_stats l)) c.deref-in-With.ensures.value ∙ sym (ap awaited (ap seen_stat x.is ∙ with_seen x.field-0 x.field-1 x.body)) in
    on_ok_weaker c.stats_awaits-in-With.result (λ e. e ∙ ap (λ l. map seen_await c.args.found.now.items ++ l) all) c.stats_awaits-in-With.ensures

pub stat_awaits-returns-in-WithRecord : goal.stat_awaits-returns-in-WithRecord
stat_awaits-returns-in-WithRecord t c =
    let x = c.in-WithRecord in
    let all = ap (λ l. awaited_in (seen_stats l)) c.deref-in-WithRecord.ensures.value ∙ sym (ap awaited (ap seen_stat x.is ∙ with_record_seen x.field-0 x.field-1 x.body)) in
    on_ok_weaker c.stats_awaits-in-WithRecord.result (λ e. e ∙ ap (λ l. map seen_await c.args.found.now.items ++ l) all) c.stats_awaits-in-WithRecord.ensures
