use Rattle.std.proofs.Common.{suc, max, refl, sym, ap, ◌∙◌, subst, rules}
use Rattle.std.specs.Prelude.{◌≡◌, IfOk}
use Rattle.aos_typed.specs.Seen.{seen_stat, seen_stats, seen_else, arms_of, cases_of}
use Rattle.aos_typed.proofs.Seen.{if_seen, case_seen, while_seen, repeat_seen, loop_seen, for_seen, block_seen, with_seen, with_record_seen}
use Rattle.aos_sim.specs.Need.{stat_level, stats_level, arms_level, cases_level}
use Rattle.aos_dispatch.proofs.Heights.{within, arms_within, cases_within}
use Rattle.aos_image.proofs.level.+stat_level.Goals as goal

pub stat_level-arms_level-requires : goal.stat_level-arms_level-requires
stat_level-arms_level-requires t c =
    let x = c.in-If in
    let less = arms_within _ _ _ _ _ _ (ap seen_stat x.is ∙ if_seen x.field-0 x.arms x.otherwise) c.deref.ensures.value c.deref-in-If.ensures.value in
    search (rules, less)

pub stat_level-cases_level-requires : goal.stat_level-cases_level-requires
stat_level-cases_level-requires t c =
    let x = c.in-Case in
    let less = cases_within _ _ _ _ _ _ (ap seen_stat x.is ∙ case_seen x.field-0 x.field-1 x.cases x.otherwise) c.deref-in-Case.ensures.value in
    search (rules, less)

pub stat_level-stats_level-requires : goal.stat_level-stats_level-requires
stat_level-stats_level-requires t c =
    let x = c.in-While in
    let less = within _ _ _ _ (ap seen_stat x.is ∙ while_seen x.field-0 x.field-1 x.body) refl c.deref-in-While.ensures.value in
    search (rules, less)

pub stat_level-stats_level-requires-in-Repeat : goal.stat_level-stats_level-requires-in-Repeat
stat_level-stats_level-requires-in-Repeat t c =
    let x = c.in-Repeat in
    let less = within _ _ _ _ (ap seen_stat x.is ∙ repeat_seen x.field-0 x.body x.field-2) refl c.deref-in-Repeat.ensures.value in
    search (rules, less)

pub stat_level-stats_level-requires-in-Loop : goal.stat_level-stats_level-requires-in-Loop
stat_level-stats_level-requires-in-Loop t c =
    let x = c.in-Loop in
    let less = within _ _ _ _ (ap seen_stat x.is ∙ loop_seen x.field-0 x.body) refl c.deref-in-Loop.ensures.value in
    search (rules, less)

pub stat_level-stats_level-requires-in-For : goal.stat_level-stats_level-requires-in-For
stat_level-stats_level-requires-in-For t c =
    let x = c.in-For in
    let less = within _ _ _ _ (ap seen_stat x.is ∙ for_seen x.field-0 x.field-1 x.field-2 x.field-3 x.field-4 x.field-5 x.body) refl c.deref-in-For.ensures.value in
    search (rules, less)

pub stat_level-stats_level-requires-in-Block : goal.stat_level-stats_level-requires-in-Block
stat_level-stats_level-requires-in-Block t c =
    let x = c.in-Block in
    let less = within _ _ _ _ (ap seen_stat x.is ∙ block_seen x.field-0 x.field-1 x.body) refl c.deref-in-Block.ensures.value in
    search (rules, less)

pub stat_level-stats_level-requires-in-With : goal.stat_level-stats_level-requires-in-With
stat_level-stats_level-requires-in-With t c =
    let x = c.in-With in
    let less = within _ _ _ _ (ap seen_stat x.is ∙ with_seen x.field-0 x.field-1 x.body) refl c.deref-in-With.ensures.value in
    search (rules, less)

pub stat_level-stats_level-requires-in-WithRecord : goal.stat_level-stats_level-requires-in-WithRecord
stat_level-stats_level-requires-in-WithRecord t c =
    let x = c.in-WithRecord in
    let less = within _ _ _ _ (ap seen_stat x.is ∙ with_record_seen x.field-0 x.field-1 x.body) refl c.deref-in-WithRecord.ensures.value in
    search (rules, less)

pub stat_level-returns-in-If : goal.stat_level-returns-in-If
stat_level-returns-in-If t c =
    let x = c.in-If in
    let d = c.args.around in
    let all : arms_level (arms_of c.deref.result.now (seen_stats c.deref-in-If.result.now)) d ≡ stat_level (seen_stat c.args.statement.now) d =
    (λ i. arms_level (arms_of (c.deref.ensures.value i) (seen_stats (c.deref-in-If.ensures.value i))) d) ∙ sym (ap (λ s. stat_level s d) (ap seen_stat x.is ∙ if_seen x.field-0 x.arms x.otherwise)) in
    subst (λ m. IfOk c.arms_level.result (λ n. n ≡ m)) all c.arms_level.ensures

pub stat_level-returns-in_ok-cases_level-in-Case : goal.stat_level-returns-in_ok-cases_level-in-Case
stat_level-returns-in_ok-cases_level-in-Case t c =
    let x = c.in-Case in
    let d = c.args.around in
    c.max.ensures
    ∙ (λ i. max (c.in_ok-kept-in-Case.ensures i) (c.in_ok-cases_level-in-Case.ensures i))
    ∙ ap (λ l. max (suc d) (cases_level (cases_of l (seen_else x.otherwise)) d)) c.deref-in-Case.ensures.value
    ∙ sym (ap (λ s. stat_level s d) (ap seen_stat x.is ∙ case_seen x.field-0 x.field-1 x.cases x.otherwise))

pub stat_level-returns-in-While : goal.stat_level-returns-in-While
stat_level-returns-in-While t c =
    let x = c.in-While in
    let d = c.args.around in
    let all = ap (λ l. stats_level (seen_stats l) d) c.deref-in-While.ensures.value ∙ sym (ap (λ s. stat_level s d) (ap seen_stat x.is ∙ while_seen x.field-0 x.field-1 x.body)) in
    subst (λ m. IfOk c.stats_level.result (λ n. n ≡ m)) all c.stats_level.ensures

pub stat_level-returns-in-Repeat : goal.stat_level-returns-in-Repeat
stat_level-returns-in-Repeat t c =
    let x = c.in-Repeat in
    let d = c.args.around in
    let all = ap (λ l. stats_level (seen_stats l) d) c.deref-in-Repeat.ensures.value ∙ sym (ap (λ s. stat_level s d) (ap seen_stat x.is ∙ repeat_seen x.field-0 x.body x.field-2)) in
    subst (λ m. IfOk c.stats_level-in-Repeat.result (λ n. n ≡ m)) all c.stats_level-in-Repeat.ensures

pub stat_level-returns-in-Loop : goal.stat_level-returns-in-Loop
stat_level-returns-in-Loop t c =
    let x = c.in-Loop in
    let d = c.args.around in
    let all = ap (λ l. stats_level (seen_stats l) d) c.deref-in-Loop.ensures.value ∙ sym (ap (λ s. stat_level s d) (ap seen_stat x.is ∙ loop_seen x.field-0 x.body)) in
    subst (λ m. IfOk c.stats_level-in-Loop.result (λ n. n ≡ m)) all c.stats_level-in-Loop.ensures

pub stat_level-returns-in_ok-inside-in-For : goal.stat_level-returns-in_ok-inside-in-For
stat_level-returns-in_ok-inside-in-For t c =
    let x = c.in-For in
    let d = c.args.around in
    let all = (λ i. stats_level (seen_stats (c.deref-in-For.ensures.value i)) (c.in_ok-inside-in-For.ensures i)) ∙ sym (ap (λ s. stat_level s d) (ap seen_stat x.is ∙ for_seen x.field-0 x.field-1 x.field-2 x.field-3 x.field-4 x.field-5 x.body)) in
    subst (λ m. IfOk c.stats_level-in-For.result (λ n. n ≡ m)) all c.stats_level-in-For.ensures

pub stat_level-returns-in-Block : goal.stat_level-returns-in-Block
stat_level-returns-in-Block t c =
    let x = c.in-Block in
    let d = c.args.around in
    let all = ap (λ l. stats_level (seen_stats l) d) c.deref-in-Block.ensures.value ∙ sym (ap (λ s. stat_level s d) (ap seen_stat x.is ∙ block_seen x.field-0 x.field-1 x.body)) in
    subst (λ m. IfOk c.stats_level-in-Block.result (λ n. n ≡ m)) all c.stats_level-in-Block.ensures

pub stat_level-returns-in-With : goal.stat_level-returns-in-With
stat_level-returns-in-With t c =
    let x = c.in-With in
    let d = c.args.around in
    let all = ap (λ l. stats_level (seen_stats l) d) c.deref-in-With.ensures.value ∙ sym (ap (λ s. stat_level s d) (ap seen_stat x.is ∙ with_seen x.field-0 x.field-1 x.body)) in
    subst (λ m. IfOk c.stats_level-in-With.result (λ n. n ≡ m)) all c.stats_level-in-With.ensures

pub stat_level-returns-in-WithRecord : goal.stat_level-returns-in-WithRecord
stat_level-returns-in-WithRecord t c =
    let x = c.in-WithRecord in
    let d = c.args.around in
    let all = ap (λ l. stats_level (seen_stats l) d) c.deref-in-WithRecord.ensures.value ∙ sym (ap (λ s. stat_level s d) (ap seen_stat x.is ∙ with_record_seen x.field-0 x.field-1 x.body)) in
    subst (λ m. IfOk c.stats_level-in-WithRecord.result (λ n. n ≡ m)) all c.stats_level-in-WithRecord.ensures
