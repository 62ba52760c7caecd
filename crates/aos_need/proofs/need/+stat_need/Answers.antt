use Rattle.std.proofs.Common.{◌≡◌, ℕ, max, refl, sym, ap, ◌∙◌, subst, arith, rules}
use Rattle.std.specs.Prelude.{IfOk}
use Rattle.aos_typed.specs.Seen.{seen_place, seen_expr, seen_stat, seen_stats, seen_else, arms_of, cases_of}
use Rattle.aos_typed.proofs.Seen.{if_seen, case_seen, while_seen, repeat_seen, loop_seen, for_seen, block_seen, with_seen, with_record_seen}
use Rattle.aos_sim.specs.Need.{place_need, value_need, assign_need, stat_need, stats_need, arms_need, cases_need}
use Rattle.aos_dispatch.proofs.Heights.{within, arms_within, cases_within}
use Rattle.aos_need.proofs.need.+stat_need.Goals as goal

max_turned : (a b : ℕ) → max a b ≡ max b a
max_turned a b = omega arith

max_joined : (a b c : ℕ) → max (max a b) c ≡ max a (max b c)
max_joined a b c = omega arith

pub stat_need-arms_need-requires : goal.stat_need-arms_need-requires
stat_need-arms_need-requires t c =
    let x = c.in-If in
    let less = arms_within _ _ _ _ _ _ (ap seen_stat x.is ∙ if_seen x.field-0 x.arms x.otherwise) c.deref.ensures.value c.deref-in-If.ensures.value in
    search (rules, less)

pub stat_need-case_need-requires : goal.stat_need-case_need-requires
stat_need-case_need-requires t c =
    let x = c.in-Case in
    let less = cases_within _ _ _ _ _ _ (ap seen_stat x.is ∙ case_seen x.field-0 x.selector x.cases x.otherwise) c.deref-in-Case.ensures.value in
    search (rules, less)

pub stat_need-behind_need-requires : goal.stat_need-behind_need-requires
stat_need-behind_need-requires t c =
    let x = c.in-While in
    let less = within _ _ _ _ (ap seen_stat x.is ∙ while_seen x.field-0 x.condition x.body) refl c.deref-in-While.ensures.value in
    search (rules, less)

pub stat_need-behind_need-requires-in-Repeat : goal.stat_need-behind_need-requires-in-Repeat
stat_need-behind_need-requires-in-Repeat t c =
    let x = c.in-Repeat in
    let less = within _ _ _ _ (ap seen_stat x.is ∙ repeat_seen x.field-0 x.body x.condition) refl c.deref-in-Repeat.ensures.value in
    search (rules, less)

pub stat_need-stats_need-requires : goal.stat_need-stats_need-requires
stat_need-stats_need-requires t c =
    let x = c.in-Loop in
    let less = within _ _ _ _ (ap seen_stat x.is ∙ loop_seen x.field-0 x.body) refl c.deref-in-Loop.ensures.value in
    search (rules, less)

pub stat_need-rounds_need-requires : goal.stat_need-rounds_need-requires
stat_need-rounds_need-requires t c =
    let x = c.in-For in
    let less = within _ _ _ _ (ap seen_stat x.is ∙ for_seen x.field-0 x.field-1 x.place x.from x.to x.field-5 x.body) refl c.deref-in-For.ensures.value in
    search (rules, less)

pub stat_need-stats_need-requires-in-Block : goal.stat_need-stats_need-requires-in-Block
stat_need-stats_need-requires-in-Block t c =
    let x = c.in-Block in
    let less = within _ _ _ _ (ap seen_stat x.is ∙ block_seen x.field-0 x.field-1 x.body) refl c.deref-in-Block.ensures.value in
    search (rules, less)

pub stat_need-behind_need-requires-in-With : goal.stat_need-behind_need-requires-in-With
stat_need-behind_need-requires-in-With t c =
    let x = c.in-With in
    let less = within _ _ _ _ (ap seen_stat x.is ∙ with_seen x.field-0 x.object x.body) refl c.deref-in-With.ensures.value in
    search (rules, less)

pub stat_need-behind_need-requires-in-WithRecord : goal.stat_need-behind_need-requires-in-WithRecord
stat_need-behind_need-requires-in-WithRecord t c =
    let x = c.in-WithRecord in
    let less = within _ _ _ _ (ap seen_stat x.is ∙ with_record_seen x.field-0 x.place x.body) refl c.deref-in-WithRecord.ensures.value in
    search (rules, less)

pub stat_need-returns-in-If : goal.stat_need-returns-in-If
stat_need-returns-in-If t c =
    let x = c.in-If in
    let all = (λ i. arms_need (arms_of (c.deref.ensures.value i) (seen_stats (c.deref-in-If.ensures.value i)))) ∙ sym (ap stat_need (ap seen_stat x.is ∙ if_seen x.field-0 x.arms x.otherwise)) in
    subst (λ m. IfOk c.arms_need.result (λ n. n ≡ m)) all c.arms_need.ensures

pub stat_need-returns-in-Case : goal.stat_need-returns-in-Case
stat_need-returns-in-Case t c =
    let x = c.in-Case in
    let all = ap (λ l. max (value_need (seen_expr x.selector)) (cases_need (cases_of l (seen_else x.otherwise)))) c.deref-in-Case.ensures.value ∙ sym (ap stat_need (ap seen_stat x.is ∙ case_seen x.field-0 x.selector x.cases x.otherwise)) in
    subst (λ m. IfOk c.case_need.result (λ n. n ≡ m)) all c.case_need.ensures

pub stat_need-returns-in-While : goal.stat_need-returns-in-While
stat_need-returns-in-While t c =
    let x = c.in-While in
    let all = ap (λ l. max (value_need (seen_expr x.condition)) (stats_need (seen_stats l))) c.deref-in-While.ensures.value ∙ sym (ap stat_need (ap seen_stat x.is ∙ while_seen x.field-0 x.condition x.body)) in
    subst (λ m. IfOk c.behind_need.result (λ n. n ≡ m)) all c.behind_need.ensures

pub stat_need-returns-in-Repeat : goal.stat_need-returns-in-Repeat
stat_need-returns-in-Repeat t c =
    let x = c.in-Repeat in
    let test = value_need (seen_expr x.condition) in
    let all =
    max_turned test (stats_need (seen_stats c.deref-in-Repeat.result.now))
    ∙ ap (λ l. max (stats_need (seen_stats l)) test) c.deref-in-Repeat.ensures.value
    ∙ sym (ap stat_need (ap seen_stat x.is ∙ repeat_seen x.field-0 x.body x.condition)) in
    subst (λ m. IfOk c.behind_need-in-Repeat.result (λ n. n ≡ m)) all c.behind_need-in-Repeat.ensures

pub stat_need-returns-in-Loop : goal.stat_need-returns-in-Loop
stat_need-returns-in-Loop t c =
    let x = c.in-Loop in
    let all = ap (λ l. stats_need (seen_stats l)) c.deref-in-Loop.ensures.value ∙ sym (ap stat_need (ap seen_stat x.is ∙ loop_seen x.field-0 x.body)) in
    subst (λ m. IfOk c.stats_need.result (λ n. n ≡ m)) all c.stats_need.ensures

pub stat_need-returns-in-For : goal.stat_need-returns-in-For
stat_need-returns-in-For t c =
    let x = c.in-For in
    let place = place_need (seen_place x.place) in
    let first = max (value_need (seen_expr x.to.value)) (assign_need place (value_need (seen_expr x.from.value))) in
    let step = assign_need place (max place 2) in
    let all =
    max_joined first step (stats_need (seen_stats c.deref-in-For.result.now))
    ∙ ap (λ l. max first (max step (stats_need (seen_stats l)))) c.deref-in-For.ensures.value
    ∙ sym (ap stat_need (ap seen_stat x.is ∙ for_seen x.field-0 x.field-1 x.place x.from x.to x.field-5 x.body)) in
    subst (λ m. IfOk c.rounds_need.result (λ n. n ≡ m)) all c.rounds_need.ensures

pub stat_need-returns-in-Block : goal.stat_need-returns-in-Block
stat_need-returns-in-Block t c =
    let x = c.in-Block in
    let all = ap (λ l. stats_need (seen_stats l)) c.deref-in-Block.ensures.value ∙ sym (ap stat_need (ap seen_stat x.is ∙ block_seen x.field-0 x.field-1 x.body)) in
    subst (λ m. IfOk c.stats_need-in-Block.result (λ n. n ≡ m)) all c.stats_need-in-Block.ensures

pub stat_need-returns-in-With : goal.stat_need-returns-in-With
stat_need-returns-in-With t c =
    let x = c.in-With in
    let all = ap (λ l. max (value_need (seen_expr x.object)) (stats_need (seen_stats l))) c.deref-in-With.ensures.value ∙ sym (ap stat_need (ap seen_stat x.is ∙ with_seen x.field-0 x.object x.body)) in
    subst (λ m. IfOk c.behind_need-in-With.result (λ n. n ≡ m)) all c.behind_need-in-With.ensures

pub stat_need-returns-in-WithRecord : goal.stat_need-returns-in-WithRecord
stat_need-returns-in-WithRecord t c =
    let x = c.in-WithRecord in
    let all = ap (λ l. max (place_need (seen_place x.place)) (stats_need (seen_stats l))) c.deref-in-WithRecord.ensures.value ∙ sym (ap stat_need (ap seen_stat x.is ∙ with_record_seen x.field-0 x.place x.body)) in
    subst (λ m. IfOk c.behind_need-in-WithRecord.result (λ n. n ≡ m)) all c.behind_need-in-WithRecord.ensures
