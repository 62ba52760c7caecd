use Rattle.std.proofs.Common.{◌++◌, refl, ap, ◌∙◌, rules}
use Rattle.std.specs.Prelude.{◌||◌}
use Rattle.std.proofs.lemmas.Result.{on_ok_weaker}
use Rattle.aos_typed.specs.Seen.{seen_expr, seen_place, seen_program, seen_stat, seen_stats, seen_else, arms_of, cases_of}
use Rattle.aos_typed.proofs.Seen.{if_seen, case_seen, while_seen, repeat_seen, loop_seen, for_seen, block_seen, with_seen, with_record_seen}
use Rattle.aos_uses.proofs.Said.{said, said_behind}
use Rattle.aos_dispatch.proofs.Heights.{within, arms_within, cases_within}
use Rattle.aos_uses.specs.Uses.{arms_uses, cases_uses, expr_uses, place_uses, stats_uses, written}
use Rattle.aos_uses.proofs.stats.+stat_uses.Goals as goal

pub stat_uses-arms_uses-requires : goal.stat_uses-arms_uses-requires
stat_uses-arms_uses-requires t c =
    let x = c.in-If in
    let less = arms_within _ _ _ _ _ _ (ap seen_stat x.is ∙ if_seen x.field-0 x.arms x.otherwise) c.deref.ensures.value c.deref-in-If.ensures.value in
    search (rules, less)

pub stat_uses-cases_uses-requires : goal.stat_uses-cases_uses-requires
stat_uses-cases_uses-requires t c =
    let x = c.in-Case in
    let less = cases_within _ _ _ _ _ _ (ap seen_stat x.is ∙ case_seen x.field-0 x.selector x.cases x.otherwise) c.deref-in-Case.ensures.value in
    search (rules, less)

pub stat_uses-arm_uses-requires : goal.stat_uses-arm_uses-requires
stat_uses-arm_uses-requires t c =
    let x = c.in-While in
    let less = within _ _ _ _ (ap seen_stat x.is ∙ while_seen x.field-0 x.condition x.body) refl c.deref-in-While.ensures.value in
    search (rules, less)

pub stat_uses-arm_uses-requires-in-Repeat : goal.stat_uses-arm_uses-requires-in-Repeat
stat_uses-arm_uses-requires-in-Repeat t c =
    let x = c.in-Repeat in
    let less = within _ _ _ _ (ap seen_stat x.is ∙ repeat_seen x.field-0 x.body x.condition) refl c.deref-in-Repeat.ensures.value in
    search (rules, less)

pub stat_uses-stats_uses-requires : goal.stat_uses-stats_uses-requires
stat_uses-stats_uses-requires t c =
    let x = c.in-Loop in
    let less = within _ _ _ _ (ap seen_stat x.is ∙ loop_seen x.field-0 x.body) refl c.deref-in-Loop.ensures.value in
    search (rules, less)

pub stat_uses-stats_uses-requires-in-For : goal.stat_uses-stats_uses-requires-in-For
stat_uses-stats_uses-requires-in-For t c =
    let x = c.in-For in
    let less = within _ _ _ _ (ap seen_stat x.is ∙ for_seen x.field-0 x.field-1 x.place x.from x.to x.field-5 x.body) refl c.deref-in-For.ensures.value in
    search (rules, less)

pub stat_uses-stats_uses-requires-in-Block : goal.stat_uses-stats_uses-requires-in-Block
stat_uses-stats_uses-requires-in-Block t c =
    let x = c.in-Block in
    let less = within _ _ _ _ (ap seen_stat x.is ∙ block_seen x.field-0 x.region x.body) refl c.deref-in-Block.ensures.value in
    search (rules, less)

pub stat_uses-arm_uses-requires-in-With : goal.stat_uses-arm_uses-requires-in-With
stat_uses-arm_uses-requires-in-With t c =
    let x = c.in-With in
    let less = within _ _ _ _ (ap seen_stat x.is ∙ with_seen x.field-0 x.object x.body) refl c.deref-in-With.ensures.value in
    search (rules, less)

pub stat_uses-stats_uses-requires-in-WithRecord : goal.stat_uses-stats_uses-requires-in-WithRecord
stat_uses-stats_uses-requires-in-WithRecord t c =
    let x = c.in-WithRecord in
    let less = within _ _ _ _ (ap seen_stat x.is ∙ with_record_seen x.field-0 x.place x.body) refl c.deref-in-WithRecord.ensures.value in
    search (rules, less)

pub stat_uses-returns-in-If : goal.stat_uses-returns-in-If
stat_uses-returns-in-If t c =
    let x = c.in-If in
    let p = seen_program c.args.dispatch.now in
    let e = c.args.exclusive in
    let all = ap (λ l. arms_uses p e (arms_of l (seen_stats c.deref-in-If.result.now))) c.deref.ensures.value ∙ ap (λ l. arms_uses p e (arms_of x.arms.items (seen_stats l))) c.deref-in-If.ensures.value in
    on_ok_weaker c.arms_uses.result (said p c.args.exclusive c.args.uses.now.items _ _ _ _ all (ap seen_stat x.is ∙ if_seen x.field-0 x.arms x.otherwise)) c.arms_uses.ensures

pub stat_uses-returns-in_ok-value_uses-in-Case : goal.stat_uses-returns-in_ok-value_uses-in-Case
stat_uses-returns-in_ok-value_uses-in-Case t c =
    let x = c.in-Case in
    let p = seen_program c.args.dispatch.now in
    let first = expr_uses p (seen_expr x.selector) in
    let all = ap (λ l. first ++ cases_uses p c.args.exclusive (cases_of l (seen_else x.otherwise))) c.deref-in-Case.ensures.value in
    on_ok_weaker c.cases_uses.result (said_behind p c.args.exclusive c.args.uses.now.items _ _ first _ _ _ c.in_ok-value_uses-in-Case.ensures all (ap seen_stat x.is ∙ case_seen x.field-0 x.selector x.cases x.otherwise)) c.cases_uses.ensures

pub stat_uses-returns-in-While : goal.stat_uses-returns-in-While
stat_uses-returns-in-While t c =
    let x = c.in-While in
    let p = seen_program c.args.dispatch.now in
    let all = ap (λ l. expr_uses p (seen_expr x.condition) ++ stats_uses p c.args.exclusive (seen_stats l)) c.deref-in-While.ensures.value in
    on_ok_weaker c.arm_uses.result (said p c.args.exclusive c.args.uses.now.items _ _ _ _ all (ap seen_stat x.is ∙ while_seen x.field-0 x.condition x.body)) c.arm_uses.ensures

pub stat_uses-returns-in-Repeat : goal.stat_uses-returns-in-Repeat
stat_uses-returns-in-Repeat t c =
    let x = c.in-Repeat in
    let p = seen_program c.args.dispatch.now in
    let all = ap (λ l. expr_uses p (seen_expr x.condition) ++ stats_uses p c.args.exclusive (seen_stats l)) c.deref-in-Repeat.ensures.value in
    on_ok_weaker c.arm_uses-in-Repeat.result (said p c.args.exclusive c.args.uses.now.items _ _ _ _ all (ap seen_stat x.is ∙ repeat_seen x.field-0 x.body x.condition)) c.arm_uses-in-Repeat.ensures

pub stat_uses-returns-in-Loop : goal.stat_uses-returns-in-Loop
stat_uses-returns-in-Loop t c =
    let x = c.in-Loop in
    let p = seen_program c.args.dispatch.now in
    let all = ap (λ l. stats_uses p c.args.exclusive (seen_stats l)) c.deref-in-Loop.ensures.value in
    on_ok_weaker c.stats_uses.result (said p c.args.exclusive c.args.uses.now.items _ _ _ _ all (ap seen_stat x.is ∙ loop_seen x.field-0 x.body)) c.stats_uses.ensures

pub stat_uses-returns-in-Block : goal.stat_uses-returns-in-Block
stat_uses-returns-in-Block t c =
    let x = c.in-Block in
    let p = seen_program c.args.dispatch.now in
    let all = ap (λ b. stats_uses p b (seen_stats c.deref-in-Block.result.now)) c.either.ensures ∙ ap (λ l. stats_uses p (x.region || c.args.exclusive) (seen_stats l)) c.deref-in-Block.ensures.value in
    on_ok_weaker c.stats_uses-in-Block.result (said p c.args.exclusive c.args.uses.now.items _ _ _ _ all (ap seen_stat x.is ∙ block_seen x.field-0 x.region x.body)) c.stats_uses-in-Block.ensures

pub stat_uses-returns-in-With : goal.stat_uses-returns-in-With
stat_uses-returns-in-With t c =
    let x = c.in-With in
    let p = seen_program c.args.dispatch.now in
    let all = ap (λ l. expr_uses p (seen_expr x.object) ++ stats_uses p c.args.exclusive (seen_stats l)) c.deref-in-With.ensures.value in
    on_ok_weaker c.arm_uses-in-With.result (said p c.args.exclusive c.args.uses.now.items _ _ _ _ all (ap seen_stat x.is ∙ with_seen x.field-0 x.object x.body)) c.arm_uses-in-With.ensures

pub stat_uses-returns-in_ok-for_uses-in-For : goal.stat_uses-returns-in_ok-for_uses-in-For
stat_uses-returns-in_ok-for_uses-in-For t c =
    let x = c.in-For in
    let p = seen_program c.args.dispatch.now in
    let first = written p c.args.exclusive (seen_place x.place) ++ (expr_uses p (seen_expr x.from.value) ++ expr_uses p (seen_expr x.to.value)) in
    let all = ap (λ l. first ++ stats_uses p c.args.exclusive (seen_stats l)) c.deref-in-For.ensures.value in
    on_ok_weaker c.stats_uses-in-For.result (said_behind p c.args.exclusive c.args.uses.now.items _ _ first _ _ _ c.in_ok-for_uses-in-For.ensures all (ap seen_stat x.is ∙ for_seen x.field-0 x.field-1 x.place x.from x.to x.field-5 x.body)) c.stats_uses-in-For.ensures

pub stat_uses-returns-in_ok-place_uses-in-WithRecord : goal.stat_uses-returns-in_ok-place_uses-in-WithRecord
stat_uses-returns-in_ok-place_uses-in-WithRecord t c =
    let x = c.in-WithRecord in
    let p = seen_program c.args.dispatch.now in
    let first = place_uses p (seen_place x.place) in
    let all = ap (λ l. first ++ stats_uses p c.args.exclusive (seen_stats l)) c.deref-in-WithRecord.ensures.value in
    on_ok_weaker c.stats_uses-in-WithRecord.result (said_behind p c.args.exclusive c.args.uses.now.items _ _ first _ _ _ c.in_ok-place_uses-in-WithRecord.ensures all (ap seen_stat x.is ∙ with_record_seen x.field-0 x.place x.body)) c.stats_uses-in-WithRecord.ensures
