use Rattle.std.proofs.Common.{◌≡◌, ◌++◌, ◌+◌, ◌*◌, length, drop}
use Rattle.aos_typed.specs.Seen.{seen_stat, seen_stats, seen_else, arms_of, cases_of}
use Rattle.aos_sim.specs.Code.{stats_code, arms_code, cases_code}
use Rattle.aos_emit_expr.specs.Scope.{program_of, own_of}
use Rattle.aos_emit_stat.specs.Ways.{pending}
use Rattle.aos_emit_stat.specs.Places.{places_from}
use Rattle.aos_emit_expr.specs.Pending.{pending_end}
use Rattle.aos_dispatch.proofs.Heights.{height, heights, arms_height, cases_height}
use Rattle.aos_emit_stat.proofs.stats.+emit_stat.Given as goal

-- the code so far and that of the rest is that of all
abbrev pub invariant-emit_stats-loop-statement : goal.invariant-emit_stats-loop-statement
invariant-emit_stats-loop-statement l =
    l.code.items ++ stats_code (program_of l.scope) (own_of l.scope) (seen_stats (drop l.statement-index l.statements)) (length l.code.items) (pending l.scope) l.level ≡ l.fn.code.items ++ stats_code (program_of l.scope) (own_of l.scope) (seen_stats l.fn.statements) (length l.fn.code.items) (pending l.scope) l.fn.level

abbrev pub invariant-emit_arms-loop-arm : goal.invariant-emit_arms-loop-arm
invariant-emit_arms-loop-arm l =
    l.code.items ++ arms_code (program_of l.scope) (own_of l.scope) (arms_of (drop l.arm-index l.arms) (seen_stats l.otherwise)) (length l.code.items) pending_end (pending l.scope) l.level ≡ l.fn.code.items ++ arms_code (program_of l.scope) (own_of l.scope) (arms_of l.fn.arms (seen_stats l.fn.otherwise)) (length l.fn.code.items) pending_end (pending l.scope) l.fn.level

abbrev pub invariant-emit_choices-loop-case : goal.invariant-emit_choices-loop-case
invariant-emit_choices-loop-case l =
    (l.code.items ++ cases_code (program_of l.scope) (own_of l.scope) (cases_of (drop l.case-index l.cases) (seen_else l.otherwise)) (length l.code.items) pending_end (pending l.scope) l.level ≡ l.fn.code.items ++ cases_code (program_of l.scope) (own_of l.scope) (cases_of l.fn.cases (seen_else l.fn.otherwise)) (length l.fn.code.items) pending_end (pending l.scope) l.fn.level) × (l.places.items ++ places_from (program_of l.scope) (own_of l.scope) (cases_of (drop l.case-index l.cases) (seen_else l.otherwise)) (length l.code.items) (pending l.scope) l.level ≡ places_from (program_of l.scope) (own_of l.scope) (cases_of l.fn.cases (seen_else l.fn.otherwise)) (length l.fn.code.items) (pending l.scope) l.fn.level)

abbrev pub decreases-emit_stat : goal.decreases-emit_stat
decreases-emit_stat l = 5 * height (seen_stat l.statement.now)

abbrev pub decreases-emit_stats : goal.decreases-emit_stats
decreases-emit_stats l = 5 * heights (seen_stats l.statements.now) + 1

abbrev pub decreases-emit_arm : goal.decreases-emit_arm
decreases-emit_arm l = 5 * heights (seen_stats l.body.now) + 2

abbrev pub decreases-emit_while : goal.decreases-emit_while
decreases-emit_while l = 5 * heights (seen_stats l.body.now) + 3

abbrev pub decreases-emit_region : goal.decreases-emit_region
decreases-emit_region l = 5 * heights (seen_stats l.body.now) + 2

abbrev pub decreases-emit_block : goal.decreases-emit_block
decreases-emit_block l = 5 * heights (seen_stats l.body.now) + 3

abbrev pub decreases-emit_guarded : goal.decreases-emit_guarded
decreases-emit_guarded l = 5 * heights (seen_stats l.body.now) + 2

abbrev pub decreases-emit_repeat : goal.decreases-emit_repeat
decreases-emit_repeat l = 5 * heights (seen_stats l.body.now) + 2

abbrev pub decreases-emit_left : goal.decreases-emit_left
decreases-emit_left l = 5 * heights (seen_stats l.body.now) + 2

abbrev pub decreases-emit_loop : goal.decreases-emit_loop
decreases-emit_loop l = 5 * heights (seen_stats l.body.now) + 3

abbrev pub decreases-emit_rounds : goal.decreases-emit_rounds
decreases-emit_rounds l = 5 * heights (seen_stats l.body.now) + 2

abbrev pub decreases-emit_for : goal.decreases-emit_for
decreases-emit_for l = 5 * heights (seen_stats l.body.now) + 3

abbrev pub decreases-emit_arms : goal.decreases-emit_arms
decreases-emit_arms l = 5 * arms_height (arms_of l.arms.now (seen_stats l.otherwise.now)) + 3

abbrev pub decreases-emit_if : goal.decreases-emit_if
decreases-emit_if l = 5 * arms_height (arms_of l.arms.now (seen_stats l.otherwise.now)) + 4

abbrev pub decreases-emit_else : goal.decreases-emit_else
decreases-emit_else l = 5 * cases_height (seen_else l.otherwise.now)

abbrev pub decreases-emit_choices : goal.decreases-emit_choices
decreases-emit_choices l = 5 * cases_height (cases_of l.cases.now (seen_else l.otherwise.now)) + 1

abbrev pub decreases-emit_found : goal.decreases-emit_found
decreases-emit_found l = 5 * cases_height (cases_of l.cases.now (seen_else l.otherwise.now)) + 2

abbrev pub decreases-emit_case : goal.decreases-emit_case
decreases-emit_case l = 5 * cases_height (cases_of l.cases.now (seen_else l.otherwise.now)) + 3
