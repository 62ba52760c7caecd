use Rattle.std.proofs.Common.{◌≡◌, ◌+◌, ◌*◌, drop, max}
use Rattle.aos_typed.specs.Seen.{seen_stat, seen_stats, seen_else, arms_of, cases_of}
use Rattle.aos_sim.specs.Need.{stats_need, arms_need, cases_need}
use Rattle.aos_dispatch.proofs.Heights.{height, heights, arms_height, cases_height}
use Rattle.aos_need.proofs.need.+stat_need.Given as goal

-- the need so far and that of the rest is that of all
abbrev pub invariant-stats_need-loop-statement : goal.invariant-stats_need-loop-statement
invariant-stats_need-loop-statement l =
    max l.need (stats_need (seen_stats (drop l.statement-index l.statements))) ≡ stats_need (seen_stats l.fn.statements)

abbrev pub invariant-arms_need-loop-arm : goal.invariant-arms_need-loop-arm
invariant-arms_need-loop-arm l =
    max l.need (arms_need (arms_of (drop l.arm-index l.arms) (seen_stats l.otherwise))) ≡ arms_need (arms_of l.fn.arms (seen_stats l.fn.otherwise))

abbrev pub invariant-cases_need-loop-case : goal.invariant-cases_need-loop-case
invariant-cases_need-loop-case l =
    max l.need (cases_need (cases_of (drop l.case-index l.cases) (seen_else l.otherwise))) ≡ cases_need (cases_of l.fn.cases (seen_else l.fn.otherwise))

abbrev pub decreases-stat_need : goal.decreases-stat_need
decreases-stat_need l = 5 * height (seen_stat l.statement.now)

abbrev pub decreases-stats_need : goal.decreases-stats_need
decreases-stats_need l = 5 * heights (seen_stats l.statements.now) + 1

abbrev pub decreases-behind_need : goal.decreases-behind_need
decreases-behind_need l = 5 * heights (seen_stats l.body.now) + 2

abbrev pub decreases-rounds_need : goal.decreases-rounds_need
decreases-rounds_need l = 5 * heights (seen_stats l.body.now) + 2

abbrev pub decreases-arms_need : goal.decreases-arms_need
decreases-arms_need l = 5 * arms_height (arms_of l.arms.now (seen_stats l.otherwise.now)) + 2

abbrev pub decreases-else_need : goal.decreases-else_need
decreases-else_need l = 5 * cases_height (seen_else l.otherwise.now) + 2

abbrev pub decreases-cases_need : goal.decreases-cases_need
decreases-cases_need l = 5 * cases_height (cases_of l.cases.now (seen_else l.otherwise.now)) + 3

abbrev pub decreases-case_need : goal.decreases-case_need
decreases-case_need l = 5 * cases_height (cases_of l.cases.now (seen_else l.otherwise.now)) + 4
