use Rattle.std.proofs.Common.{◌≡◌, ◌+◌, ◌*◌, drop, max}
use Rattle.aos_typed.specs.Seen.{seen_stat, seen_stats, seen_else, arms_of, cases_of}
use Rattle.aos_sim.specs.Need.{stats_level, arms_level, cases_level}
use Rattle.aos_dispatch.proofs.Heights.{height, heights, arms_height, cases_height}
use Rattle.aos_image.proofs.level.+stat_level.Given as goal

-- what is kept so far and by the rest is what all keep
abbrev pub invariant-stats_level-loop-statement : goal.invariant-stats_level-loop-statement
invariant-stats_level-loop-statement l =
    max l.most (stats_level (seen_stats (drop l.statement-index l.statements)) l.around) ≡ stats_level (seen_stats l.fn.statements) l.fn.around

abbrev pub invariant-arms_level-loop-arm : goal.invariant-arms_level-loop-arm
invariant-arms_level-loop-arm l =
    max l.most (arms_level (arms_of (drop l.arm-index l.arms) (seen_stats l.otherwise)) l.around) ≡ arms_level (arms_of l.fn.arms (seen_stats l.fn.otherwise)) l.fn.around

abbrev pub invariant-cases_level-loop-case : goal.invariant-cases_level-loop-case
invariant-cases_level-loop-case l =
    max l.most (cases_level (cases_of (drop l.case-index l.cases) (seen_else l.otherwise)) l.around) ≡ cases_level (cases_of l.fn.cases (seen_else l.fn.otherwise)) l.fn.around

abbrev pub decreases-stat_level : goal.decreases-stat_level
decreases-stat_level l = 4 * height (seen_stat l.statement.now)

abbrev pub decreases-stats_level : goal.decreases-stats_level
decreases-stats_level l = 4 * heights (seen_stats l.statements.now) + 1

abbrev pub decreases-arms_level : goal.decreases-arms_level
decreases-arms_level l = 4 * arms_height (arms_of l.arms.now (seen_stats l.otherwise.now)) + 2

abbrev pub decreases-else_level : goal.decreases-else_level
decreases-else_level l = 4 * cases_height (seen_else l.otherwise.now) + 2

abbrev pub decreases-cases_level : goal.decreases-cases_level
decreases-cases_level l = 4 * cases_height (cases_of l.cases.now (seen_else l.otherwise.now)) + 3
