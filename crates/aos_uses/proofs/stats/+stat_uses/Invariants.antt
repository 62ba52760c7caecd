-- What the loops keep, and what falls in each call.
use Rattle.std.proofs.Common.{◌≡◌, ◌+◌, ◌*◌, ◌++◌, drop}
use Rattle.aos_typed.specs.Seen.{seen_stat, seen_stats, seen_else, seen_program, arms_of, cases_of}
use Rattle.aos_dispatch.proofs.Heights.{height, heights, arms_height, cases_height}
use Rattle.aos_uses.specs.Uses.{arms_uses, cases_uses, stats_uses}
use Rattle.aos_uses.proofs.stats.+stat_uses.Given as goal

-- the uses so far and those of the rest are those of all
abbrev pub invariant-stats_uses-loop-statement : goal.invariant-stats_uses-loop-statement
invariant-stats_uses-loop-statement l =
    let p = seen_program l.dispatch in
    l.uses.items ++ stats_uses p l.exclusive (seen_stats (drop l.statement-index l.statements))
    ≡ l.fn.uses.items ++ stats_uses p l.exclusive (seen_stats l.fn.statements)

abbrev pub invariant-arms_uses-loop-arm : goal.invariant-arms_uses-loop-arm
invariant-arms_uses-loop-arm l =
    let p = seen_program l.dispatch in
    l.uses.items ++ arms_uses p l.exclusive (arms_of (drop l.arm-index l.arms) (seen_stats l.otherwise))
    ≡ l.fn.uses.items ++ arms_uses p l.exclusive (arms_of l.fn.arms (seen_stats l.fn.otherwise))

abbrev pub invariant-cases_uses-loop-case : goal.invariant-cases_uses-loop-case
invariant-cases_uses-loop-case l =
    let p = seen_program l.dispatch in
    l.uses.items ++ cases_uses p l.exclusive (cases_of (drop l.case-index l.cases) (seen_else l.otherwise))
    ≡ l.fn.uses.items ++ cases_uses p l.exclusive (cases_of l.fn.cases (seen_else l.fn.otherwise))

abbrev pub decreases-arm_uses : goal.decreases-arm_uses
decreases-arm_uses l = 4 * heights (seen_stats l.body.now) + 2

abbrev pub decreases-stat_uses : goal.decreases-stat_uses
decreases-stat_uses l = 4 * height (seen_stat l.statement.now)

abbrev pub decreases-stats_uses : goal.decreases-stats_uses
decreases-stats_uses l = 4 * heights (seen_stats l.statements.now) + 1

abbrev pub decreases-arms_uses : goal.decreases-arms_uses
decreases-arms_uses l = 4 * arms_height (arms_of l.arms.now (seen_stats l.otherwise.now)) + 2

abbrev pub decreases-else_uses : goal.decreases-else_uses
decreases-else_uses l = 4 * cases_height (seen_else l.otherwise.now) + 2

abbrev pub decreases-cases_uses : goal.decreases-cases_uses
decreases-cases_uses l = 4 * cases_height (cases_of l.cases.now (seen_else l.otherwise.now)) + 3
