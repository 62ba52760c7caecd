-- What the loops keep, and what falls in each call.
use Rattle.std.proofs.Common.{◌≡◌, ◌+◌, ◌*◌, ◌++◌, drop, map}
use Rattle.aos_typed.specs.Conditions.{awaited_in, awaited_in_arms, awaited_in_cases}
use Rattle.aos_typed.specs.Seen.{seen_stat, seen_stats, seen_else, arms_of, cases_of}
use Rattle.aos_dispatch.proofs.Heights.{height, heights, arms_height, cases_height}
use Rattle.aos_dispatch.specs.Awaits.{seen_await}
use Rattle.aos_dispatch.proofs.awaits.+stat_awaits.Given as goal

-- what is found so far and what the rest has are all
abbrev pub invariant-stats_awaits-loop-statement : goal.invariant-stats_awaits-loop-statement
invariant-stats_awaits-loop-statement l =
    map seen_await l.found.items ++ awaited_in (seen_stats (drop l.statement-index l.statements))
    ≡ map seen_await l.fn.found.items ++ awaited_in (seen_stats l.fn.statements)

abbrev pub invariant-arms_awaits-loop-arm : goal.invariant-arms_awaits-loop-arm
invariant-arms_awaits-loop-arm l =
    map seen_await l.found.items ++ awaited_in_arms (arms_of (drop l.arm-index l.arms) (seen_stats l.otherwise))
    ≡ map seen_await l.fn.found.items ++ awaited_in_arms (arms_of l.fn.arms (seen_stats l.fn.otherwise))

abbrev pub invariant-cases_awaits-loop-case : goal.invariant-cases_awaits-loop-case
invariant-cases_awaits-loop-case l =
    map seen_await l.found.items ++ awaited_in_cases (cases_of (drop l.case-index l.cases) (seen_else l.otherwise))
    ≡ map seen_await l.fn.found.items ++ awaited_in_cases (cases_of l.fn.cases (seen_else l.fn.otherwise))

abbrev pub decreases-stat_awaits : goal.decreases-stat_awaits
decreases-stat_awaits l = 4 * height (seen_stat l.statement.now)

abbrev pub decreases-stats_awaits : goal.decreases-stats_awaits
decreases-stats_awaits l = 4 * heights (seen_stats l.statements.now) + 1

abbrev pub decreases-arms_awaits : goal.decreases-arms_awaits
decreases-arms_awaits l = 4 * arms_height (arms_of l.arms.now (seen_stats l.otherwise.now)) + 2

abbrev pub decreases-else_awaits : goal.decreases-else_awaits
decreases-else_awaits l = 4 * cases_height (seen_else l.otherwise.now) + 2

abbrev pub decreases-cases_awaits : goal.decreases-cases_awaits
decreases-cases_awaits l = 4 * cases_height (cases_of l.cases.now (seen_else l.otherwise.now)) + 3
