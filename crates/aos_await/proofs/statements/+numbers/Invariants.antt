-- Those before a place have their numbers, and those from it on still get theirs.
use Rattle.std.proofs.Common.{◌≡◌, ◌+◌, ◌*◌, map, sum_by}
use Rattle.aos_typed.specs.Seen.{seen_stat}
use Rattle.aos_typed.specs.Conditions.{renumbered}
use Rattle.aos_await.specs.Counts.{each_from, seen_arm, seen_case, awaits_behind, renumbered_behind}
use Rattle.aos_await.proofs.Each.{left, counted}
use Rattle.aos_await.proofs.Passes.{count}
use Rattle.aos_await.proofs.statements.+numbers.Given as goal

abbrev pub invariant-number_stats-loop-place : goal.invariant-number_stats-loop-place
invariant-number_stats-loop-place l = record {
  unvisited : goal.unvisited-number_stats-loop-place l;
  numbers : left count renumbered l.place l.next (map seen_stat l.stats) ≡ each_from count renumbered l.initial.next (map seen_stat l.initial.stats);
  next : l.next + counted count renumbered l.place (map seen_stat l.stats) ≡ l.initial.next + sum_by count (map seen_stat l.initial.stats);
}

abbrev pub invariant-number_arms-loop-place : goal.invariant-number_arms-loop-place
invariant-number_arms-loop-place l = record {
  unvisited : goal.unvisited-number_arms-loop-place l;
  numbers : left awaits_behind renumbered_behind l.place l.next (map seen_arm l.arms) ≡ each_from awaits_behind renumbered_behind l.initial.next (map seen_arm l.initial.arms);
  next : l.next + counted awaits_behind renumbered_behind l.place (map seen_arm l.arms) ≡ l.initial.next + sum_by awaits_behind (map seen_arm l.initial.arms);
}

abbrev pub invariant-number_cases-loop-place : goal.invariant-number_cases-loop-place
invariant-number_cases-loop-place l = record {
  unvisited : goal.unvisited-number_cases-loop-place l;
  numbers : left awaits_behind renumbered_behind l.place l.next (map seen_case l.cases) ≡ each_from awaits_behind renumbered_behind l.initial.next (map seen_case l.initial.cases);
  next : l.next + counted awaits_behind renumbered_behind l.place (map seen_case l.cases) ≡ l.initial.next + sum_by awaits_behind (map seen_case l.initial.cases);
}

-- What is passed on is below what held it; or it is the same, and the callee comes before the caller.
abbrev pub decreases-number_stat : goal.decreases-number_stat
decreases-number_stat l = 8 * goal.size-number_stat l

abbrev pub decreases-number_stats : goal.decreases-number_stats
decreases-number_stats l = 8 * goal.size-number_stats l + 2

abbrev pub decreases-number_arms : goal.decreases-number_arms
decreases-number_arms l = 8 * goal.size-number_arms l + 1

abbrev pub decreases-number_cases : goal.decreases-number_cases
decreases-number_cases l = 8 * goal.size-number_cases l + 1

abbrev pub decreases-number_else : goal.decreases-number_else
decreases-number_else l = 8 * goal.size-number_else l

abbrev pub decreases-number_body : goal.decreases-number_body
decreases-number_body l = 8 * goal.size-number_body l + 3
