-- Those before a place have their numbers, and those from it on still get theirs.
use Rattle.std.proofs.Common.{◌≡◌, ◌+◌, map, sum_by}
use Rattle.aos_typed.specs.Seen.{seen_module}
use Rattle.aos_typed.specs.Conditions.{awaits_in_procedures}
use Rattle.aos_await.specs.Counts.{each_from, with_procedures}
use Rattle.aos_await.proofs.Each.{left, counted}
use Rattle.aos_await.proofs.program.number_all_procedures.Given as goal

abbrev pub invariant-loop-place : goal.invariant-loop-place
invariant-loop-place l = record {
  numbers : left awaits_in_procedures with_procedures l.place l.next (map seen_module l.modules) ≡ each_from awaits_in_procedures with_procedures l.fn.next (map seen_module l.fn.modules);
  next : l.next + counted awaits_in_procedures with_procedures l.place (map seen_module l.modules) ≡ l.fn.next + sum_by awaits_in_procedures (map seen_module l.fn.modules);
}
