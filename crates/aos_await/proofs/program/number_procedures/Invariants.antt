-- Those before a place have their numbers, and those from it on still get theirs.
use Rattle.std.proofs.Common.{◌≡◌, ◌+◌, map, sum_by}
use Rattle.aos_typed.specs.Seen.{seen_procedure}
use Rattle.aos_typed.specs.Conditions.{awaits, procedure_renumbered}
use Rattle.aos_await.specs.Counts.{each_from}
use Rattle.aos_await.proofs.Each.{left, counted}
use Rattle.aos_await.proofs.program.number_procedures.Given as goal

abbrev pub invariant-loop-place : goal.invariant-loop-place
invariant-loop-place l = record {
  numbers : left (λ q. awaits q.body) procedure_renumbered l.place l.next (map seen_procedure l.procedures) ≡ each_from (λ q. awaits q.body) procedure_renumbered l.fn.next (map seen_procedure l.fn.procedures);
  next : l.next + counted (λ q. awaits q.body) procedure_renumbered l.place (map seen_procedure l.procedures) ≡ l.fn.next + sum_by (λ q. awaits q.body) (map seen_procedure l.fn.procedures);
}
