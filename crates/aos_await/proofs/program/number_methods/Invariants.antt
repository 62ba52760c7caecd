-- Those before a place have their numbers, and those from it on still get theirs.
use Rattle.std.proofs.Common.{◌≡◌, ◌+◌, map, sum_by}
use Rattle.aos_typed.specs.Seen.{seen_method}
use Rattle.aos_typed.specs.Conditions.{awaits}
use Rattle.aos_await.specs.Counts.{each_from}
use Rattle.aos_await.proofs.Each.{left, counted}
use Rattle.aos_await.proofs.Passes.{method_renumbered}
use Rattle.aos_await.proofs.program.number_methods.Given as goal

abbrev pub invariant-loop-place : goal.invariant-loop-place
invariant-loop-place l = record {
  numbers : left (λ m. awaits m.procedure.body) method_renumbered l.place l.next (map seen_method l.methods) ≡ each_from (λ m. awaits m.procedure.body) method_renumbered l.fn.next (map seen_method l.fn.methods);
  next : l.next + counted (λ m. awaits m.procedure.body) method_renumbered l.place (map seen_method l.methods) ≡ l.fn.next + sum_by (λ m. awaits m.procedure.body) (map seen_method l.fn.methods);
}
