-- Those before a place have their numbers, and those from it on still get theirs.
use Rattle.std.proofs.Common.{◌≡◌, ◌+◌, map, sum_by}
use Rattle.aos_typed.specs.Seen.{seen_module}
use Rattle.aos_typed.specs.Conditions.{awaits}
use Rattle.aos_await.specs.Counts.{each_from, with_body}
use Rattle.aos_await.proofs.Each.{left, counted}
use Rattle.aos_await.proofs.program.number_modules.Given as goal

abbrev pub invariant-loop-place : goal.invariant-loop-place
invariant-loop-place l = record {
  numbers : left (λ x. awaits x.body) with_body l.place l.next (map seen_module l.modules) ≡ each_from (λ x. awaits x.body) with_body l.fn.next (map seen_module l.fn.modules);
  next : l.next + counted (λ x. awaits x.body) with_body l.place (map seen_module l.modules) ≡ l.fn.next + sum_by (λ x. awaits x.body) (map seen_module l.fn.modules);
}
