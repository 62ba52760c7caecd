-- Those before a place have their numbers, and those from it on still get theirs.
use Rattle.std.proofs.Common.{◌≡◌, ◌+◌, map, sum_by}
use Rattle.aos_typed.specs.Seen.{seen_object}
use Rattle.aos_typed.specs.Conditions.{awaits}
use Rattle.aos_await.specs.Counts.{each_from, with_object_body}
use Rattle.aos_await.proofs.Each.{left, counted}
use Rattle.aos_await.proofs.program.number_objects.Given as goal

abbrev pub invariant-loop-place : goal.invariant-loop-place
invariant-loop-place l = record {
  numbers : left (λ o. awaits o.body.body) with_object_body l.place l.next (map seen_object l.objects) ≡ each_from (λ o. awaits o.body.body) with_object_body l.fn.next (map seen_object l.fn.objects);
  next : l.next + counted (λ o. awaits o.body.body) with_object_body l.place (map seen_object l.objects) ≡ l.fn.next + sum_by (λ o. awaits o.body.body) (map seen_object l.fn.objects);
}
