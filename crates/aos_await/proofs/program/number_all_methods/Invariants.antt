-- Those before a place have their numbers, and those from it on still get theirs.
use Rattle.std.proofs.Common.{◌≡◌, ◌+◌, map, sum_by}
use Rattle.aos_typed.specs.Seen.{seen_object}
use Rattle.aos_typed.specs.Conditions.{awaits_in_methods}
use Rattle.aos_await.specs.Counts.{each_from, with_methods}
use Rattle.aos_await.proofs.Each.{left, counted}
use Rattle.aos_await.proofs.program.number_all_methods.Given as goal

abbrev pub invariant-loop-place : goal.invariant-loop-place
invariant-loop-place l = record {
  numbers : left awaits_in_methods with_methods l.place l.next (map seen_object l.objects) ≡ each_from awaits_in_methods with_methods l.fn.next (map seen_object l.fn.objects);
  next : l.next + counted awaits_in_methods with_methods l.place (map seen_object l.objects) ≡ l.fn.next + sum_by awaits_in_methods (map seen_object l.fn.objects);
}
