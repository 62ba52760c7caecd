use Rattle.std.proofs.Common.{◌≡◌, ◌≤◌, ◌+◌, ◌*◌, suc, drop, length, max}
use Rattle.aos_typed.specs.Program.{NoMore}
use Rattle.aos_typed.specs.Seen.{seen_place, seen_rows, seen_argument, seen_list, seen_callee, seen_expr}
use Rattle.aos_sim.specs.Need.{arguments_need}
use Rattle.aos_dispatch.specs.Sizes.{place_size, rows_size, arguments_size, callee_size, value_size, front_size, rest_size}
use Rattle.aos_need.specs.Prefixes.{front_need, rest_need}
use Rattle.aos_need.proofs.need.+value_need.Given as goal

-- the need so far and that of what is left is that of all, and what is left is no more
abbrev pub invariant-front_need-loop-rest : goal.invariant-front_need-loop-rest
invariant-front_need-loop-rest l = (max l.need (rest_need l.rest) ≡ front_need l.fn.all) × (rest_size l.rest ≤ suc (front_size l.fn.all))

abbrev pub decreases-front_need-loop-rest : goal.decreases-front_need-loop-rest
decreases-front_need-loop-rest l = rest_size l.rest

-- that of the last arguments
abbrev pub invariant-arguments_need-loop-left : goal.invariant-arguments_need-loop-left
invariant-arguments_need-loop-left l =
    (l.left ≤ length l.arguments) × (l.need ≡ arguments_need (seen_list (drop l.left l.arguments)))

abbrev pub decreases-arguments_need-loop-left : goal.decreases-arguments_need-loop-left
decreases-arguments_need-loop-left l = l.left

abbrev pub decreases-place_end : goal.decreases-place_end
decreases-place_end l = 16 * place_size (seen_place l.place.now)

abbrev pub decreases-rows_end : goal.decreases-rows_end
decreases-rows_end l = 16 * rows_size (seen_rows l.rows.now)

abbrev pub decreases-argument_need : goal.decreases-argument_need
decreases-argument_need l = 16 * arguments_size (seen_argument l.argument.now NoMore) + 1

abbrev pub decreases-arguments_need : goal.decreases-arguments_need
decreases-arguments_need l = 16 * arguments_size (seen_list l.arguments.now) + 2

abbrev pub decreases-call_end : goal.decreases-call_end
decreases-call_end l = 16 * (callee_size (seen_callee l.callee.now) + arguments_size (seen_list l.arguments.now)) + 3

abbrev pub decreases-both_end : goal.decreases-both_end
decreases-both_end l = 16 * (front_size l.first + front_size l.second) + 8

abbrev pub decreases-value_end : goal.decreases-value_end
decreases-value_end l = 16 * value_size (seen_expr l.value.now)

abbrev pub decreases-front_end : goal.decreases-front_end
decreases-front_end l = 16 * front_size l.front + 4

abbrev pub decreases-front_need : goal.decreases-front_need
decreases-front_need l = 16 * front_size l.all + 6
