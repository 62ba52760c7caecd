-- What the loops keep, and what falls in each call.
use Rattle.std.proofs.Common.{◌≡◌, ◌≤◌, ◌+◌, ◌*◌, ◌++◌, suc, drop}
use Rattle.aos_typed.specs.Program.{NoMore}
use Rattle.aos_typed.specs.Seen.{seen_place, seen_rows, seen_argument, seen_list, seen_callee, seen_expr, seen_program}
use Rattle.aos_dispatch.specs.Sizes.{place_size, rows_size, arguments_size, callee_size, value_size, front_size, rest_size}
use Rattle.aos_uses.specs.Prefixes.{front_uses, rest_uses}
use Rattle.aos_uses.specs.Uses.{arguments_uses}
use Rattle.aos_uses.proofs.exprs.+value_uses.Given as goal

-- the uses so far and those of what is left are those of all, and what is left is no more
abbrev pub invariant-front_uses-loop-rest : goal.invariant-front_uses-loop-rest
invariant-front_uses-loop-rest l =
    let p = seen_program l.dispatch in
    (l.uses.items ++ rest_uses p l.rest ≡ l.fn.uses.items ++ front_uses p l.fn.all) × (rest_size l.rest ≤ suc (front_size l.fn.all))

abbrev pub decreases-front_uses-loop-rest : goal.decreases-front_uses-loop-rest
decreases-front_uses-loop-rest l = rest_size l.rest

-- those of the arguments that are left
abbrev pub invariant-arguments_uses-loop-parameter : goal.invariant-arguments_uses-loop-parameter
invariant-arguments_uses-loop-parameter l =
    let p = seen_program l.dispatch in
    l.uses.items ++ arguments_uses p l.number l.parameter (seen_list (drop l.parameter l.arguments))
    ≡ l.fn.uses.items ++ arguments_uses p l.number 0 (seen_list l.arguments)

abbrev pub decreases-place_end : goal.decreases-place_end
decreases-place_end l = 16 * place_size (seen_place l.place.now)

abbrev pub decreases-rows_end : goal.decreases-rows_end
decreases-rows_end l = 16 * rows_size (seen_rows l.rows.now)

abbrev pub decreases-argument_uses : goal.decreases-argument_uses
decreases-argument_uses l = 16 * arguments_size (seen_argument l.argument.now NoMore) + 1

abbrev pub decreases-arguments_uses : goal.decreases-arguments_uses
decreases-arguments_uses l = 16 * arguments_size (seen_list l.arguments.now) + 2

abbrev pub decreases-call_end : goal.decreases-call_end
decreases-call_end l = 16 * (callee_size (seen_callee l.callee.now) + arguments_size (seen_list l.arguments.now)) + 3

abbrev pub decreases-texts_end : goal.decreases-texts_end
decreases-texts_end l = 16 * (rows_size (seen_rows l.left.now) + rows_size (seen_rows l.right.now)) + 9

abbrev pub decreases-both_end : goal.decreases-both_end
decreases-both_end l = 16 * (value_size (seen_expr l.left.now) + value_size (seen_expr l.right.now)) + 8

abbrev pub decreases-value_end : goal.decreases-value_end
decreases-value_end l = 16 * value_size (seen_expr l.value.now)

abbrev pub decreases-front_end : goal.decreases-front_end
decreases-front_end l = 16 * front_size l.front + 1

abbrev pub decreases-front_uses : goal.decreases-front_uses
decreases-front_uses l = 16 * front_size l.all + 6

abbrev pub decreases-value_uses : goal.decreases-value_uses
decreases-value_uses l = 16 * value_size (seen_expr l.value.now) + 7

abbrev pub decreases-place_uses : goal.decreases-place_uses
decreases-place_uses l = 16 * place_size (seen_place l.place.now) + 7

abbrev pub decreases-rows_uses : goal.decreases-rows_uses
decreases-rows_uses l = 16 * rows_size (seen_rows l.rows.now) + 7

abbrev pub decreases-array_read : goal.decreases-array_read
decreases-array_read l = 16 * rows_size (seen_rows l.rows.now) + 8
