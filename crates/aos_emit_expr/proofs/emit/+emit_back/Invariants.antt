use Rattle.std.proofs.Common.{◌≡◌, ◌≤◌, ◌*◌, ◌+◌, suc, drop, length}
use Rattle.aos_typed.specs.Program.{NoMore}
use Rattle.aos_typed.specs.Seen.{seen_argument, seen_list, seen_expr}
use Rattle.aos_emit_expr.specs.Scope.{program_of, own_of}
use Rattle.aos_emit_expr.specs.Back.{back_arguments, back_source, back_first}
use Rattle.aos_dispatch.specs.Sizes.{arguments_size, value_size}
use Rattle.aos_emit_expr.specs.Sizes.{source_size, first_size, form_size}
use Rattle.aos_emit_expr.proofs.emit.+emit_back.Given as goal

-- the code of what is left behind the code so far is that of all, and what is left is no more
abbrev pub invariant-emit_back-loop-rest : goal.invariant-emit_back-loop-rest
invariant-emit_back-loop-rest l =
    (back_first (program_of l.scope) (own_of l.scope) l.rest l.code.items ≡ back_source (program_of l.scope) (own_of l.scope) l.fn.all l.fn.code.items) × (first_size l.rest ≤ suc (source_size l.fn.all))

abbrev pub decreases-emit_back-loop-rest : goal.decreases-emit_back-loop-rest
decreases-emit_back-loop-rest l = first_size l.rest

-- the code of the arguments so far, which are the last ones
abbrev pub invariant-emit_arguments_back-loop-left : goal.invariant-emit_arguments_back-loop-left
invariant-emit_arguments_back-loop-left l =
    (l.left ≤ length l.arguments) × (l.code.items ≡ back_arguments (program_of l.scope) (own_of l.scope) (seen_list (drop l.left l.arguments)) l.fn.code.items)

abbrev pub decreases-emit_arguments_back-loop-left : goal.decreases-emit_arguments_back-loop-left
decreases-emit_arguments_back-loop-left l = l.left

abbrev pub decreases-emit_argument_back : goal.decreases-emit_argument_back
decreases-emit_argument_back l = 16 * arguments_size (seen_argument l.argument.now NoMore) + 1

abbrev pub decreases-emit_arguments_back : goal.decreases-emit_arguments_back
decreases-emit_arguments_back l = 16 * arguments_size (seen_list l.arguments.now) + 2

abbrev pub decreases-emit_and_back : goal.decreases-emit_and_back
decreases-emit_and_back l = 16 * value_size (seen_expr l.second.now) + 7

abbrev pub decreases-emit_or_back : goal.decreases-emit_or_back
decreases-emit_or_back l = 16 * value_size (seen_expr l.second.now) + 7

abbrev pub decreases-emit_last : goal.decreases-emit_last
decreases-emit_last l = 16 * form_size l.form + 5

abbrev pub decreases-emit_back : goal.decreases-emit_back
decreases-emit_back l = 16 * source_size l.all + 6
