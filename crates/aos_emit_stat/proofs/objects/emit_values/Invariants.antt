use Rattle.std.proofs.Common.{◌≡◌, ◌++◌, length, map, drop}
use Rattle.aos_typed.specs.Seen.{seen_expr}
use Rattle.aos_sim.specs.Code.{values_code}
use Rattle.aos_emit_expr.specs.Scope.{program_of, own_of}
use Rattle.aos_emit_stat.proofs.objects.emit_values.Given as goal

-- the code so far and that of the rest is that of all
abbrev pub invariant-loop-number : goal.invariant-loop-number
invariant-loop-number l =
    l.code.items ++ values_code (program_of l.scope) (own_of l.scope) (map seen_expr (drop l.number l.values)) (length l.code.items) ≡ l.fn.code.items ++ values_code (program_of l.scope) (own_of l.scope) (map seen_expr l.fn.values) (length l.fn.code.items)
