use Rattle.std.proofs.Common.{◌≡◌, ◌-◌, ◌++◌}
use Rattle.aos_sim.specs.Code.{drops}
use Rattle.aos_emit_expr.proofs.emit.put_drops.Given as goal

-- the code so far, and what is left to take
abbrev pub invariant-loop-operand : goal.invariant-loop-operand
invariant-loop-operand l = l.code.items ++ drops (l.count - l._operand) ≡ l.fn.code.items ++ drops l.count
