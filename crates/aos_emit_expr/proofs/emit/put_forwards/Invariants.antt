use Rattle.std.proofs.Common.{◌≡◌, ◌+◌, ◌++◌, length, vec_len}
use Rattle.aos_emit_expr.specs.Forwards.{forwards}
use Rattle.aos_emit_expr.proofs.emit.put_forwards.Given as goal

-- the code so far, and what is left from its end
abbrev pub invariant-loop-instr : goal.invariant-loop-instr
invariant-loop-instr l = l.code.items ++ forwards l.end l.back.items ≡ l.fn.code.items ++ forwards (length l.fn.code.items + length l.fn.back.items) l.fn.back.items

abbrev pub decreases-loop-instr : goal.decreases-loop-instr
decreases-loop-instr l = vec_len l.back
