use Rattle.std.proofs.Common.{◌≡◌, ◌≤◌, ◌++◌, pos, drop, length, map}
use Rattle.std.specs.Prelude.{reverse}
use Rattle.aos_code.specs.declared.instr.Instr.TheVariants.{Num}
use Rattle.aos_emit_expr.proofs.emit.put_lengths.Given as goal

-- the lengths so far are the last ones
abbrev pub invariant-loop-left : goal.invariant-loop-left
invariant-loop-left l =
    (l.left ≤ length l.lengths) × (l.code.items ≡ l.fn.code.items ++ reverse (map (λ n. Num (pos n)) (drop l.left l.lengths)))

abbrev pub decreases-loop-left : goal.decreases-loop-left
decreases-loop-left l = l.left
