use Rattle.std.proofs.Common.{◌≡◌, ◌≤◌, ◌-◌, ◌++◌, suc}
use Rattle.std.specs.Prelude.{reverse}
use Rattle.aos_sim.specs.Code.{lengths_code}
use Rattle.aos_emit_expr.proofs.emit.put_opened.Given as goal

-- the code so far, and the lengths that are left
abbrev pub invariant-loop-next : goal.invariant-loop-next
invariant-loop-next l =
    (l.cell ≤ l.next) × (l.code.items ++ reverse (lengths_code (suc l.cell) (l.next - l.cell)) ≡ l.fn.code.items ++ reverse (lengths_code (suc l.cell) l.count))

abbrev pub decreases-loop-next : goal.decreases-loop-next
decreases-loop-next l = l.next - l.cell
