use Rattle.std.proofs.Common.{◌≡◌, ◌≤◌, drop, length}
use Rattle.aos_typed.specs.Operands.{operands}
use Rattle.aos_typed.specs.Seen.{seen_list}
use Rattle.aos_dispatch.proofs.lengths.operands.Given as goal

-- those of the last arguments
abbrev pub invariant-loop-left : goal.invariant-loop-left
invariant-loop-left l = (l.left ≤ length l.arguments) × (l.count ≡ operands (seen_list (drop l.left l.arguments)))

abbrev pub decreases-loop-left : goal.decreases-loop-left
decreases-loop-left l = l.left
