use Rattle.std.proofs.Common.{◌≡◌, ◌≤◌, drop, length}
use Rattle.std.specs.Prelude.{reverse}
use Rattle.aos_code.specs.Silent.{kinds_of}
use Rattle.aos_program_layout.proofs.parameters.kinds_taken.Given as goal

-- what is handed over for the last parameters
abbrev pub invariant-loop-left : goal.invariant-loop-left
invariant-loop-left l = (l.left ≤ length l.handed.items) × (l.kinds.items ≡ reverse (kinds_of (drop l.left l.handed.items)))

abbrev pub decreases-loop-left : goal.decreases-loop-left
decreases-loop-left l = l.left
