use Rattle.std.proofs.Common.{◌≡◌}
use Rattle.aos_types.specs.Extension as extension
use Rattle.aos_types.proofs.extension.comes_to.Given as goal

abbrev pub invariant-loop-left : goal.invariant-loop-left
invariant-loop-left l = extension.comes_by l.left l.rows l.at l.to ≡ extension.comes_to l.rows l.fn.from l.to

abbrev pub decreases-loop-left : goal.decreases-loop-left
decreases-loop-left l = l.left
