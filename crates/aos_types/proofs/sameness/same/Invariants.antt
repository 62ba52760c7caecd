use Rattle.std.proofs.Common.{◌≡◌}
use Rattle.aos_types.specs.Sameness as sameness
use Rattle.aos_types.proofs.sameness.same.Given as goal

abbrev pub invariant-loop-left : goal.invariant-loop-left
invariant-loop-left l = sameness.same_by l.left l.rows l.a l.b ≡ sameness.same l.rows l.fn.a l.fn.b

abbrev pub decreases-loop-left : goal.decreases-loop-left
decreases-loop-left l = l.left
