use Rattle.std.proofs.Common.{◌≡◌, ◌≤◌, ◌+◌, ◌++◌, drop, length}
use Rattle.aos_sim.specs.Code.{unstash}
use Rattle.aos_emit_stat.proofs.objects.put_unstash.Given as goal

-- the code so far is that of the last ones
abbrev pub invariant-loop-left : goal.invariant-loop-left
invariant-loop-left l = (l.left ≤ length l.kinds) × (l.code.items ≡ l.fn.code.items ++ unstash (drop l.left l.kinds) (l.level + l.left))

abbrev pub decreases-loop-left : goal.decreases-loop-left
decreases-loop-left l = l.left
