use Rattle.std.proofs.Common.{◌≡◌}
use Rattle.aos_arguments.specs.Arguments as judge
use Rattle.aos_arguments.proofs.arguments.behind_dimensions.Given as goal

-- what is behind the dimensions that are left is behind all of them
abbrev pub invariant-loop-left : goal.invariant-loop-left
invariant-loop-left l = judge.behind_dimensions l.env.types l.left l.of ≡ judge.behind_dimensions l.env.types l.count l.initial.of

abbrev pub decreases-loop-left : goal.decreases-loop-left
decreases-loop-left l = l.left
