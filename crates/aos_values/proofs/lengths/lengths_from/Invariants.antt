use Rattle.std.proofs.Common.{◌≡◌, ◌++◌}
use Rattle.aos_symbols.specs.Env as env
use Rattle.aos_values.specs.Arrays as judge
use Rattle.aos_values.proofs.lengths.lengths_from.Given as goal

-- the lengths so far, and those of the dimensions that are left
abbrev pub invariant-loop-left : goal.invariant-loop-left
invariant-loop-left l =
    l.lengths.items ++ judge.lengths_from l.env.types l.left (env.row_of l.env l.of)
    ≡ judge.lengths_from l.env.types l.count (env.row_of l.env l.initial.of)

abbrev pub decreases-loop-left : goal.decreases-loop-left
decreases-loop-left l = l.left
