-- The loop over rows: the longest so far.
use Rattle.std.proofs.Common.{◌≡◌, take}
use Rattle.aos_arguments.specs.Filled.{most, row_length}
use Rattle.aos_arguments.proofs.filled.rows_length.Given as goal

abbrev pub invariant-loop-number : goal.invariant-loop-number
invariant-loop-number l = l.length ≡ most (row_length l.env) (take l.number l.env.types)
