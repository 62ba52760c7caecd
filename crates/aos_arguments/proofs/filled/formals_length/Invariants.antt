-- The loop over formals: the longest so far.
use Rattle.std.proofs.Common.{◌≡◌, take}
use Rattle.aos_arguments.specs.Filled.{most, formal_length}
use Rattle.aos_arguments.proofs.filled.formals_length.Given as goal

abbrev pub invariant-loop-formal : goal.invariant-loop-formal
invariant-loop-formal l = l.length ≡ most (formal_length l.env) (take l.formal-index l.formals)
