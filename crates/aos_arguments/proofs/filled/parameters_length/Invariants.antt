-- The loop over parameters: the longest so far.
use Rattle.std.proofs.Common.{◌≡◌, take}
use Rattle.aos_arguments.specs.Filled.{most, value_length}
use Rattle.aos_arguments.proofs.filled.parameters_length.Given as goal

abbrev pub invariant-loop-parameter : goal.invariant-loop-parameter
invariant-loop-parameter l = l.length ≡ most (value_length l.env) (take l.parameter-index l.parameters)
