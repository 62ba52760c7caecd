-- The loop over parameters: the formals are those of the walk so far.
use Rattle.std.proofs.Common.{◌≡◌, drop, fold, Some, []}
use Rattle.aos_made_types.specs.Formals.{with_formal}
use Rattle.aos_made_types.proofs.formals.known_formals.Given as goal

abbrev pub invariant-loop-parameter : goal.invariant-loop-parameter
invariant-loop-parameter l = fold with_formal l.formals (drop l.parameter-index l.parameters) ≡ fold with_formal (Some []) l.parameters
