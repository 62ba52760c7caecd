-- The loop over parameters: those before stand in the copy.
use Rattle.std.proofs.Common.{◌≡◌, take}
use Rattle.aos_check_expr.proofs.signatures.copied.Given as goal

abbrev pub invariant-loop-parameter : goal.invariant-loop-parameter
invariant-loop-parameter l = l.parameters ≡ take l.parameter-index l.all
