-- The loop over formals: those before are parameters.
use Rattle.std.proofs.Common.{◌≡◌, map, take}
use Rattle.aos_values.specs.Signatures.{formal}
use Rattle.aos_values.proofs.signatures.formals_of.Given as goal

abbrev pub invariant-loop-formal : goal.invariant-loop-formal
invariant-loop-formal l = l.parameters ≡ map formal (take l.formal-index l.formals)
