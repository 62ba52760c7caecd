-- The loop over the parameters of one kind.
use Rattle.std.proofs.Common.{◌≡◌, ◌++◌}
use Rattle.std.proofs.Math.ListN.{replicate}
use Rattle.aos_made_types.proofs.formals.add_parameters.Given as goal

abbrev pub invariant-loop : goal.invariant-loop
invariant-loop l = l.parameters ≡ l.initial.parameters ++ replicate l.counter l.parameter
