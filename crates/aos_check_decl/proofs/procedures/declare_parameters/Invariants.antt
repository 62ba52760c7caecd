-- The loop over parameters.
use Rattle.std.proofs.Common.{◌≡◌, drop}
use Rattle.aos_check_decl.specs.Headings.{with_parameters}
use Rattle.aos_check_decl.proofs.procedures.declare_parameters.Given as goal

abbrev pub invariant-loop-parameter : goal.invariant-loop-parameter
invariant-loop-parameter l =
    with_parameters l.env (drop l.parameter-index l.parameters) ≡ with_parameters l.initial.env l.parameters
