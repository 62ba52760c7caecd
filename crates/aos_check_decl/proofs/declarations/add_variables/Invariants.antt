-- The loop over the variables of one declaration.
use Rattle.std.proofs.Common.{◌≡◌}
use Rattle.aos_check_decl.specs.Headings as judge
use Rattle.aos_check_decl.proofs.declarations.add_variables.Given as goal

abbrev pub invariant-loop : goal.invariant-loop
invariant-loop l = l.env ≡ judge.with_variables l.initial.env l.counter l.of
