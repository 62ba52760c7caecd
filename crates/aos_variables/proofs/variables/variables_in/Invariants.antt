-- The loop over variables, each with the type that stands at its number.
use Rattle.std.proofs.Common.{◌≡◌, ◌++◌, map, drop}
use Rattle.std.specs.List.{zip}
use Rattle.aos_typed.specs.Seen.{seen_variable}
use Rattle.aos_variables.specs.Parts as judge
use Rattle.aos_variables.proofs.variables.variables_in.Given as goal

abbrev pub invariant-loop-def : goal.invariant-loop-def
invariant-loop-def l =
    map seen_variable l.all.items ++ map (judge.variable_of l.text) (zip (drop l.def-index l.defs) (drop l.number l.scope.variables))
    ≡ map (judge.variable_of l.text) (zip l.defs (drop l.first l.scope.variables))
