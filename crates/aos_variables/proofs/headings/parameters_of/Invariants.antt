-- The loop over names, each with the parameter of the same number.
use Rattle.std.proofs.Common.{◌≡◌, ◌++◌, map, drop}
use Rattle.std.specs.List.{zip}
use Rattle.aos_typed.specs.Seen.{seen_parameter}
use Rattle.aos_variables.specs.Parts as judge
use Rattle.aos_variables.proofs.headings.parameters_of.Given as goal

abbrev pub invariant-loop-number : goal.invariant-loop-number
invariant-loop-number l =
    map seen_parameter l.all.items ++ map (judge.parameter_of l.text) (zip (drop l.number l.names) (drop l.number l.parameters))
    ≡ map (judge.parameter_of l.text) (zip l.names l.parameters)
