use Rattle.std.proofs.Common.{◌≡◌, ◌++◌, drop, map}
use Rattle.aos_typed.specs.Seen.{seen_variable}
use Rattle.aos_listing.specs.Listing.{part_lines, variable_part}
use Rattle.aos_listing.specs.Seen.{seen_lines}
use Rattle.aos_listing.proofs.lines.put_variables.Given as goal

-- with the lines of the variables that are left, all are there
abbrev pub invariant-loop-variable : goal.invariant-loop-variable
invariant-loop-variable l =
    seen_lines l.lines.items ++ part_lines 1 l.at (map (variable_part l.types) (map seen_variable (drop l.variable-index l.variables)))
    ≡ seen_lines l.fn.lines.items ++ part_lines 1 0 (map (variable_part l.types) (map seen_variable l.variables))
