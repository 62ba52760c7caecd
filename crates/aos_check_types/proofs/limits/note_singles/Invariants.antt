-- The loop over variables.
use Rattle.std.proofs.Common.{◌≡◌, [], drop}
use Rattle.std.specs.List.{zip}
use Rattle.aos_symbols.specs.Breaches.{first_after}
use Rattle.aos_check_types.specs.Limits.{variables_past}
use Rattle.aos_check_types.proofs.limits.note_singles.Given as goal

abbrev pub invariant-loop-single : goal.invariant-loop-single
invariant-loop-single l =
    first_after l.found (variables_past [] l.types l.sum (zip (drop l.single-index l.singles) (drop l.number l.scope.variables)))
    ≡ first_after l.initial.found (variables_past [] l.types l.before (zip l.singles l.scope.variables))
