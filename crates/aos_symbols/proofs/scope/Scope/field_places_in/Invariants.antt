use Rattle.std.proofs.Common.{◌≡◌}
use Rattle.aos_symbols.specs.Scope as names
use Rattle.aos_symbols.proofs.Fields.{fields_before}
use Rattle.aos_symbols.proofs.scope.Scope.field_places_in.Given as goal

abbrev pub invariant-loop-place : goal.invariant-loop-place
invariant-loop-place l = l.places ≡ names.places_in l.all (fields_before l.self l.place)
