-- The loop over types.
use Rattle.std.proofs.Common.{◌≡◌, drop}
use Rattle.aos_symbols.specs.Breaches.{first_after}
use Rattle.aos_check_types.specs.Limits.{types_from}
use Rattle.aos_check_types.proofs.limits.note_types.Given as goal

abbrev pub invariant-loop-place : goal.invariant-loop-place
invariant-loop-place l =
    first_after l.found (types_from l.flags l.types l.number (drop l.place-index l.written)) ≡ first_after l.initial.found (types_from l.flags l.types l.first l.written)
