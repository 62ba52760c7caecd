use Rattle.std.proofs.Common.{◌≡◌, take}
use Rattle.std.specs.List.{flat_map}
use Rattle.aos_symbols.specs.Breaches.{first_after}
use Rattle.aos_symbols.specs.Declarations.{seen_types}
use Rattle.aos_check_types.specs.Methods as judge
use Rattle.aos_check_types.proofs.methods.note_definitions.Given as goal

abbrev pub invariant-loop-def : goal.invariant-loop-def
invariant-loop-def l =
    l.found ≡ first_after l.initial.found (flat_map (judge.definition_breaches l.env) (seen_types (take l.def-index l.defs)))
