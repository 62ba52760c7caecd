use Rattle.std.proofs.Common.{◌≡◌, take}
use Rattle.std.specs.List.{flat_map}
use Rattle.aos_symbols.specs.Breaches.{first_after}
use Rattle.aos_symbols.specs.Declarations.{procedures}
use Rattle.aos_check_types.specs.Methods as judge
use Rattle.aos_check_types.proofs.methods.note_methods.Given as goal

abbrev pub invariant-loop-decl : goal.invariant-loop-decl
invariant-loop-decl l =
    l.found ≡ first_after l.initial.found (flat_map (judge.method_breaches l.env l.of) (procedures (take l.decl-index l.decls)))
