use Rattle.std.proofs.Common.{◌≡◌, ◌++◌, map, take}
use Rattle.aos_symbols.specs.Declarations as declarations
use Rattle.aos_entries.proofs.declarations.add_type_parts.Given as goal

abbrev pub invariant-loop-def : goal.invariant-loop-def
invariant-loop-def l =
    declarations.seen_parts l.all.items
    ≡ declarations.seen_parts l.initial.all.items ++ map (λ d. declarations.inner_decls d.value) (declarations.seen_types (take l.def-index l.defs))
