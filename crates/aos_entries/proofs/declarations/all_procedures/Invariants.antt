use Rattle.std.proofs.Common.{◌≡◌, ◌++◌, take}
use Rattle.std.specs.List.{flat_map}
use Rattle.aos_symbols.specs.Declarations as declarations
use Rattle.aos_entries.proofs.declarations.all_procedures.Given as goal

abbrev pub invariant-loop-decl : goal.invariant-loop-decl
invariant-loop-decl l =
    declarations.seen_procedures l.all.items
    ≡ declarations.procedures l.decls ++ flat_map declarations.methods_in (declarations.type_defs (take l.decl-index l.decls))
