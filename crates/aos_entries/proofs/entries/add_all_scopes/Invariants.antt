use Rattle.std.proofs.Common.{◌≡◌, ◌++◌, drop}
use Rattle.std.specs.List.{flat_map}
use Rattle.aos_symbols.specs.Declarations as declarations
use Rattle.aos_entries.specs.Entries as entries
use Rattle.aos_entries.proofs.entries.add_all_scopes.Given as goal

abbrev pub invariant-loop-decl : goal.invariant-loop-decl
invariant-loop-decl l =
    l.scopes.items ++ entries.procedure_scopes l.text l.numbers l.place (flat_map declarations.methods_in (declarations.type_defs (drop l.decl-index l.decls)))
    ≡ l.fn.scopes.items ++ entries.procedure_scopes l.text l.numbers l.first (declarations.all_procedures l.decls)
