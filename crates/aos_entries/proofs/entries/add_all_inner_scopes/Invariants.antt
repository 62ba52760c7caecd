use Rattle.std.proofs.Common.{◌≡◌, ◌+◌, ◌++◌, length, drop}
use Rattle.aos_symbols.specs.Declarations as declarations
use Rattle.aos_entries.specs.Entries as entries
use Rattle.aos_entries.proofs.entries.add_all_inner_scopes.Given as goal

abbrev pub invariant-loop-decl : goal.invariant-loop-decl
invariant-loop-decl l = record {
  scopes : l.scopes.items ++ entries.inner_scopes l.text l.numbers l.place (declarations.type_defs (drop l.decl-index l.decls))
      ≡ l.initial.scopes.items ++ entries.inner_scopes l.text l.numbers l.initial.place (declarations.type_defs l.decls);
  place : l.place + length (declarations.inner_types (declarations.type_defs (drop l.decl-index l.decls)))
      ≡ l.initial.place + length (declarations.inner_types (declarations.type_defs l.decls));
}
