use Rattle.std.proofs.Common.{◌≡◌, ◌+◌, ◌++◌, length, drop}
use Rattle.aos_symbols.specs.Declarations as declarations
use Rattle.aos_entries.specs.Entries as entries
use Rattle.aos_entries.proofs.entries.add_inner_scopes.Given as goal

abbrev pub invariant-loop-def : goal.invariant-loop-def
invariant-loop-def l = record {
  scopes : l.scopes.items ++ entries.inner_scopes l.text l.numbers l.place (drop l.def-index l.defs)
      ≡ l.initial.scopes.items ++ entries.inner_scopes l.text l.numbers l.initial.place l.defs;
  place : l.place + length (declarations.inner_types (drop l.def-index l.defs))
      ≡ l.initial.place + length (declarations.inner_types l.defs);
}
