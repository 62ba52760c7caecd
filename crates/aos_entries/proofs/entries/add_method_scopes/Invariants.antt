use Rattle.std.proofs.Common.{◌≡◌, ◌+◌, ◌++◌, length, drop}
use Rattle.std.specs.List.{flat_map}
use Rattle.aos_symbols.specs.Declarations as declarations
use Rattle.aos_entries.specs.Entries as entries
use Rattle.aos_entries.proofs.entries.add_method_scopes.Given as goal

abbrev pub invariant-loop-def : goal.invariant-loop-def
invariant-loop-def l = record {
  scopes : l.scopes.items ++ entries.procedure_scopes l.text l.numbers l.place (flat_map declarations.methods_in (drop l.def-index l.defs))
      ≡ l.initial.scopes.items ++ entries.procedure_scopes l.text l.numbers l.initial.place (flat_map declarations.methods_in l.defs);
  place : l.place + length (declarations.local_types (flat_map declarations.methods_in (drop l.def-index l.defs)))
      ≡ l.initial.place + length (declarations.local_types (flat_map declarations.methods_in l.defs));
}
