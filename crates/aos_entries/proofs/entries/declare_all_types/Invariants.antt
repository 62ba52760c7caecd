use Rattle.std.proofs.Common.{◌≡◌, ◌+◌, length, drop}
use Rattle.aos_symbols.specs.Scope as names
use Rattle.aos_symbols.specs.Declarations as declarations
use Rattle.aos_entries.specs.Entries as entries
use Rattle.aos_entries.proofs.entries.declare_all_types.Given as goal

abbrev pub invariant-loop-decl : goal.invariant-loop-decl
invariant-loop-decl l = record {
  names : names.with_names l.scope (entries.types_from l.text l.numbers l.place (declarations.type_defs (drop l.decl-index l.decls)))
      ≡ names.with_names l.initial.scope (entries.types_from l.text l.numbers l.initial.place (declarations.type_defs l.decls));
  place : l.place + length (declarations.type_defs (drop l.decl-index l.decls)) ≡ l.initial.place + length (declarations.type_defs l.decls);
}
