use Rattle.std.proofs.Common.{◌≡◌, ◌+◌, drop}
use Rattle.aos_symbols.specs.Scope as names
use Rattle.aos_entries.specs.Entries as entries
use Rattle.aos_entries.proofs.entries.declare_types.Given as goal

abbrev pub invariant-loop-def : goal.invariant-loop-def
invariant-loop-def l = record {
  names : names.with_names l.scope (entries.types_from l.text l.numbers l.place (drop l.def-index l.defs))
      ≡ names.with_names l.initial.scope (entries.types_from l.text l.numbers l.initial.place l.defs);
  place : l.place ≡ l.initial.place + l.def-index;
}
