use Rattle.std.proofs.Common.{◌≡◌, map, drop}
use Rattle.aos_symbols.specs.Scope as names
use Rattle.aos_entries.specs.Entries as entries
use Rattle.aos_entries.proofs.entries.declare_imports.Given as goal

abbrev pub invariant-loop-import : goal.invariant-loop-import
invariant-loop-import l =
    names.with_names l.scope (map (entries.import_entry l.text l.homes) (drop l.import-index l.imports)) ≡ names.with_names l.initial.scope (map (entries.import_entry l.text l.homes) l.imports)
