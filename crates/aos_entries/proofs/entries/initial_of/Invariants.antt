use Rattle.std.proofs.Common.{◌≡◌, drop}
use Rattle.aos_symbols.specs.Declarations as declarations
use Rattle.aos_entries.specs.Entries as entries
use Rattle.aos_entries.proofs.entries.initial_of.Given as goal

abbrev pub invariant-loop-decl : goal.invariant-loop-decl
invariant-loop-decl l = entries.initial_from l.place (declarations.procedures (drop l.decl-index l.decls)) ≡ entries.initial_of l.decls
