use Rattle.std.proofs.Common.{◌≡◌, ◌++◌, take}
use Rattle.aos_symbols.specs.Declarations as declarations
use Rattle.aos_entries.proofs.declarations.add_definitions.Given as goal

abbrev pub invariant-loop-def : goal.invariant-loop-def
invariant-loop-def l = declarations.seen_types l.all.items ≡ declarations.seen_types l.initial.all.items ++ take l.def-index l.defs
