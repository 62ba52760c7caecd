use Rattle.std.proofs.Common.{◌≡◌, take}
use Rattle.aos_symbols.specs.Declarations as declarations
use Rattle.aos_entries.proofs.declarations.type_definitions.Given as goal

abbrev pub invariant-loop-decl : goal.invariant-loop-decl
invariant-loop-decl l = declarations.seen_types l.all.items ≡ declarations.type_defs (take l.decl-index l.decls)
