use Rattle.std.proofs.Common.{◌≡◌, take}
use Rattle.aos_symbols.specs.Declarations as declarations
use Rattle.aos_entries.proofs.entries.constants_of.Given as goal

abbrev pub invariant-loop-decl : goal.invariant-loop-decl
invariant-loop-decl l = l.all.items ≡ declarations.constant_defs (take l.decl-index l.decls)
