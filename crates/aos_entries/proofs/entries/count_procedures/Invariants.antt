use Rattle.std.proofs.Common.{◌≡◌, length, take}
use Rattle.aos_symbols.specs.Declarations as declarations
use Rattle.aos_entries.proofs.entries.count_procedures.Given as goal

abbrev pub invariant-loop-decl : goal.invariant-loop-decl
invariant-loop-decl l = l.count ≡ length (declarations.procedures (take l.decl-index l.decls))
