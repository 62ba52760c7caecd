-- The loop over declarations.
use Rattle.std.proofs.Common.{◌≡◌, length, take}
use Rattle.aos_symbols.specs.Declarations.{type_defs}
use Rattle.aos_check_decl.proofs.procedures.count_types.Given as goal

abbrev pub invariant-loop-decl : goal.invariant-loop-decl
invariant-loop-decl l = l.count ≡ length (type_defs (take l.decl-index l.decls))
