-- The loop over declarations.
use Rattle.std.proofs.Common.{◌≡◌, ◌++◌, map, take}
use Rattle.aos_symbols.specs.Declarations.{type_defs}
use Rattle.aos_check_types.specs.Limits.{defined_at}
use Rattle.aos_check_types.proofs.limits.add_defined_by.Given as goal

abbrev pub invariant-loop-decl : goal.invariant-loop-decl
invariant-loop-decl l = l.written.items ≡ l.initial.written.items ++ map defined_at (type_defs (take l.decl-index l.decls))
