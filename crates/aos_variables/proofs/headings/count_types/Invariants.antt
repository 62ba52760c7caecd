use Rattle.std.proofs.Common.{◌≡◌, ◌+◌, length, drop}
use Rattle.aos_symbols.specs.Declarations.{type_defs}
use Rattle.aos_variables.proofs.headings.count_types.Given as goal

abbrev pub invariant-loop-decl : goal.invariant-loop-decl
invariant-loop-decl l = l.count + length (type_defs (drop l.decl-index l.decls)) ≡ length (type_defs l.decls)
