use Rattle.std.proofs.Common.{◌≡◌, take}
use Rattle.aos_symbols.specs.Declarations.{single_variables}
use Rattle.aos_variables.proofs.variables.variable_defs.Given as goal

abbrev pub invariant-loop-decl : goal.invariant-loop-decl
invariant-loop-decl l = l.all.items ≡ single_variables (take l.decl-index l.decls)
