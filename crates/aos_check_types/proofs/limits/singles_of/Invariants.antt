-- The loop over declarations.
use Rattle.std.proofs.Common.{◌≡◌, take}
use Rattle.aos_symbols.specs.Declarations.{single_variables}
use Rattle.aos_check_types.proofs.limits.singles_of.Given as goal

abbrev pub invariant-loop-decl : goal.invariant-loop-decl
invariant-loop-decl l = l.singles.items ≡ single_variables (take l.decl-index l.decls)
