use Rattle.std.proofs.Common.{◌≡◌, ◌++◌, take}
use Rattle.aos_symbols.specs.Declarations as declarations
use Rattle.aos_check_names.proofs.declarations.add_declared.Given as goal

abbrev pub invariant-loop-decl : goal.invariant-loop-decl
invariant-loop-decl l = l.names.items ≡ l.initial.names.items ++ declarations.declared_names (take l.decl-index l.decls)
