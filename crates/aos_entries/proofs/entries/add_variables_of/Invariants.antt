use Rattle.std.proofs.Common.{◌≡◌, ◌++◌, take}
use Rattle.aos_symbols.specs.Declarations as declarations
use Rattle.aos_entries.proofs.entries.add_variables_of.Given as goal

abbrev pub invariant-loop-decl : goal.invariant-loop-decl
invariant-loop-decl l = l.all.items ≡ l.initial.all.items ++ declarations.single_variables (take l.decl-index l.decls)
