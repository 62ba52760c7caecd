use Rattle.std.proofs.Common.{◌≡◌, ◌++◌, take}
use Rattle.aos_symbols.specs.Declarations as declarations
use Rattle.aos_check_names.proofs.declarations.add_defs.Given as goal

abbrev pub invariant-loop-def : goal.invariant-loop-def
invariant-loop-def l = l.names.items ≡ l.initial.names.items ++ declarations.def_names (take l.def-index l.defs)
