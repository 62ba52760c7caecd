use Rattle.std.proofs.Common.{◌≡◌, ◌++◌, take}
use Rattle.aos_variables.proofs.variables.add_defs.Given as goal

abbrev pub invariant-loop-def : goal.invariant-loop-def
invariant-loop-def l = l.all.items ≡ l.initial.all.items ++ take l.def-index l.defs
