use Rattle.std.proofs.Common.{◌≡◌, ◌++◌, map, take}
use Rattle.aos_check_names.proofs.declarations.add_types.Given as goal

abbrev pub invariant-loop-def : goal.invariant-loop-def
invariant-loop-def l = l.names.items ≡ l.initial.names.items ++ map (λ d. d.def.name) (take l.def-index l.defs)
