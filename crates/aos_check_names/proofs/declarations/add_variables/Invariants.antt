use Rattle.std.proofs.Common.{◌≡◌, ◌++◌, take}
use Rattle.std.specs.List.{flat_map}
use Rattle.aos_symbols.specs.Declarations as declarations
use Rattle.aos_check_names.proofs.declarations.add_variables.Given as goal

abbrev pub invariant-loop-def : goal.invariant-loop-def
invariant-loop-def l = l.names.items ≡ l.initial.names.items ++ flat_map (λ v. declarations.def_names v.defs) (take l.def-index l.defs)
