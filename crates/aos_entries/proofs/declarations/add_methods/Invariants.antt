use Rattle.std.proofs.Common.{◌≡◌, ◌++◌, take}
use Rattle.std.specs.List.{flat_map}
use Rattle.aos_symbols.specs.Declarations as declarations
use Rattle.aos_entries.proofs.declarations.add_methods.Given as goal

abbrev pub invariant-loop-def : goal.invariant-loop-def
invariant-loop-def l =
    declarations.seen_procedures l.all.items ≡ declarations.seen_procedures l.initial.all.items ++ flat_map declarations.methods_in (take l.def-index l.defs)
