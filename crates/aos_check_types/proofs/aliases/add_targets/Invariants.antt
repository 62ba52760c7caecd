-- The loop over definitions: what is left leads to the same as the whole.
use Rattle.std.proofs.Common.{drop}
use Rattle.aos_symbols.specs.Judged.{walk}
use Rattle.aos_check_types.specs.Aliases.{with_target}
use Rattle.aos_check_types.proofs.Telling.{Leads}
use Rattle.aos_check_types.proofs.aliases.add_targets.Given as goal

abbrev pub invariant-loop-def : goal.invariant-loop-def
invariant-loop-def l =
    Leads (walk (with_target l.env) l.targets.items (drop l.def-index l.defs))
    (walk (with_target l.env) l.initial.targets.items l.defs) l.found l.initial.found
