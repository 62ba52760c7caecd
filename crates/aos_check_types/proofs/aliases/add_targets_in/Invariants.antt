-- The loop over declarations: what is left leads to the same as the whole.
use Rattle.std.proofs.Common.{drop}
use Rattle.aos_symbols.specs.Declarations.{type_defs}
use Rattle.aos_symbols.specs.Judged.{walk}
use Rattle.aos_check_types.specs.Aliases.{with_target}
use Rattle.aos_check_types.proofs.Telling.{Leads}
use Rattle.aos_check_types.proofs.aliases.add_targets_in.Given as goal

abbrev pub invariant-loop-decl : goal.invariant-loop-decl
invariant-loop-decl l =
    Leads (walk (with_target l.env) l.targets.items (type_defs (drop l.decl-index l.decls)))
    (walk (with_target l.env) l.initial.targets.items (type_defs l.decls)) l.found l.initial.found
