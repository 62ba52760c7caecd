-- The loop over variables: what is left leads to the same as the whole.
use Rattle.std.proofs.Common.{drop}
use Rattle.aos_symbols.specs.Judged.{walk}
use Rattle.aos_check_decl.specs.Headings as judge
use Rattle.aos_check_types.proofs.Telling.{Leads}
use Rattle.aos_check_decl.proofs.declarations.variable_defs.Given as goal

abbrev pub invariant-loop-def : goal.invariant-loop-def
invariant-loop-def l =
    Leads (walk judge.variable_def l.env (drop l.def-index l.defs))
    (walk judge.variable_def l.initial.env l.defs) l.found l.initial.found
