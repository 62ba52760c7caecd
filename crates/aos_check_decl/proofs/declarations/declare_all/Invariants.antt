-- The loop over declarations: what is left leads to the same as the whole.
use Rattle.std.proofs.Common.{drop}
use Rattle.aos_symbols.specs.Judged.{walk}
use Rattle.aos_check_decl.specs.Headings as judge
use Rattle.aos_check_types.proofs.Telling.{Leads}
use Rattle.aos_check_decl.proofs.declarations.declare_all.Given as goal

abbrev pub invariant-loop-decl : goal.invariant-loop-decl
invariant-loop-decl l =
    Leads (walk judge.declared l.env (drop l.decl-index l.decls))
    (walk judge.declared l.initial.env l.decls) l.found l.initial.found
