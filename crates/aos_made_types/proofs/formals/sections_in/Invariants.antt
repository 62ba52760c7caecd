-- The loop over sections: what is left leads to the same as the whole.
use Rattle.std.proofs.Common.{drop}
use Rattle.aos_symbols.specs.Judged.{walk}
use Rattle.aos_made_types.specs.Formals as judge
use Rattle.aos_check_types.proofs.Telling.{Leads}
use Rattle.aos_made_types.proofs.formals.sections_in.Given as goal

abbrev pub invariant-loop-section : goal.invariant-loop-section
invariant-loop-section l =
    Leads (walk judge.with_section (judge.formals_met l.env l.parameters) (drop l.section-index l.sections))
    (walk judge.with_section (judge.formals_met l.initial.env l.initial.parameters) l.sections) l.found l.initial.found
