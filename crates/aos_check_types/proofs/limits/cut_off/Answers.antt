-- What the calls noted, one after another.
use Rattle.std.proofs.Common.{List, ap, ◌∙◌}
use Rattle.aos_types.specs.declared.row.TypeRow.{TypeRow}
use Rattle.aos_symbols.specs.Declarations.{seen_procedures}
use Rattle.aos_check_types.proofs.Judging.{limits_noted}
use Rattle.aos_check_types.proofs.limits.cut_off.Goals as goal

pub returns : goal.returns
returns c =
    let flags_are = c.in_ok-flags.ensures.circles in
    let noted = limits_noted c.args.env.now c.args.first c.args.decls.now c.args.found.now (c.deref.ensures.value ∙ flags_are) (c.deref-3.ensures.value ∙ flags_are)
    (c.deref-5.ensures.value ∙ flags_are) c.in_ok-flags.ensures.ok (c.deref-2.ensures.value ∙ c.in_ok-written.ensures)
    (ap seen_procedures c.deref-4.ensures.value ∙ c.in_ok-procs.ensures)
    c.in_ok-note_types.ensures c.in_ok-note_results.ensures c.in_ok-note_variables.ensures c.note_all_asked.ensures in
    record { noted = noted; is = ap (λ (rows : List TypeRow). record c.args.env.now { types = rows }) c.in_ok-flags.ensures.ok }
