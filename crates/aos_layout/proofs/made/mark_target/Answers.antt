use Rattle.std.proofs.Common.{Some, ◌+◌, true, slice_set, ap, sym, subst, ◌∙◌}
use Rattle.aos_layout.specs.Marks.{AreMarks}
use Rattle.aos_layout.proofs.Marks.{marks_same, marks_more, leads_nowhere}
use Rattle.aos_layout.proofs.made.mark_target.Goals as goal

pub returns-in_ok-first : goal.returns-in_ok-first
returns-in_ok-first c =
    let rows = c.args.types.now in
    λ before.
    subst (AreMarks rows (c.args.number + 1)) (sym (c.mark.ensures ∙ ap (λ t. slice_set c.args.marks.now t.0 true) c.in_ok-first.ensures))
    (marks_more rows c.args.marks.now c.args.number c.in-Pointer.to c.requires.there (c.row.ensures ∙ ap (λ r. Some r) c.in-Pointer.is) before)

pub returns-in_default : goal.returns-in_default
returns-in_default c =
    marks_same c.args.types.now c.args.marks.now c.args.number c.row.result.now c.requires.there c.row.ensures
    (leads_nowhere c.args.types.now c.row.result.now c.in_default.not-Pointer)
