use Rattle.std.proofs.Common.{◌≡◌, ◌+◌, map, ap, sym, ◌∙◌}
use Rattle.aos_types.specs.Shape.{size, row}
use Rattle.aos_typed.specs.Seen.{seen_parameter, seen_procedure, seen_variable}
use Rattle.aos_layout.specs.Frame.{parameter_cells}
use Rattle.aos_layout.specs.Layout.{variable_cells}
use Rattle.aos_listing.proofs.Counts.{size_both}
use Rattle.aos_listing.proofs.cells.frame_cells.Goals as goal

pub returns : goal.returns
returns c =
    let rows = c.args.types.now in
    let p = seen_procedure c.args.procedure.now in
    let first : c.in_ok-parameters.parameters ≡ size (row (map (parameter_cells rows) p.parameters)) =
    c.in_ok-parameters.ensures ∙ ap (λ ps. size (row (map (parameter_cells rows) (map seen_parameter ps)))) c.as_slice.ensures.value in
    let second : c.in_ok-locals.locals ≡ size (row (variable_cells rows p.locals)) =
    c.in_ok-locals.ensures ∙ ap (λ vs. size (row (variable_cells rows (map seen_variable vs)))) c.as_slice-2.ensures.value in
    c.in_ok-all.ensures ∙ (λ i. first i + second i) ∙ sym (size_both (map (parameter_cells rows) p.parameters) (variable_cells rows p.locals))
