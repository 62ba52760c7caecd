use Rattle.std.proofs.Common.{◌≡◌, map, ap, ◌∙◌}
use Rattle.aos_types.specs.Shape.{size, row}
use Rattle.aos_typed.specs.Seen.{seen_module, seen_variable}
use Rattle.aos_layout.specs.Layout.{variable_cells}
use Rattle.aos_listing.specs.Listing.{line, part_lines, variable_part}
use Rattle.aos_listing.proofs.Parts.{led}
use Rattle.aos_listing.proofs.lines.put_module.Goals as goal

pub returns : goal.returns
returns c =
    let rows = c.args.types.now in
    let m = seen_module c.args.module.now in
    let counted : c.in_ok-cells.cells ≡ size (row (variable_cells rows m.variables)) =
    c.in_ok-cells.ensures ∙ ap (λ vs. size (row (variable_cells rows (map seen_variable vs)))) c.as_slice.ensures.value in
    led _ _ _ _ (line 0 m.name 0 (size (row (variable_cells rows m.variables)))) _ (part_lines 1 0 (map (variable_part rows) m.variables))
    c.in_ok-put_line.ensures (λ i. line 0 (c.as_str.ensures.value i) 0 (counted i)) c.in_ok-put_variables.ensures
    (ap (λ vs. part_lines 1 0 (map (variable_part rows) (map seen_variable vs))) c.as_slice-2.ensures.value)
