use Rattle.std.proofs.Common.{◌∷◌, ◌++◌, map, ap, sym}
use Rattle.std.specs.List.{zip}
use Rattle.aos_types.specs.Contents.{scalars}
use Rattle.aos_typed.specs.Seen.{seen_method, seen_object}
use Rattle.aos_layout.specs.Layout.{cells}
use Rattle.aos_listing.specs.Listing.{line, part_lines, field_lines, method_line}
use Rattle.aos_listing.specs.Seen.{seen_names}
use Rattle.aos_listing.proofs.Parts.{added, led}
use Rattle.aos_listing.proofs.lines.put_fielded.Goals as goal

pub returns : goal.returns
returns c =
    let rows = c.args.types.now in
    let t = c.args.t in
    let ts = c.args.fields.now in
    let o = seen_object c.args.object.now in
    let own = line 2 o.name 0 (scalars rows t) in
    let fielded =
    led _ _ _ _ own _ (field_lines rows t o.fields ts) c.in_ok-put_line.ensures (λ i. line 2 (c.as_str.ensures.value i) 0 (c.type_cells-cells.ensures i)) c.in_ok-put_fields.ensures
    (λ i. part_lines 3 (c.front_cells-first.ensures i) (zip (seen_names (c.as_slice.ensures.value i)) (map (cells rows) ts))) in
    added _ _ _ (own ∷ field_lines rows t o.fields ts) _ (own ∷ (field_lines rows t o.fields ts ++ map method_line o.methods)) fielded c.in_ok-put_methods.ensures
    (ap (λ ms. (own ∷ field_lines rows t o.fields ts) ++ map method_line (map seen_method ms)) (sym c.as_slice-2.ensures.value))
