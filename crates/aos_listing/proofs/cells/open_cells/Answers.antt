use Rattle.std.proofs.Common.{◌+◌, ap, ◌∙◌}
use Rattle.aos_typed.specs.Numbers.{id_of}
use Rattle.aos_layout.specs.Frame.{open_dimensions}
use Rattle.aos_listing.proofs.Counts.{there_is, open_size}
use Rattle.aos_listing.proofs.cells.open_cells.Goals as goal

pub returns : goal.returns
returns c =
    let rows = c.args.types.now in
    let t = there_is rows c.args.of c.in-Some.t c.in-Some.ensures in
    let dimensions = c.in-Ok.ensures.1 ∙ c.open_array-open.ensures.dimensions ∙ ap (open_dimensions rows) t in
    open_size (open_dimensions rows (id_of c.args.of)) _ (c.in_ok-cells.ensures ∙ ap (λ d. 1 + d) dimensions)
