use Rattle.std.proofs.Common.{ap, ◌∙◌}
use Rattle.aos_types.specs.Shape.{size}
use Rattle.aos_typed.specs.Numbers.{id_of}
use Rattle.aos_layout.specs.Layout.{cells}
use Rattle.aos_listing.proofs.Counts.{there_is, absent, none_counted}
use Rattle.aos_listing.proofs.cells.variable_cells.Goals as goal

pub returns-in-Some : goal.returns-in-Some
returns-in-Some c =
    let rows = c.args.types.now in
    c.field_cells.ensures ∙ ap (λ t. size (cells rows t)) (there_is rows c.args.of c.in-Some.t c.in-Some.ensures)

pub returns-in-None : goal.returns-in-None
returns-in-None c =
    let rows = c.args.types.now in
    none_counted rows (id_of c.args.of) (absent rows c.args.of c.in-None.ensures)
