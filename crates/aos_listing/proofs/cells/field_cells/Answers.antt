use Rattle.aos_listing.proofs.Counts.{part_counted, variable_within}
use Rattle.aos_listing.proofs.cells.field_cells.Goals as goal

pub variable_scalars-requires-clause-none_contains_itself : goal.variable_scalars-requires-clause-none_contains_itself
variable_scalars-requires-clause-none_contains_itself c = c.requires.typed.none_contains_itself

pub variable_scalars-requires-clause-sizes : goal.variable_scalars-requires-clause-sizes
variable_scalars-requires-clause-sizes c = variable_within c.args.types.now c.args.t (c.requires.typed.sizes c.args.t)

pub returns : goal.returns
returns c = part_counted c.args.types.now c.args.t c.variable_scalars.result c.variable_scalars.ensures
