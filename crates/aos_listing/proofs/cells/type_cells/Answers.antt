use Rattle.aos_listing.proofs.cells.type_cells.Goals as goal

pub scalars-requires-clause-none_contains_itself : goal.scalars-requires-clause-none_contains_itself
scalars-requires-clause-none_contains_itself c = c.requires.typed.none_contains_itself

pub scalars-requires-clause-sizes : goal.scalars-requires-clause-sizes
scalars-requires-clause-sizes c = c.requires.typed.sizes c.args.t
