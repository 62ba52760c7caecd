use Rattle.std.proofs.Common.{sym}
use Rattle.aos_typed.specs.Seen.{seen_parameter}
use Rattle.aos_listing.proofs.Counts.{open_counted, plain_counted}
use Rattle.aos_listing.proofs.cells.parameter_cells.Goals as goal

pub returns-then-is_open_in : goal.returns-then-is_open_in
returns-then-is_open_in c = open_counted c.args.types.now (seen_parameter c.args.parameter.now) _ (sym c.if-is_open_in.ensures) c.in_ok-cells.ensures

pub returns : goal.returns
returns c =
    plain_counted c.args.types.now (seen_parameter c.args.parameter.now) c.variable_cells.result (sym c.if-is_open_in.ensures) c.if-parameter.false c.variable_cells.ensures
