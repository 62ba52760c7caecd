use Rattle.std.proofs.Common.{◌<◌, length, arith}
use Rattle.aos_typed.specs.Seen.{seen_parameter}
use Rattle.aos_layout.specs.Frame.{parameter_cells}
use Rattle.aos_listing.proofs.Counts.{sum_more}
use Rattle.aos_listing.proofs.cells.parameters_cells.Goals as goal

pub loop-parameter-preserved : goal.loop-parameter-preserved
loop-parameter-preserved c =
    let l = c.loop-parameter in
    let xs = c.args.parameters.now in
    let lt : l.parameter-index < length xs = omega arith in
    sum_more (parameter_cells c.args.types.now) seen_parameter xs l.parameter-index c.parameter-item.result lt c.parameter-item.is _ _ _ l.invariant c.in_ok-cells.ensures c.in_ok-all.ensures
