use Rattle.std.proofs.Common.{◌<◌, length, arith}
use Rattle.aos_typed.specs.Numbers.{id_of}
use Rattle.aos_typed.specs.Program.{Variable}
use Rattle.aos_typed.specs.Seen.{seen_variable}
use Rattle.aos_layout.specs.Layout.{cells}
use Rattle.aos_listing.proofs.Counts.{sum_more}
use Rattle.aos_listing.proofs.cells.variables_cells.Goals as goal

pub loop-variable-preserved : goal.loop-variable-preserved
loop-variable-preserved c =
    let l = c.loop-variable in
    let xs = c.args.variables.now in
    let lt : l.variable-index < length xs = omega arith in
    sum_more (λ (v : Variable). cells c.args.types.now (id_of v.of)) seen_variable xs l.variable-index c.variable-item.result lt c.variable-item.is _ _ _ l.invariant c.variable_cells-cells.ensures c.in_ok-all.ensures
