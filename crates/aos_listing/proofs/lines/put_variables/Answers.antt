use Rattle.std.proofs.Common.{◌<◌, ◌≤◌, length, arith}
use Rattle.aos_typed.specs.Seen.{seen_variable}
use Rattle.aos_listing.specs.Listing.{variable_part}
use Rattle.aos_listing.specs.Seen.{seen_lines}
use Rattle.aos_listing.proofs.Parts.{parts_more, parts_end}
use Rattle.aos_listing.proofs.lines.put_variables.Goals as goal

pub loop-variable-preserved : goal.loop-variable-preserved
loop-variable-preserved c =
    let l = c.loop-variable in
    let xs = c.args.variables.now in
    let lt : l.variable-index < length xs = omega arith in
    parts_more seen_variable (variable_part c.args.types.now) 1 xs l.variable-index c.variable-item.result lt c.variable-item.is l.at _ _ _ (seen_lines l.lines.items) _ _ c.in_ok-put_line.ensures c.as_str.ensures.value c.variable_cells-cells.ensures c.in_ok-at.ensures l.invariant

pub returns : goal.returns
returns c =
    let l = c.loop-variable in
    let xs = c.args.variables.now in
    let most : length xs ≤ l.variable-index = omega (arith, c.loop-variable-test.false) in
    parts_end seen_variable (variable_part c.args.types.now) 1 xs l.variable-index l.at (seen_lines l.lines.items) _ most l.invariant
