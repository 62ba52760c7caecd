use Rattle.std.proofs.Common.{arith}
use Rattle.aos_types.specs.Contents.{contents}
use Rattle.aos_layout.proofs.Ways.{way_bounded, step_bounded, way_on}
use Rattle.aos_layout.proofs.layout.offset.Goals as goal

pub overflow_add-cells : goal.overflow_add-cells
overflow_add-cells c =
    let rows = c.args.types.now in
    let s = step_bounded rows (contents rows c.args.t) c.args.path.now c.loop-number.number-index c.loop-number.at c.loop-number.cells 0 c.loop-number.invariant c.loop-number-test.true in
    let b = way_bounded rows c.args.t c.args.path.now c.requires.valid c.requires.sizes in
    let p = c.part_of-part.ensures.before in
    omega (arith, s, b, p)

pub loop-number-preserved : goal.loop-number-preserved
loop-number-preserved c =
    let rows = c.args.types.now in
    way_on rows (contents rows c.args.t) c.args.path.now c.loop-number.number-index c.loop-number.at c.loop-number.cells 0 c.loop-number.invariant c.loop-number-test.true c.part_of-part.result.of c.part_of-part.result.before c.part_of-part.ensures.of c.part_of-part.ensures.before
