use Rattle.std.proofs.Common.{subst, arith}
use Rattle.aos_types.specs.Circle.{AreTested}
use Rattle.aos_types.proofs.Marking.{none_tested, tested_more, circles_are}
use Rattle.aos_types.proofs.circle.circles.Goals as goal

pub loop-number-init : goal.loop-number-init
loop-number-init c = none_tested c.args.rows.now c.in_ok-flags.flags.items c.in_ok-flags.ensures

pub test-requires : goal.test-requires
test-requires c = record { added = c.loop-number-test.true; sound = c.loop-number.invariant.sound }

pub loop-number-preserved : goal.loop-number-preserved
loop-number-preserved c =
    tested_more c.args.rows.now c.loop-number.flags.items c.test.new.flags.items c.loop-number.number c.loop-number.invariant c.in_ok-test.ensures

pub returns : goal.returns
returns c =
    let n = c.loop-number-test.false in
    let l = c.loop-number.auto.number-end in
    circles_are c.args.rows.now c.loop-number.flags.items (subst (AreTested c.args.rows.now c.loop-number.flags.items) (omega (arith, n, l)) c.loop-number.invariant)
