use Rattle.std.proofs.Common.{◌≤ℤ◌, pos, arith}
use Rattle.std.proofs.lemmas.Int.{ints}
use Rattle.aos_base.specs.declared.limits.TheConstants.{MOST_SCALARS}
use Rattle.aos_cpu.proofs.Making.{are_short, are_long, pushed}
use Rattle.aos_cpu.proofs.makes.add_length.Goals as goal

pub returns-then-number-lt1 : goal.returns-then-number-lt1
returns-then-number-lt1 c operands has = are_short operands c.args.lengths.items has c.args.number (omega (arith, ints, c.if-number-lt1.true))

pub returns-then-number-gt-MAX_LENGTH : goal.returns-then-number-gt-MAX_LENGTH
returns-then-number-gt-MAX_LENGTH c operands has =
    are_long operands c.args.lengths.items has c.args.number (omega (arith, ints, c.if-number-lt1.false)) (omega (arith, ints, c.if-number-gt-MAX_LENGTH.true))

pub returns : goal.returns
returns c operands has =
    let z = c.args.number in
    let least : pos 1 ≤ℤ z = omega (arith, ints, c.if-number-lt1.false) in
    let most : z ≤ℤ pos MOST_SCALARS = omega (arith, ints, c.if-number-gt-MAX_LENGTH.false) in
    pushed operands c.args.lengths.items has z _ _ _ c.push_reserved.ensures.items c.in_ok-reserve.ensures.items least most (omega (arith, ints, least, most))
