use Rattle.std.proofs.Common.{rules, ◌≡◌, ℤ, [], ◌∷◌, ◌++◌, w64, subst, arith}
use Rattle.std.specs.Prelude.{IfOk}
use Rattle.std.proofs.lemmas.Int.{ints}
use mir.Val.{to_z, of_z}
use Rattle.aos_code.specs.declared.instr.Cell.TheVariants.{Num}
use Rattle.aos_cpu.specs.Makes.{AreLengths}
use Rattle.aos_cpu.proofs.Making.{none_more, short_more, long_short, long_more}
use Rattle.aos_cpu.proofs.makes.with_length.Goals as goal

pub returns-in-No : goal.returns-in-No
returns-in-No c operands are = none_more operands c.args.number (subst (AreLengths operands) c.in-No.is are)

pub returns-in-Short : goal.returns-in-Short
returns-in-Short c operands are = short_more operands c.args.number (subst (AreLengths operands) c.in-Short.is are)

pub returns-in-Long : goal.returns-in-Long
returns-in-Long c operands are = long_short operands c.args.number (subst (AreLengths operands) c.in-Long.is are) (omega (arith, ints, c.if-number-lt1.true))

pub returns-in-Long-2 : goal.returns-in-Long-2
returns-in-Long-2 c operands are = long_more operands c.args.number (subst (AreLengths operands) c.in-Long-2.is are) (omega (arith, ints, c.if-number-lt1.false))

pub returns-in-Are : goal.returns-in-Are
returns-in-Are c operands are =
    let same : to_z w64 (of_z w64 c.args.number) ≡ c.args.number = search rules in
    subst (λ (z : ℤ). IfOk c.add_length.result (λ found. AreLengths (operands ++ Num z ∷ []) found)) same (c.add_length.ensures operands (subst (AreLengths operands) c.in-Are.is are))
