use Rattle.std.proofs.Common.{◌∙◌, w64, to_z, of_z}
use Rattle.std.proofs.lemmas.Int.{to_z-of_z}
use Rattle.aos_base.specs.declared.operator.Binary.TheVariants.{Mod}
use Rattle.aos_base.specs.Operators.{binary}
use Rattle.aos_base.proofs.Within.{if_both, if_divided}
use Rattle.aos_base.proofs.operator.remainder.Goals as goal

pub returns : goal.returns
returns c =
    let a = to_z-of_z w64 c.args.a c.ranges.a in
    let b = to_z-of_z w64 c.args.b c.ranges.b in
    if_both c.args.w (to_z w64 (of_z w64 c.args.a)) (to_z w64 (of_z w64 c.args.b)) _ _ _ _ c.if_fit.ensures c.both_fit.ensures (c.or_divisor.ensures ∙ if_divided _ _ _ _ c.modulo.ensures) ∙ (λ i. binary (Mod c.args.w) (a i) (b i))
