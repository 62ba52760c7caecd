use Rattle.std.proofs.Common.{◌++◌, sym, subst}
use Rattle.aos_types.specs.Chain.{IsOneOf, base_list}
use Rattle.aos_types.specs.Count.{named_in}
use Rattle.aos_types.proofs.count.above.Goals as goal

pub returns-in-Record-clause-below : goal.returns-in-Record-clause-below
returns-in-Record-clause-below c =
    λ p m. c.above_both.ensures.below p (subst (λ z. IsOneOf p (base_list c.in-Record.base ++ z)) (sym c.as_slice.ensures) (subst (λ z. IsOneOf p (named_in z)) c.in-Record.is m))

pub returns-in-Object-clause-below : goal.returns-in-Object-clause-below
returns-in-Object-clause-below c =
    λ p m. c.above_both-in-Object.ensures.below p (subst (λ z. IsOneOf p (base_list c.in-Object.base ++ z)) (sym c.as_slice-in-Object.ensures) (subst (λ z. IsOneOf p (named_in z)) c.in-Object.is m))
