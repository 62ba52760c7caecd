use Rattle.std.proofs.Common.{◌≡◌, ◌<◌, ◌++◌, ℕ, List, Option, Some, arith, subst}
use mathlib.Core.Logic.{inl, inr}
use Rattle.aos_types.specs.declared.row.TypeId.{TypeId}
use Rattle.aos_types.specs.Chain.{IsOneOf, base_list}
use Rattle.aos_types.proofs.count.above_both.Goals as goal

with_base : (o : Option TypeId) (b : TypeId) (ts : List TypeId) (n : ℕ) → o ≡ Some b → b.0 < n → ((p : TypeId) → IsOneOf p ts → p.0 < n) → (p : TypeId) → IsOneOf p (base_list o ++ ts) → p.0 < n
with_base o b ts n e l h p m = split (subst (λ z. IsOneOf p (base_list z ++ ts)) e m)
  where
    split : IsOneOf p (base_list (Some b) ++ ts) → p.0 < n
    split (inl s) = subst (λ z. z.0 < n) s l
    split (inr k) = h p k

pub returns-in-Some-clause-below : goal.returns-in-Some-clause-below
returns-in-Some-clause-below c =
    let m = c.max.ensures in
    let n = c.above_all.ensures.least in
    let f = c.from.ensures in
    with_base c.args.base c.in-Some.base c.args.fields.now c.above_all.result c.in-Some.is (omega (arith, m, n, f)) c.above_all.ensures.below

pub returns-in-None-clause-below : goal.returns-in-None-clause-below
returns-in-None-clause-below c =
    λ p m. c.above_all-in-None.ensures.below p (subst (λ z. IsOneOf p (base_list z ++ c.args.fields.now)) c.in-None.is m)
