use Rattle.std.proofs.Common.{◌<◌, ◌≤◌, ◌+◌, ℕ, List, [], ◌∷◌, length, take, get_or, sym, arith, subst}
use Rattle.std.proofs.lemmas.List.{take_more, take_all}
use mathlib.Core.Logic.{◌⊎◌, inl, inr}
use Rattle.aos_types.specs.declared.row.TypeId.{TypeId}
use Rattle.aos_types.specs.Chain as chain
use Rattle.aos_types.proofs.Reached.{one_of_both}
use Rattle.aos_types.proofs.count.above_all.Goals as goal

more : (ts : List TypeId) (i : ℕ) (d : TypeId) (a b : ℕ) → i < length ts → ((p : TypeId) → chain.IsOneOf p (take i ts) → p.0 < a) → a ≤ b → (get_or ts i d).0 < b → (p : TypeId) → chain.IsOneOf p (take (i + 1) ts) → p.0 < b
more ts i d a b l h le x p o = split (one_of_both p (take i ts) (get_or ts i d ∷ []) (subst (chain.IsOneOf p) (take_more ts i d l) o))
  where
    split : chain.IsOneOf p (take i ts) ⊎ chain.IsOneOf p (get_or ts i d ∷ []) → p.0 < b
    split (inl m) = let k = h p m in omega (arith, k, le)
    split (inr (inl s)) = subst (λ z. z.0 < b) s x
    split (inr (inr m)) = absurd m

pub loop-t-preserved : goal.loop-t-preserved
loop-t-preserved c =
    let m = c.max-above.ensures in
    let f = c.from.ensures in
    let n = c.loop-t.invariant.1 in
    (more c.args.types.now c.loop-t.t-index (record { 0 = 0 }) c.loop-t.above c.max-above.result c.loop-t-test.true c.loop-t.invariant.0 (omega (arith, m)) (omega (arith, m, f)), omega (arith, m, n))

pub returns-clause-below : goal.returns-clause-below
returns-clause-below c =
    let e = c.loop-t-test.false in
    λ p o. c.loop-t.invariant.0 p (subst (chain.IsOneOf p) (sym (take_all c.loop-t.t-index c.args.types.now e)) o)
