-- The proof of the contract of `visit`.
use Rattle.std.proofs.Common.{◌≡◌, ◌+◌, ◌<◌, ℕ, Bool, true, false, IsTrue, if◌then◌else◌, arith, refl, sym, subst}
use Rattle.aos_guard.specs.Marks.{marked}
use Rattle.aos_guard.proofs.marks.visit.Goals as goal

fewer_one : (a : Bool) (n0 n1 : ℕ) → n1 + (if a then 1 else 0) ≡ n0 → IsTrue a → n1 < n0
fewer_one true n0 n1 e h = omega (arith, e)
fewer_one false n0 n1 e h = absurd (cc h)

pub returns-else-keeps-clause-kept : goal.returns-else-keeps-clause-kept
returns-else-keeps-clause-kept c set keep within =
    let broken = c.if-keeps.ensures.no_ refl in
    c.take_one.ensures.kept set (λ h. broken.1 (subst (λ ms. IsTrue (marked ms c.args.edge.now.to)) (sym c.deref.ensures.value) (within c.args.edge.now.to (keep h)))) within

pub returns-else-keeps-clause-fewer : goal.returns-else-keeps-clause-fewer
returns-else-keeps-clause-fewer c _ =
    fewer_one (marked c.args.marks.now.items c.args.edge.now.from) _ _ c.take_one.ensures.fewer
    (subst (λ ms. IsTrue (marked ms c.args.edge.now.from)) c.deref.ensures.value (c.if-keeps.ensures.no_ refl).0)
