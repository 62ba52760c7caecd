use Rattle.std.proofs.Common.{ℕ, Bool, IsTrue, subst}
use Rattle.std.specs.Prelude.{◌↔◌}
use Rattle.aos_typed.specs.Seen.{seen_program}
use Rattle.aos_guard.specs.Edges.{InTexts}
use Rattle.aos_uses.specs.Guarded.{Keeps}
use Rattle.aos_guard.specs.Marks.{IsClosed, IsLeft, IsWithin, marked}
use Rattle.aos_guard.proofs.Found.{quiet_found}
use Rattle.aos_guard.proofs.quiet.quiet_of.Goals as goal

pub returns : goal.returns
returns c =
    let p = seen_program c.args.dispatch.now in
    let texts = c.args.texts.now in
    let old = c.in_ok-marks.marks.items in
    let edges = c.in_ok-edges.edges.items in
    let new = c.take_back.new.marks.items in
    let says =
    subst (λ ms. (set : ℕ → Bool) → IsWithin set (marked ms) → IsClosed edges set ↔ InTexts (Keeps p (λ n. IsTrue (set n))) texts)
    c.deref.ensures.value c.in_ok-edges.ensures in
    let exact = subst (λ es. (k : ℕ) → IsTrue (marked new k) ↔ IsLeft es old k) c.deref-2.ensures.value c.take_back.ensures.exact in
    quiet_found p old c.in_ok-marks.ensures texts edges new c.requires says exact
