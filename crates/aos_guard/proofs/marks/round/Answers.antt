-- The proof of the contract of `round`.
use Rattle.std.proofs.Common.{◌≡◌, ◌+◌, ◌<◌, ℕ, true, false, List, length, get_or, arith, sym, ◌∙◌, subst, ◌⊎◌, inl, inr}
use Rattle.std.proofs.lemmas.List.{get_or_default}
use Rattle.std.proofs.lemmas.Bool.Decides.{eqb_tells}
use Rattle.aos_guard.specs.declared.marks.Edge.{Edge}
use Rattle.aos_guard.specs.Marks.{marked, KeepsEdge}
use Rattle.aos_guard.proofs.marks.round.Goals as goal
use Rattle.aos_guard.proofs.marks.round.Goals.{then-visit, else-visit}

one_more : (R : Edge → Type 0) (xs : List Edge) (i : ℕ) (e : Edge) → i < length xs → R (get_or xs i e) → ((k : ℕ) (d : Edge) → k < i → R (get_or xs k d)) → (k : ℕ) (d : Edge) → k < i + 1 → R (get_or xs k d)
one_more R xs i e inside here before k d lt =
    elim (eqb_tells k i) [
      | inl h ↦ subst (λ j. R (get_or xs j d)) (sym h.1) (subst R (get_or_default xs i e d inside) here)
      | inr h ↦ before k d (let ne = h.1 in omega (arith, lt, ne))
    ]

pub loop-edge-preserved : goal.loop-edge-preserved
loop-edge-preserved c =
    let inv = c.loop-edge.invariant in
    let now = c.visit.ensures in
    let how : ((c.visit.result ≡ true) × (c.if-visit.changed ≡ true)) ⊎ ((c.visit.result ≡ false) × (c.if-visit.changed ≡ c.loop-edge.changed)) =
    elim c.if-visit.branch [ then-visit w ↦ inl (w.if-visit.true, w.changed-is) | else-visit w ↦ inr (w.if-visit.false, w.changed-is) ] in
    record {
      less = λ k h. inv.less k (now.less k h);
      kept = λ set closed within. now.kept set (closed c.loop-edge.edge-index _ c.loop-edge-test.true) (inv.kept set closed within);
      stop = elim how [
        | inl x ↦ λ h. absurd (let q = sym x.1 ∙ h in cc q)
        | inr x ↦ λ h. (let s = now.stop x.0 in one_more (KeepsEdge (marked c.visit.new.marks.items)) c.args.edges.now c.loop-edge.edge-index _ c.loop-edge-test.true s.1
            (subst (λ ms. (k : ℕ) (d : Edge) → k < c.loop-edge.edge-index → KeepsEdge (marked ms) (get_or c.args.edges.now k d)) (sym s.0) (inv.stop (sym x.1 ∙ h))))
      ];
      most = omega (arith, now.most, inv.most);
      fewer = elim how [
        | inl x ↦ λ h. (let f = now.fewer x.0 in omega (arith, f, inv.most))
        | inr x ↦ λ h. (let f = inv.fewer (sym x.1 ∙ h) in omega (arith, f, now.most))
      ];
      same = elim how [
        | inl x ↦ λ h. absurd (let q = sym x.1 ∙ h in cc q)
        | inr x ↦ λ h. (now.stop x.0).0 ∙ inv.same (sym x.1 ∙ h)
      ];
    }

pub returns-clause-stop : goal.returns-clause-stop
returns-clause-stop c = λ h k d lt. c.loop-edge.invariant.stop h k d (omega (arith, lt, c.loop-edge-test.false))
