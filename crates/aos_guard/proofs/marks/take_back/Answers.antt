-- The proof of the contract of `take_back`.
use Rattle.std.proofs.Common.{◌+◌, ◌<◌, ◌≤◌, ℕ, Bool, true, false, IsTrue, count_by, if◌then◌else◌, arith, refl, sym, subst}
use Rattle.aos_guard.specs.Marks.{marked}
use Rattle.aos_guard.proofs.marks.take_back.Goals as goal

falls : (q : Bool) (m n : ℕ) → (IsTrue q → m < n) → m ≤ n → (if q then 1 else 0) + m < 1 + n
falls true m n h k = let x = h refl in omega (arith, x)
falls false m n h k = omega (arith, k)

pub loop-changed-preserved : goal.loop-changed-preserved
loop-changed-preserved c = record {
  less = λ k h. c.loop-changed.invariant.less k (c.round-changed.ensures.less k h);
  kept = λ set closed within. c.round-changed.ensures.kept set closed (c.loop-changed.invariant.kept set closed within);
  stop = λ h. c.round-changed.ensures.stop h;
}

pub loop-changed-smaller : goal.loop-changed-smaller
loop-changed-smaller c = subst (λ q. (if c.round-changed.result then 1 else 0) + count_by (λ b. b) c.round-changed.new.marks.items < (if q then 1 else 0) + count_by (λ b. b) c.loop-changed.marks.items) (sym c.loop-changed-test.true) (falls c.round-changed.result _ _ c.round-changed.ensures.fewer c.round-changed.ensures.most)

pub returns : goal.returns
returns c = record {
  exact = λ k. (
    λ h. (marked c.loop-changed.marks.items, (c.loop-changed.invariant.less, (c.loop-changed.invariant.stop c.loop-changed-test.false, h))),
    λ q. c.loop-changed.invariant.kept q.0 q.1.1.0 q.1.0 k q.1.1.1,
  );
}
