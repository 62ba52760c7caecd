use Rattle.std.proofs.Common.{refl, ◌∙◌, arith, below_more}
use Rattle.aos_types.proofs.Settled.{kept_made, none_contains}
use Rattle.aos_types.proofs.count.count_all.Goals as goal

pub loop-number-preserved : goal.loop-number-preserved
loop-number-preserved c =
    let a = c.loop-number.auto.counts in
    let b = c.requires.long in
    let d = c.fill.ensures.len in
    let t = c.loop-number-test.true in (
      c.count_from.ensures.made c.loop-number.invariant.0,
      c.count_from.ensures.free c.loop-number.invariant.0 c.loop-number.invariant.1,
      below_more _ _
          (λ k l. kept_made c.loop-number.counts c.count_from.new.counts c.count_from.ensures.kept k (omega (arith, a, b, d, t, l)) (c.loop-number.invariant.2 k l))
          (c.if-not-count_from.ensures.own refl),
      c.count_from.ensures.capacity ∙ c.loop-number.invariant.3,
    )

pub returns-clause-free : goal.returns-clause-free
returns-clause-free c =
    let a = c.loop-number.auto.counts in
    let b = c.requires.long in
    let d = c.fill.ensures.len in
    let e = c.loop-number-test.false in (
      λ _. none_contains c.args.rows.now c.loop-number.counts (omega (arith, a, b, d)) c.loop-number.invariant.1 (λ q k. c.loop-number.invariant.2 q.0 (omega (arith, e, k))),
      λ _. refl,
    )

pub returns-clause-settled : goal.returns-clause-settled
returns-clause-settled c =
    let e = c.loop-number-test.false in
    λ _. record { made = c.loop-number.invariant.0; whole = λ q k. c.loop-number.invariant.2 q.0 (omega (arith, e, k)) }
