use Rattle.std.proofs.Common.{◌<◌, ◌^◌, ◌∙◌, sym, ap, length, vec_capacity, subst, arith, length-append, ◌++◌, ◌∷◌, [], None}
use Rattle.aos_types.specs.Chain.{NoneContainsItself}
use Rattle.aos_types.specs.Count.{AreSettled}
use Rattle.aos_types.proofs.Appended.{AllBelow, below_push, before_last}
use Rattle.std.proofs.lemmas.Bool.{leb-true}
use Rattle.aos_types.proofs.Settled.{table_is}
use Rattle.aos_types.proofs.table.Types.add.Goals as goal

pub invariant_of-self-2 : goal.invariant_of-self-2
invariant_of-self-2 c =
    let few = subst (λ z. length z < 2 ^ 32) (sym c.self.view_is) c.requires in
    let long = c.self.invariant.long in
    let a = c.count_last.auto.counts in
    let b = c.count_last.ensures.capacity in
    let d = c.deref_mut.ensures.len in
    let o = c.push_reserved-2.new.self.ok.0 in
    let r = c.reserve.new.self.ok.0 in
    let p = ap length (c.push_reserved.ensures.items ∙ ap (λ z. z ++ c.args.row ∷ []) c.in_ok-reserve.ensures.items) in
    let q = ap length (c.push_reserved-2.ensures.items ∙ ap (λ z. z ++ None ∷ []) c.in_ok-reserve-2.ensures.items) in
    let e = ap length c.in_ok-reserve.ensures.items in
    let n = c.len.ensures in
    let k = c.in_ok-reserve-3.ensures.ok in
    let t = length-append c.self.inside.rows.items (c.args.row ∷ []) in
    let u = length-append c.self.inside.counts.items (None ∷ []) in
    let pushed = c.push_reserved.ensures.items ∙ ap (λ z. z ++ c.args.row ∷ []) c.in_ok-reserve.ensures.items in
    table_is c.push_reserved.new.self.items c.count_last.new.counts c.push_reserved-2.new.self.items c.push_reserved-2.new.self.len (vec_capacity c.count_last.new.path) c.above-self-inside.result (omega (arith, few, p, t)) (omega (arith, long, p, q, t, u, a, d, o))
    (omega (arith, p, t, b, k, n, r, e)) (subst (λ z. AllBelow c.above-self-inside.result z) (sym pushed) (below_push c.self.inside.rows.items c.args.row c.self.inside.above c.above-self-inside.result c.self.invariant.below c.above-self-inside.ensures.least c.above-self-inside.ensures.below))
    (subst (λ z. NoneContainsItself z → AreSettled z c.count_last.new.counts (length z)) c.deref.ensures.value c.count_last.ensures.settled)
    (omega (arith, a, d, o))

pub count_last-requires-clause-before : goal.count_last-requires-clause-before
count_last-requires-clause-before c =
    let pushed = c.push_reserved.ensures.items ∙ ap (λ z. z ++ c.args.row ∷ []) c.in_ok-reserve.ensures.items in
    let made = c.push_reserved-2.ensures.items ∙ ap (λ z. z ++ None ∷ []) c.in_ok-reserve-2.ensures.items in
    let n = c.len-2.ensures in
    let f = c.from.ensures in
    let r = c.reserve.new.self.ok.0 in
    let e = ap length c.in_ok-reserve.ensures.items in
    λ is_new.
    let l = leb-true c.self.inside.above c.from.result is_new in
    before_last c.self.inside.rows.items c.deref.result.now c.args.row c.self.inside.counts.items c.deref_mut.result.now c.self.inside.above (c.deref.ensures.value ∙ pushed) (c.deref_mut.ensures.value ∙ made) c.self.invariant.long c.self.invariant.below (omega (arith, l, n, f, r, e)) c.self.invariant.settled
