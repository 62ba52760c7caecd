use Rattle.std.proofs.Common.{length, slice_set, vec_capacity, subst, arith}
use Rattle.aos_types.specs.Chain.{NoneContainsItself}
use Rattle.aos_types.specs.Count.{AreSettled}
use Rattle.aos_types.proofs.Appended.{below_set}
use Rattle.std.proofs.lemmas.List.{length-set}
use Rattle.aos_types.proofs.Settled.{table_is}
use Rattle.aos_types.proofs.table.Types.set.Goals as goal

pub invariant_of-self : goal.invariant_of-self
invariant_of-self c =
    let rows = slice_set c.self.inside.rows.items c.args.id.0 c.args.row in
    let s = length-set c.self.inside.rows.items c.args.id.0 c.args.row in
    let few = c.self.invariant.few in
    let long = c.self.invariant.long in
    let fits = c.self.invariant.fits in
    let a = c.recount.auto.counts in
    let b = c.recount.ensures.capacity in
    let d = c.deref_mut.ensures.len in
    let o = c.self.inside.counts.ok in
    let l = c.above-self-inside.ensures.least in
    table_is rows c.recount.new.counts c.self.inside.counts.items c.self.inside.counts.len (vec_capacity c.recount.new.path) c.above-self-inside.result (omega (arith, s, few)) (omega (arith, s, long, a, d, o))
    (omega (arith, s, fits, b)) (below_set c.self.inside.rows.items c.args.id.0 c.args.row c.self.inside.above c.above-self-inside.result c.self.invariant.below l c.above-self-inside.ensures.below)
    (subst (λ z. NoneContainsItself z → AreSettled z c.recount.new.counts (length z)) c.deref.ensures.value c.recount.ensures.settled)
    (omega (arith, a, d, o))
