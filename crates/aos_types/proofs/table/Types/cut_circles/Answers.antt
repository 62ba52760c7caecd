use Rattle.std.proofs.Common.{◌≡◌, List, length, take, drop, ◌++◌, replicate, vec_capacity, sym, ap, ◌∙◌, subst, arith}
use Rattle.std.specs.Prelude.{false}
use Rattle.aos_types.specs.declared.row.TypeRow.{TypeRow}
use Rattle.aos_types.specs.Chain.{NoneContainsItself, circles, cut}
use Rattle.aos_types.specs.Count.{AreSettled}
use Rattle.aos_types.proofs.Appended.{AllBelow}
use Rattle.aos_types.proofs.Settled.{table_is}
use Rattle.aos_types.proofs.Cut as lemma
use Rattle.aos_types.proofs.table.Types.cut_circles.Goals as goal

pub returns-then-branch-clause-circles : goal.returns-then-branch-clause-circles
returns-then-branch-clause-circles c =
    let free = c.in_ok-none_contains_itself.ensures.0 c.if-branch.true in
    let l = c.len.ensures in
    let o = c.self.inside.rows.ok.0 in
    let v = ap length c.self.view_is in
    let n : c.len.result ≡ length c.args.self.now = omega (arith, l, o, v) in
    c.in_ok-flags.ensures ∙ ap (λ m. replicate m false) n ∙ sym (lemma.none_marked c.args.self.now free)

pub returns-then-branch-clause-ok : goal.returns-then-branch-clause-ok
returns-then-branch-clause-ok c =
    sym (lemma.nothing_cut c.args.self.now (c.in_ok-none_contains_itself.ensures.0 c.if-branch.true))

pub returns-then-branch-clause-none_left : goal.returns-then-branch-clause-none_left
returns-then-branch-clause-none_left c = c.in_ok-none_contains_itself.ensures.0 c.if-branch.true

pub cut-requires : goal.cut-requires
cut-requires c =
    let e = c.deref-2.ensures.value ∙ c.in_ok-flags-2.ensures ∙ ap circles c.deref.ensures.value in
    record { long = ap length e ∙ lemma.circles_long c.self.inside.rows.items ∙ sym (ap length c.deref_mut.ensures.value) }

pub invariant_of-self : goal.invariant_of-self
invariant_of-self c =
    let rows = c.self.inside.rows.items in
    let n = c.self.inside.rows.ok.0 in
    let flags = c.deref-2.ensures.value ∙ c.in_ok-flags-2.ensures ∙ ap circles c.deref.ensures.value in
    let whole : List TypeRow = take c.self.inside.rows.len (c.cut.new.rows ++ drop (length c.cut.new.rows) rows) in
    let w : whole ≡ cut (circles rows) rows = lemma.written rows rows c.cut.new.rows c.deref_mut.result.now c.deref-2.result.now c.self.inside.rows.len c.cut.ensures flags c.deref_mut.ensures.value n in
    let s = ap length w in
    let l = lemma.cut_long (circles rows) rows in
    let few = c.self.invariant.few in
    let long = c.self.invariant.long in
    let fits = c.self.invariant.fits in
    let a = c.recount.auto.counts in
    let b = c.recount.ensures.capacity in
    let d = c.deref_mut-2.ensures.len in
    let o = c.self.inside.counts.ok in
    table_is whole c.recount.new.counts c.self.inside.counts.items c.self.inside.counts.len (vec_capacity c.recount.new.path) c.self.inside.above (omega (arith, s, l, few)) (omega (arith, s, l, long, a, d, o))
    (omega (arith, s, l, fits, b)) (subst (λ z. AllBelow c.self.inside.above z) (sym w) (lemma.below_cut (circles rows) rows c.self.inside.above c.self.invariant.below))
    (subst (λ z. NoneContainsItself z → AreSettled z c.recount.new.counts (length z)) c.deref-3.ensures.value c.recount.ensures.settled)
    (omega (arith, a, d, o))

pub returns-clause-none_left : goal.returns-clause-none_left
returns-clause-none_left c =
    let rows = c.self.inside.rows.items in
    let n = c.self.inside.rows.ok.0 in
    let flags = c.deref-2.ensures.value ∙ c.in_ok-flags-2.ensures ∙ ap circles c.deref.ensures.value in
    subst NoneContainsItself (sym (lemma.written rows rows c.cut.new.rows c.deref_mut.result.now c.deref-2.result.now c.self.inside.rows.len c.cut.ensures flags c.deref_mut.ensures.value n)) (lemma.none_left rows)
