use Rattle.std.proofs.Common.{◌≡◌, List, [], ◌∷◌, ◌++◌, length, None, sym, ap, ◌∙◌, subst, refl, arith}
use Rattle.std.proofs.lemmas.Option.{slice_get_within}
use Rattle.aos_types.specs.declared.count.Step.{Step}
use Rattle.aos_types.proofs.Way.{IsOnWay, way_begins, way_on, way_back, way_round, way_ends, top_is_missing, top_is_seen, back_nearer}
use Rattle.aos_types.proofs.count.count_from.Goals as goal

nothing : (xs : List Step) → length xs ≡ 0 → xs ≡ []
nothing [] e = refl
nothing (x ∷ xs) e = absurd (omega arith)

pub loop-top-init : goal.loop-top-init
loop-top-init c =
    let b = way_begins c.args.rows.now c.args.counts.now c.args.t c.requires.long (sym c.is_missing.ensures ∙ c.if-not-is_missing.false) in (
      subst (λ z. IsOnWay c.args.rows.now c.args.counts.now c.args.t c.args.counts.now z) (sym (c.push_reserved.ensures.items ∙ ap (λ z. z ++ record { at = c.args.t; seen = 0 } ∷ []) c.clear.ensures.items)) b,
      c.push_reserved.ensures.capacity ∙ c.clear.ensures.capacity,
    )

pub missing_part-requires : goal.missing_part-requires
missing_part-requires c =
    record {
      before = top_is_seen c.args.rows.now c.args.counts.now c.args.t c.loop-top.counts c.loop-top.path.items c.pop.new.self.items c.in-Some.top c.in-Some.ensures.items c.loop-top.invariant.0;
    }

pub returns-then-len-rows-clause-made : goal.returns-then-len-rows-clause-made
returns-then-len-rows-clause-made c = c.loop-top.invariant.0.walking.made

pub returns-then-len-rows-clause-free : goal.returns-then-len-rows-clause-free
returns-then-len-rows-clause-free c = c.loop-top.invariant.0.walking.free

pub returns-then-len-rows-clause-kept : goal.returns-then-len-rows-clause-kept
returns-then-len-rows-clause-kept c = c.loop-top.invariant.0.walking.kept

pub returns-then-len-rows-clause-otherwise : goal.returns-then-len-rows-clause-otherwise
returns-then-len-rows-clause-otherwise c =
    let l = c.len.ensures in
    let o = c.push_reserved-in-Some-missing_part.new.self.ok in
    let t = c.if-len-rows.true in
    λ _. way_round c.args.rows.now c.args.counts.now c.args.t c.loop-top.counts c.loop-top.path.items c.pop.new.self.items c.in-Some.top c.in-Some.ensures.items c.loop-top.invariant.0 c.in-Some-missing_part.part c.missing_part.new.seen c.push_reserved-in-Some-missing_part.new.self.items (sym c.in-Some-missing_part.ensures.first) c.push_reserved-in-Some-missing_part.ensures.items (omega (arith, l, o, t))

pub returns-then-len-rows-clause-capacity : goal.returns-then-len-rows-clause-capacity
returns-then-len-rows-clause-capacity c =
    c.push_reserved-in-Some-missing_part.ensures.capacity ∙ c.pop.ensures.capacity ∙ c.loop-top.invariant.1

pub push_reserved-requires-in-Some-missing_part-2 : goal.push_reserved-requires-in-Some-missing_part-2
push_reserved-requires-in-Some-missing_part-2 c =
    let l = c.len.ensures in
    let t = c.if-len-rows.false in
    let k = c.push_reserved-in-Some-missing_part.ensures.capacity ∙ c.pop.ensures.capacity ∙ c.loop-top.invariant.1 in
    let r = c.requires.room in
    omega (arith, l, t, k, r)

pub loop-top-preserved-in-Some-missing_part : goal.loop-top-preserved-in-Some-missing_part
loop-top-preserved-in-Some-missing_part c =
    let l = c.len.ensures in
    let o = c.push_reserved-in-Some-missing_part.new.self.ok in
    let t = c.if-len-rows.false in (
      way_on c.args.rows.now c.args.counts.now c.args.t c.loop-top.counts c.loop-top.path.items c.pop.new.self.items c.in-Some.top c.in-Some.ensures.items c.loop-top.invariant.0 c.in-Some-missing_part.part c.missing_part.new.seen c.push_reserved-in-Some-missing_part.new.self.items c.push_reserved-in-Some-missing_part-2.new.self.items (sym c.in-Some-missing_part.ensures.first) c.in-Some-missing_part.ensures.after c.push_reserved-in-Some-missing_part.ensures.items (omega (arith, l, o, t)) c.push_reserved-in-Some-missing_part-2.ensures.items,
      c.push_reserved-in-Some-missing_part-2.ensures.capacity ∙ c.push_reserved-in-Some-missing_part.ensures.capacity ∙ c.pop.ensures.capacity ∙ c.loop-top.invariant.1,
    )

pub bounds-counts-top : goal.bounds-counts-top
bounds-counts-top c =
    slice_get_within c.loop-top.counts c.in-Some.top.at.0 None (top_is_missing c.args.rows.now c.args.counts.now c.args.t c.loop-top.counts c.loop-top.path.items c.pop.new.self.items c.in-Some.top c.in-Some.ensures.items c.loop-top.invariant.0)

pub loop-top-smaller : goal.loop-top-smaller
loop-top-smaller c =
    back_nearer c.args.rows.now c.args.counts.now c.args.t c.loop-top.counts c.loop-top.path.items c.pop.new.self.items c.in-Some.top c.in-Some.ensures.items c.loop-top.invariant.0 c.of_type-own.result

pub loop-top-preserved : goal.loop-top-preserved
loop-top-preserved c = (
  way_back c.args.rows.now c.args.counts.now c.args.t c.loop-top.counts c.loop-top.path.items c.pop.new.self.items c.in-Some.top c.in-Some.ensures.items c.loop-top.invariant.0 c.of_type-own.result (sym c.in-None.ensures.first) c.of_type-own.ensures,
  c.pop.ensures.capacity ∙ c.loop-top.invariant.1,
)

pub returns-clause-made : goal.returns-clause-made
returns-clause-made c = c.loop-top.invariant.0.walking.made

pub returns-clause-free : goal.returns-clause-free
returns-clause-free c = c.loop-top.invariant.0.walking.free

pub returns-clause-kept : goal.returns-clause-kept
returns-clause-kept c = c.loop-top.invariant.0.walking.kept

pub returns-clause-own : goal.returns-clause-own
returns-clause-own c =
    let e = nothing c.loop-top.path.items (let o = c.loop-top.path.ok.0 in let k = c.in_default.ensures.cases.0 in omega (arith, o, k)) in
    λ _. way_ends c.args.rows.now c.args.counts.now c.args.t c.loop-top.counts (subst (λ z. IsOnWay c.args.rows.now c.args.counts.now c.args.t c.loop-top.counts z) e c.loop-top.invariant.0)

pub returns-clause-capacity : goal.returns-clause-capacity
returns-clause-capacity c = c.pop.ensures.capacity ∙ c.loop-top.invariant.1
