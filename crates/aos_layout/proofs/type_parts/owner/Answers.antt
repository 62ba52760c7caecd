use Rattle.std.proofs.Common.{◌<◌, arith, ap, sym, refl, ◌∙◌}
use Rattle.aos_layout.specs.TypeParts.{width, front}
use Rattle.aos_layout.proofs.Parts.{width_split, fewer_bases, front_of, part_in_base, before_in_base, base_smaller, part_in_own, before_in_own}
use Rattle.aos_layout.proofs.type_parts.owner.Goals as goal

pub overflow_sub-begin : goal.overflow_sub-begin
overflow_sub-begin c =
    let s = width_split c.args.types.now c.requires.none_contains_itself c.args.t in
    let w = c.width.ensures in
    let o = c.own_width.ensures in
    let f = c.from.ensures in
    omega (arith, s, w, o, f)

pub loop-begin-init : goal.loop-begin-init
loop-begin-init c =
    let s = width_split c.args.types.now c.requires.none_contains_itself c.args.t in
    let w = c.width.ensures in
    let o = c.own_width.ensures in
    let f = c.from.ensures in
    record { begins = omega (arith, s, w, o, f); there = c.requires.there; part = refl; before = refl; sizes = omega arith }

pub overflow_sub-begin-in-loop-begin : goal.overflow_sub-begin-in-loop-begin
overflow_sub-begin-in-loop-begin c =
    let rows = c.args.types.now in
    let e = sym c.in-Some.ensures in
    let w = ap width (front_of rows c.requires.none_contains_itself c.loop-begin.at c.in-Some.base e) in
    let s = width_split rows c.requires.none_contains_itself c.in-Some.base in
    let o = c.own_width-in-loop-begin.ensures in
    let f = c.from-begin.ensures in
    let i = c.loop-begin.invariant in
    omega (arith, w, s, o, f, i)

pub loop-begin-smaller : goal.loop-begin-smaller
loop-begin-smaller c =
    let f = fewer_bases c.args.types.now c.requires.none_contains_itself c.loop-begin.at c.in-Some.base (sym c.in-Some.ensures) in
    omega (arith, f)

pub loop-begin-preserved : goal.loop-begin-preserved
loop-begin-preserved c =
    let rows = c.args.types.now in
    let free = c.requires.none_contains_itself in
    let e = sym c.in-Some.ensures in
    let w = ap width (front_of rows free c.loop-begin.at c.in-Some.base e) in
    let s = width_split rows free c.in-Some.base in
    let o = c.own_width-in-loop-begin.ensures in
    let f = c.from-begin.ensures in
    let i = c.loop-begin.invariant in
    let p = c.from-place.ensures in
    let t = c.loop-begin-test.true in
    let l : c.args.number < width (front rows c.loop-begin.at) = omega (arith, i, p, t) in
    let k = base_smaller rows free c.loop-begin.at c.in-Some.base e in
    record {
      begins = omega (arith, w, s, o, f, i);
      there = omega (arith, w, l);
      part = i.part ∙ part_in_base rows free c.loop-begin.at c.in-Some.base c.args.number e l;
      before = i.before ∙ before_in_base rows free c.loop-begin.at c.in-Some.base c.args.number e l;
      sizes = omega (arith, k, i);
    }

pub returns-clause-there : goal.returns-clause-there
returns-clause-there c =
    let s = width_split c.args.types.now c.requires.none_contains_itself c.loop-begin.at in
    let i = c.loop-begin.invariant in
    let p = c.from-place.ensures in
    let t = c.loop-begin-test.false in
    omega (arith, s, i, p, t)

pub returns-clause-part : goal.returns-clause-part
returns-clause-part c =
    let i = c.loop-begin.invariant in
    let p = c.from-place.ensures in
    let t = c.loop-begin-test.false in
    i.part ∙ part_in_own c.args.types.now c.requires.none_contains_itself c.loop-begin.at c.args.number _ (omega (arith, i, p, t))

pub returns-clause-before : goal.returns-clause-before
returns-clause-before c =
    let i = c.loop-begin.invariant in
    let p = c.from-place.ensures in
    let t = c.loop-begin-test.false in
    i.before ∙ before_in_own c.args.types.now c.requires.none_contains_itself c.loop-begin.at c.args.number _ (omega (arith, i, p, t))
