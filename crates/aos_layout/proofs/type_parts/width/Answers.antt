use Rattle.std.proofs.Common.{arith, ap, sym}
use Rattle.aos_types.specs.Contents.{contents, of_base}
use Rattle.aos_layout.specs.TypeParts.{width}
use Rattle.aos_layout.proofs.Parts.{width_split, few_bases, fewer_bases, no_bases, front_of}
use Rattle.aos_layout.proofs.type_parts.width.Goals as goal

pub loop-step-init : goal.loop-step-init
loop-step-init c =
    let s = width_split c.args.types.now c.requires c.args.t in
    let o = c.own_width.ensures in
    let a = c.from-all.ensures in
    let f = few_bases c.args.types.now c.requires c.args.t in
    record { counted = omega (arith, s, o, a); fits = omega arith; left = omega (arith, f) }

pub loop-step-preserved : goal.loop-step-preserved
loop-step-preserved c =
    let rows = c.args.types.now in
    let e = sym c.in-Some.ensures in
    let w = ap width (front_of rows c.requires c.loop-step.at c.in-Some.base e) in
    let s = width_split rows c.requires c.in-Some.base in
    let o = c.own_width-in-Some.ensures in
    let a = c.from-all-in-Some.ensures in
    let i = c.loop-step.invariant in
    let f = fewer_bases rows c.requires c.loop-step.at c.in-Some.base e in
    record { counted = omega (arith, w, s, o, a, i); fits = omega (arith, i, o, a); left = omega (arith, f, i) }

pub returns : goal.returns
returns c =
    let rows = c.args.types.now in
    let i = c.loop-step.invariant in
    let t = c.loop-step-test.false in
    let n = no_bases rows c.requires c.loop-step.at (omega (arith, i, t)) in
    let w = ap (λ o. width (of_base (contents rows) o)) n in
    omega (arith, i, w)
