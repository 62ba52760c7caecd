use Rattle.std.proofs.Common.{◌<◌, ◌^◌, ◌+◌, arith, subst}
use Rattle.std.specs.Prelude.{Bool}
use Rattle.aos_cpu.specs.Private.{HasTried}
use Rattle.aos_cpu.proofs.Own.{none_made, made_more, made_still}
use Rattle.aos_cpu.proofs.InPlace.{told_both}
use Rattle.aos_cpu.proofs.alone.private.Goals as goal

pub loop-made-init : goal.loop-made-init
loop-made-init c =
    let old = c.args.frames.now in
    let mid = c.make_in_place-made.new.frames in
    let lt : old.turns < 2 ^ 64 = omega arith in
    let none = none_made c.args.image.now c.args.budget old lt in
    let small : 0 + c.make_in_place-made.result < 2 ^ 64 = omega arith in
    let both = told_both c.args.image.now c.args.budget 0 c.make_in_place-made.result old old mid lt small none.0 none.1 c.make_in_place-made.ensures.made in
    record { turns = both.0; told = omega (arith, both.1); most = c.make_in_place-made.ensures.most; memory = c.make_in_place-made.ensures.none; fit = c.make_in_place-made.ensures.fit }

pub loop-made-preserved : goal.loop-made-preserved
loop-made-preserved c =
    let old = c.args.frames.now in
    let lt : old.turns < 2 ^ 64 = omega arith in
    let small : c.loop-made.made + 1 < 2 ^ 64 = omega arith in
    let tried = subst (λ (is : Bool). HasTried c.args.image.now is c.loop-made.frames c.make_private.new.frames) c.if-not-branch.false c.in_ok-make_private.ensures.ok in
    let one = made_more c.args.image.now c.args.budget c.loop-made.made old c.loop-made.frames c.make_private.new.frames lt small c.loop-made.invariant.turns c.loop-made.invariant.told c.if-budget-frames.false tried in
    let all : c.loop-made.made + 1 + c.make_in_place.result < 2 ^ 64 = omega arith in
    let both = told_both c.args.image.now c.args.budget (c.loop-made.made + 1) c.make_in_place.result old c.make_private.new.frames c.make_in_place.new.frames lt all one.0 one.1 c.make_in_place.ensures.made in
    record {
      turns = both.0;
      told = omega (arith, both.1);
      most = omega arith;
      memory = c.make_in_place.ensures.none;
      fit = λ whole fit. c.make_in_place.ensures.fit whole (c.make_private.ensures.fit whole (c.loop-made.invariant.fit whole fit));
    }

pub returns-in_err-make_private-clause-made : goal.returns-in_err-make_private-clause-made
returns-in_err-make_private-clause-made c =
    (made_still c.args.image.now c.args.budget c.args.frames.now c.loop-made.frames c.make_private.new.frames c.loop-made.invariant.turns c.in_err-make_private.ensures.err c.in_err-make_private.ensures.counts).0

pub returns-then-not-branch-clause-made : goal.returns-then-not-branch-clause-made
returns-then-not-branch-clause-made c =
    let holds = subst (λ (is : Bool). HasTried c.args.image.now is c.loop-made.frames c.make_private.new.frames) c.if-not-branch.true c.in_ok-make_private.ensures.ok in
    (made_still c.args.image.now c.args.budget c.args.frames.now c.loop-made.frames c.make_private.new.frames c.loop-made.invariant.turns holds.alike holds.counts).0

pub returns-in_err-make_private-clause-fit : goal.returns-in_err-make_private-clause-fit
returns-in_err-make_private-clause-fit c whole fit = c.make_private.ensures.fit whole (c.loop-made.invariant.fit whole fit)

pub returns-then-not-branch-clause-fit : goal.returns-then-not-branch-clause-fit
returns-then-not-branch-clause-fit c whole fit = c.make_private.ensures.fit whole (c.loop-made.invariant.fit whole fit)
