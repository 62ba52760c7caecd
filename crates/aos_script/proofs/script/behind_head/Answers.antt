use Rattle.std.proofs.Common.{◌≡◌, refl, ap, ◌∙◌, ◌∷◌, length, arith}
use Rattle.aos_script.specs.Words.{lines_left}
use Rattle.aos_script.specs.Listing.{head_line}
use Rattle.aos_script.proofs.Rests.{left_is, skips_none, skips_more, skips_at}
use Rattle.aos_script.proofs.script.behind_head.Goals as goal

pub loop-left-init : goal.loop-left-init
loop-left-init c = record { skips = skips_none (lines_left c.args.left); few = let most = c.requires in omega arith }

pub loop-left-preserved : goal.loop-left-preserved
loop-left-preserved c =
    let is = left_is c.loop-left.left c.in-Some.text c.in-Some.is c.cut.ensures in
    let one_less = ap length is in
    let other = λ (same : c.cut.result.0.now ≡ head_line). let x = c.if-is.ensures.1 same in absurd cc in
    let few = c.loop-left.invariant.few in
    record {
      skips = skips_more (lines_left c.args.left) c.loop-left.n (lines_left c.loop-left.left) c.cut.result.0.now (lines_left c.cut.result.1) c.loop-left.invariant.skips is other;
      few = omega arith;
    }

pub returns-then-is-clause-found : goal.returns-then-is-clause-found
returns-then-is-clause-found c =
    let is = left_is c.loop-left.left c.in-Some.text c.in-Some.is c.cut.ensures in
    skips_at c.loop-left.invariant.skips (is ∙ ap (λ line. line ∷ lines_left c.cut.result.1) (c.if-is.ensures.0 refl))

pub returns-then-is-clause-few : goal.returns-then-is-clause-few
returns-then-is-clause-few c =
    let one_less = ap length (left_is c.loop-left.left c.in-Some.text c.in-Some.is c.cut.ensures) in
    let few = c.loop-left.invariant.few in
    omega arith

pub returns-clause-missing : goal.returns-clause-missing
returns-clause-missing c = skips_at c.loop-left.invariant.skips (ap lines_left c.in_default.is)
