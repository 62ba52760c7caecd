use Rattle.std.proofs.Common.{◌≡◌, suc, ◌+◌, ◌-◌, length, ap, ◌∙◌, arith}
use Rattle.aos_code.specs.Silent.{extends_by}
use Rattle.aos_silent_steps.proofs.Extending.{extends_base}
use Rattle.aos_silent_steps.proofs.objects.extends.Goals as goal

pub loop-preserved : goal.loop-preserved
loop-preserved c =
    let types = c.args.types.now in
    let left = length types - (c.loop.counter + 1) in
    let more : length types - c.loop.counter ≡ suc left = omega arith in
    c.loop.invariant ∙ ap (λ n. extends_by n types c.loop.now c.args.other) more ∙ extends_base left types c.loop.now c.args.other c.in-Some.desc.now c.if-now-other.false c.in-Some.ensures
