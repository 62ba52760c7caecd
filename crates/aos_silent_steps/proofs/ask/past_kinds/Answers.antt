use Rattle.std.proofs.Common.{◌≡◌, suc, ◌+◌, ◌-◌, ◌++◌, reverse, replicate, sym, ap, ◌∙◌, arith}
use Rattle.aos_silent_steps.specs.Acts.{or_lost}
use Rattle.aos_silent_steps.specs.Taken.{kinds_from}
use Rattle.aos_silent_steps.proofs.ask.past_kinds.Goals as goal

pub returns-in_err-past : goal.returns-in_err-past
returns-in_err-past c kinds k =
    let s = reverse c.args.stack.now in
    let left = c.args.count - (c.loop.counter + 1) in
    let more : c.args.count - c.loop.counter ≡ suc left = omega arith in
    c.loop.invariant kinds k ∙ ap (λ n. kinds_from (replicate n c.args.kind ++ kinds) c.loop.past k s) more
    ∙ c.past_kind.ensures (replicate left c.args.kind ++ kinds) k
    ∙ ap (λ r. or_lost r (λ d. kinds_from (replicate left c.args.kind ++ kinds) d k s)) c.in_err-past.was
    ∙ ap (λ r. or_lost r (λ d. kinds_from kinds d k s)) (sym c.from_residual.ensures)

pub loop-preserved : goal.loop-preserved
loop-preserved c kinds k =
    let s = reverse c.args.stack.now in
    let left = c.args.count - (c.loop.counter + 1) in
    let more : c.args.count - c.loop.counter ≡ suc left = omega arith in
    c.loop.invariant kinds k ∙ ap (λ n. kinds_from (replicate n c.args.kind ++ kinds) c.loop.past k s) more
    ∙ c.past_kind.ensures (replicate left c.args.kind ++ kinds) k
    ∙ ap (λ r. or_lost r (λ d. kinds_from (replicate left c.args.kind ++ kinds) d k s)) c.in_ok-past.was
