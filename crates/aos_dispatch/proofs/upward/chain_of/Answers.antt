use Rattle.std.proofs.Common.{◌<◌, ◌+◌, ◌-◌, ◌++◌, length, sym, ap, ◌∙◌, arith}
use Rattle.aos_typed.specs.Methods.{on_base}
use Rattle.aos_typed.specs.Seen.{seen_program}
use Rattle.aos_dispatch.specs.Tables.{chain_by}
use Rattle.aos_dispatch.proofs.Tables.{chain_more}
use Rattle.aos_dispatch.proofs.upward.chain_of.Goals as goal

pub loop-step-preserved : goal.loop-step-preserved
loop-step-preserved c =
    let p = seen_program c.args.program.now in
    let n = length c.args.program.now.objects.items in
    let l = c.loop-step in
    let lt : l._step < n = omega (arith, c.loop-step-test.true, c.len-step-end.ensures) in
    (λ i. c.in_ok-push.ensures.items i ++ on_base (chain_by p (n - (l._step + 1))) (c.base_of-rest.ensures i))
    ∙ chain_more p n l._step c.in-Some.of l.chain.items lt
    ∙ ap (λ o. l.chain.items ++ on_base (chain_by p (n - l._step)) o) (sym c.in-Some.is)
    ∙ l.invariant
