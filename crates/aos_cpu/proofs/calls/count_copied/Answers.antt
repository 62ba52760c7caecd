use Rattle.std.proofs.Common.{◌≡◌, ◌+◌, ◌-◌, ◌^◌, length, drop, min, ap, sym, ◌∙◌, arith}
use Rattle.std.specs.Option.{option_map}
use Rattle.std.specs.Prelude.{Some}
use Rattle.std.proofs.lemmas.List.{length-append}
use Rattle.aos_code.specs.declared.instr.Kind.TheVariants.{N}
use Rattle.aos_code.specs.declared.image.ParamKind.TheVariants as param
use Rattle.aos_store.specs.Store.{rooted_in}
use Rattle.aos_cpu.specs.Calls.{gift_in, gifts, all_copied}
use Rattle.aos_cpu.proofs.Handing.{gifts_more, gifts_all}
use Rattle.aos_cpu.proofs.calls.count_copied.Goals as goal

pub loop-param-preserved : goal.loop-param-preserved
loop-param-preserved c =
    let x = rooted_in c.args.frames.now c.args.store.now in
    let ps = c.args.params.now in
    let i = c.loop-param.param-index in
    let vs = c.loop-param.rest.now in
    let g = gift_in c.in-Some.given in
    record {
      counted = gifts_more x ps i (param.Scalar N) vs (option_map (λ gs. min (length (all_copied gs)) (2 ^ 64 - 1)) (gifts x ps c.args.args.now)) (λ gs. min (c.loop-param.count + length (all_copied gs)) (2 ^ 64 - 1)) g (λ gs. min (c.saturating_add-count.result + length (all_copied gs)) (2 ^ 64 - 1)) c.loop-param-test.true c.loop-param.invariant.counted c.in-Some.ensures
          (λ gs. omega (arith, length-append g.copied (all_copied gs), c.saturating_add-count.ensures))
          ∙ ap (λ ws. option_map (λ gs. min (c.saturating_add-count.result + length (all_copied gs)) (2 ^ 64 - 1)) (gifts x (drop (i + 1) ps) ws)) (sym c.past-rest.ensures);
      within = omega (arith, c.saturating_add-count.ensures);
    }

pub returns : goal.returns
returns c =
    let x = rooted_in c.args.frames.now c.args.store.now in
    let ps = c.args.params.now in
    let all = gifts_all x ps c.loop-param.param-index (param.Scalar N) c.loop-param.rest.now (option_map (λ gs. min (length (all_copied gs)) (2 ^ 64 - 1)) (gifts x ps c.args.args.now))
    (λ gs. min (c.loop-param.count + length (all_copied gs)) (2 ^ 64 - 1)) c.loop-param-test.false c.loop-param.invariant.counted in
    let same : c.loop-param.count ≡ min (c.loop-param.count + 0) (2 ^ 64 - 1) = omega (arith, c.loop-param.invariant.within) in
    ap Some same ∙ sym all
