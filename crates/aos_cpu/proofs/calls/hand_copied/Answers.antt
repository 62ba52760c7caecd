use Rattle.std.proofs.Common.{◌≡◌, ◌+◌, ◌++◌, drop, ap, sym, ◌∙◌, append_assoc}
use Rattle.std.specs.Option.{option_map}
use Rattle.aos_code.specs.declared.instr.Kind.TheVariants.{N}
use Rattle.aos_code.specs.declared.image.ParamKind.TheVariants as param
use Rattle.aos_store.specs.Store.{rooted_in}
use Rattle.aos_cpu.specs.Calls.{gift_in, gifts, all_copied}
use Rattle.aos_cpu.proofs.Handing.{gifts_more}
use Rattle.aos_cpu.proofs.calls.hand_copied.Goals as goal

pub loop-param-preserved : goal.loop-param-preserved
loop-param-preserved c =
    let x = rooted_in c.args.frames.now c.args.store.now in
    let ps = c.args.params.now in
    let i = c.loop-param.param-index in
    let vs = c.loop-param.rest.now in
    let g = gift_in c.in-Some.given in
    let old = c.loop-param.cells.items in
    let items : c.extend_from_slice.new.self.items ≡ old ++ g.copied = c.in_ok-extend_from_slice-in-Some.ensures.items in
    gifts_more x ps i (param.Scalar N) vs (option_map (λ gs. c.args.cells.now.items ++ all_copied gs) (gifts x ps c.args.args.now)) (λ gs. c.loop-param.cells.items ++ all_copied gs) g (λ gs. c.extend_from_slice.new.self.items ++ all_copied gs) c.loop-param-test.true c.loop-param.invariant c.in-Some.ensures
    (λ gs. sym (append_assoc old g.copied (all_copied gs)) ∙ (λ k. sym items k ++ all_copied gs))
    ∙ ap (λ ws. option_map (λ gs. c.extend_from_slice.new.self.items ++ all_copied gs) (gifts x (drop (i + 1) ps) ws)) (sym c.past-rest.ensures)
