use Rattle.std.proofs.Common.{◌≡◌, ◌+◌, ◌++◌, length, drop, ap, sym, ◌∙◌, append_assoc}
use Rattle.std.specs.Option.{option_map}
use Rattle.aos_code.specs.declared.instr.Kind.TheVariants.{N}
use Rattle.aos_code.specs.declared.image.ParamKind.TheVariants as param
use Rattle.aos_store.specs.Store.{rooted_in}
use Rattle.aos_cpu.specs.Calls.{gift_in, gift_cells, gifts, all_cells}
use Rattle.aos_cpu.proofs.Handing.{gifts_more}
use Rattle.aos_cpu.proofs.calls.hand_cells.Goals as goal

pub loop-param-preserved : goal.loop-param-preserved
loop-param-preserved c =
    let x = rooted_in c.args.frames.now c.args.store.now in
    let ps = c.args.params.now in
    let i = c.loop-param.param-index in
    let vs = c.loop-param.rest.now in
    let g = gift_in c.in-Some.given in
    let old = c.loop-param.cells.items in
    let own = gift_cells c.args.here c.loop-param.at g in
    let items : c.hand_one.new.cells.items ≡ old ++ own = c.in_ok-hand_one-in-Some.ensures in
    let at : c.in_ok-at-in-Some.at ≡ c.loop-param.at + length g.copied = c.in_ok-at-in-Some.ensures in
    gifts_more x ps i (param.Scalar N) vs (option_map (λ gs. c.args.cells.now.items ++ all_cells c.args.here c.args.from gs) (gifts x ps c.args.args.now)) (λ gs. c.loop-param.cells.items ++ all_cells c.args.here c.loop-param.at gs) g (λ gs. c.hand_one.new.cells.items ++ all_cells c.args.here c.in_ok-at-in-Some.at gs) c.loop-param-test.true c.loop-param.invariant c.in-Some.ensures
    (λ gs. sym (append_assoc old own (all_cells c.args.here (c.loop-param.at + length g.copied) gs)) ∙ (λ k. sym items k ++ all_cells c.args.here (sym at k) gs))
    ∙ ap (λ ws. option_map (λ gs. c.hand_one.new.cells.items ++ all_cells c.args.here c.in_ok-at-in-Some.at gs) (gifts x (drop (i + 1) ps) ws)) (sym c.past-rest.ensures)
