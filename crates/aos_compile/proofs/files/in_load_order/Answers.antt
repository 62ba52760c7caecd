use Rattle.std.proofs.Common.{◌+◌, ℕ, get_or, sym, ap, ◌∙◌}
use Rattle.std.proofs.lemmas.List.{length-map}
use Rattle.std.proofs.lemmas.Result.{err_from_is_err_and}
use Rattle.aos_typed.specs.Seen.{seen_module}
use Rattle.aos_compile.specs.Seen.{seen_world}
use Rattle.aos_reading.specs.Sources.{sources}
use Rattle.aos_reading.proofs.Orders.{source_at}
use Rattle.aos_compile.proofs.Loads.{longer, module_broken, module_more}
use Rattle.aos_compile.proofs.files.in_load_order.Goals as goal

pub returns-in_err-world-2-clause-refused : goal.returns-in_err-world-2-clause-refused
returns-in_err-world-2-clause-refused c =
    let p = err_from_is_err_and c.from_residual-in_err-world-2.result c.from_residual-in_err-world-2.ensures.1 in
    let ts = c.args.texts.now in
    let ms = c.args.trees.now in
    let order = c.args.order.now in
    let i = c.loop-file.file-index in
    let m = c.index-trees-file.result in
    let text = c.deref.result.now in
    let at = source_at ts ms c.requires.same (get_or order i 0) m c.index-texts-file.result text (c.requires.within i 0 c.loop-file-test.true) c.index-trees-file.is c.index-texts-file.is
    c.deref.ensures.value in
    rw (p.1, p.2) (module_broken (sources ts ms) order i (seen_world c.loop-file.world) text m c.in_err-world-2.field-0.0 c.loop-file-test.true at c.loop-file.invariant.rest
    c.in_err-world-2.ensures.refused)

pub loop-file-preserved : goal.loop-file-preserved
loop-file-preserved c =
    let ts = c.args.texts.now in
    let ms = c.args.trees.now in
    let order = c.args.order.now in
    let i = c.loop-file.file-index in
    let m = c.index-trees-file.result in
    let text = c.deref.result.now in
    let w = c.loop-file.world in
    let v = c.in_ok-world-2.world in
    let at = source_at ts ms c.requires.same (get_or order i 0) m c.index-texts-file.result text (c.requires.within i 0 c.loop-file-test.true) c.index-trees-file.is c.index-texts-file.is
    c.deref.ensures.value in
    let grown = longer (seen_world w) (get_or order i 0) text m (seen_world v) c.in_ok-world-2.ensures.went in
    let before = length-map w.modules.items seen_module in
    let behind = length-map v.modules.items seen_module in
    record {
      rest = module_more (sources ts ms) order i (seen_world w) (seen_world v) text m c.loop-file-test.true at c.loop-file.invariant.rest c.in_ok-world-2.ensures.went;
      before = grown.before ∙ ap (λ (n : ℕ). n + 1) c.loop-file.invariant.before;
      modules = sym behind ∙ grown.modules ∙ ap (λ (n : ℕ). n + 1) (before ∙ c.loop-file.invariant.modules);
    }
