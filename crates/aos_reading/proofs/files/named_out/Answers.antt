use Rattle.std.proofs.Common.{◌≡◌, Some, true, slice_get, refl, sym, ap, ◌∙◌, arith, below_more, option_map}
use Rattle.aos_reading.specs.Files.{is_named_out}
use Rattle.aos_reading.specs.Sources.{sources}
use Rattle.aos_reading.proofs.Orders.{source_at, refused_at, out_here, out_nowhere}
use Rattle.aos_reading.proofs.files.named_out.Goals as goal

pub returns-then-is_word : goal.returns-then-is_word
returns-then-is_word c =
    let ts = c.args.texts.now in
    let ms = c.args.trees.now in
    let k = c.loop-file.file in
    let m = c.index-trees-file.result in
    let at = source_at ts ms c.requires.same k m c.index-texts-file.result c.deref.result.now c.loop-file-test.true c.index-trees-file.is c.index-texts-file.is c.deref.ensures.value in
    let here : is_named_out (slice_get (sources ts ms) k) ≡ true = ap is_named_out at ∙ sym c.is_word.ensures ∙ c.if-is_word.true in
    let told = refused_at ts ms c.requires.same 11 k m m.name.pos c.refused.result c.loop-file-test.true c.index-trees-file.is refl c.refused.ensures in
    ap (λ e. Some e) told ∙ ap (option_map _) (sym (out_here ts ms c.requires.same k c.loop-file-test.true here c.loop-file.invariant))

pub loop-file-preserved : goal.loop-file-preserved
loop-file-preserved c =
    let at = source_at c.args.texts.now c.args.trees.now c.requires.same c.loop-file.file c.index-trees-file.result c.index-texts-file.result c.deref.result.now c.loop-file-test.true
    c.index-trees-file.is c.index-texts-file.is c.deref.ensures.value in
    below_more _ _ c.loop-file.invariant (ap is_named_out at ∙ sym c.is_word.ensures ∙ c.if-is_word.false)

pub returns : goal.returns
returns c =
    ap (option_map _) (sym (out_nowhere c.args.texts.now c.args.trees.now c.requires.same (λ j lt. c.loop-file.invariant j (omega arith))))
