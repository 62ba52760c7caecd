use Rattle.std.proofs.Common.{ℕ, ◌++◌, ap, ◌∙◌}
use Rattle.std.specs.declared.vec.Vec.{Vec}
use Rattle.std.specs.declared.alloc.Global.{Global}
use Rattle.aos_layout.specs.Layout.{leaves, text_cells}
use Rattle.aos_layout.proofs.Frames.{kinds_step, places_step}
use Rattle.aos_layout.proofs.cells.Cells.put_texts.Goals as goal

pub loop-text-preserved : goal.loop-text-preserved
loop-text-preserved c =
    let see = λ (t : Vec ℕ Global). t.items in
    let xs = c.args.texts.now in
    let i = c.loop-text.text-index in
    let x = c.text-item.result in
    let l = c.loop-text-test.true in
    let was = c.loop-text.self in
    let begun = c.in_ok-begin_part.ensures in
    let kept = ap (λ v. v.items) begun.kinds in
    let pushed = c.in_ok-push_text.ensures ∙ ap (λ t. c.begin_part.new.self.kinds.items ++ leaves (text_cells t)) c.deref.ensures.value ∙ ap (λ z. z ++ leaves (text_cells x.items)) kept ∙ ap (λ t. was.kinds.items ++ leaves (text_cells (see t))) c.text-item.is in
    record {
      kinds = kinds_step text_cells see xs i x l c.args.self.now.kinds.items was.kinds.items c.loop-text.invariant.kinds c.push_text.new.kinds.items pushed;
      places = places_step text_cells see xs i x l c.args.self.now.kinds.items was.kinds.items c.loop-text.invariant.kinds c.args.self.now.places.items was.places.items c.begin_part.new.self.places.items c.loop-text.invariant.places begun.places;
    }
