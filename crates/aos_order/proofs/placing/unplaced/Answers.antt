use Rattle.std.proofs.Common.{◌≡◌, [], ◌∷◌, ◌++◌, cond, not, ap, sym, ◌∙◌, append-nil}
use Rattle.aos_order.specs.Placing.{is_among}
use Rattle.aos_order.proofs.Searches.{filter_range_more}
use Rattle.aos_order.proofs.placing.unplaced.Goals as goal
use Rattle.aos_order.proofs.placing.unplaced.Goals.{then-not-contains+in_ok-push, else-not-contains}

pub loop-file-preserved : goal.loop-file-preserved
loop-file-preserved c =
    let i = c.loop-file.file-counter in
    let keys = c.args.placed.now.keys in
    let step : c.if-not-contains.left.items ≡ c.loop-file.left.items ++ cond (not (is_among keys i)) (i ∷ []) [] =
    elim c.if-not-contains.branch [
      | then-not-contains+in_ok-push w ↦ ap (λ v. v.items) w.left-is ∙ w.in_ok-push.ensures.items ∙ ap (λ b. c.loop-file.left.items ++ cond (not b) (i ∷ []) []) (sym (sym c.contains.ensures ∙ w.if-not-contains.true))
      | else-not-contains w ↦ ap (λ v. v.items) w.left-is ∙ sym (append-nil c.loop-file.left.items) ∙ ap (λ b. c.loop-file.left.items ++ cond (not b) (i ∷ []) []) (sym (sym c.contains.ensures ∙ w.if-not-contains.false))
    ] in
    step ∙ ap (λ l. l ++ cond (not (is_among keys i)) (i ∷ []) []) c.loop-file.invariant ∙ sym (filter_range_more (λ k. not (is_among keys k)) i)
