use Rattle.std.proofs.Common.{ap, ◌∙◌, rules}
use Rattle.std.proofs.lemmas.List.Sorted.{answers_always}
use Rattle.aos_sim.specs.Search.{in_order}
use Rattle.aos_emit_stat.proofs.Sorts.{low, sorted_in_order}
use Rattle.aos_emit_stat.proofs.search.rows_of.Goals as goal

pub returns : goal.returns
returns c =
    let keys = answers_always _ _ _ (λ f a r next called. search rules) in
    let sorted = c.in_ok-sort_by_key.ensures in
    sorted_in_order _ _ (sorted.sorted low keys) (sorted.stable low keys) ∙ ap in_order c.in_ok-rows.ensures
