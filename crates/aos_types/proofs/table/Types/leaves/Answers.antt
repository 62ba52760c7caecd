use Rattle.std.proofs.Common.{◌<◌, ◌∙◌, sym, length, subst}
use Rattle.aos_types.specs.Chain.{NoneContainsItself}
use Rattle.aos_types.proofs.Settled.{limited}
use Rattle.aos_types.proofs.table.Types.leaves.Goals as goal

pub returns : goal.returns
returns c =
    let rows = c.self.inside.rows.items in
    let free = subst (λ z. NoneContainsItself z) (sym c.self.view_is) c.requires.none_contains_itself in
    let l = subst (λ z. c.args.t.0 < length z) (sym c.self.view_is) c.requires.added in
    rw (← c.self.view_is) (c.within_limit.ensures ∙ limited rows c.self.inside.counts.items c.args.t c.index.result.now c.self.invariant.long c.self.invariant.settled free l c.index.ensures)
