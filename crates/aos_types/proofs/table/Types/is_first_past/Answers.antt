use Rattle.std.proofs.Common.{◌≡◌, List, Option, ℕ, sym, ◌∙◌, subst}
use Rattle.std.specs.Prelude.{not, ◌&&◌}
use Rattle.std.specs.List.{list_any}
use Rattle.aos_types.specs.declared.row.TypeRow.{TypeRow}
use Rattle.aos_types.specs.Table.{row_of}
use Rattle.aos_types.specs.Chain.{parts_of, NoneContainsItself}
use Rattle.aos_types.specs.Limit.{is_first_past, count_past}
use Rattle.aos_types.proofs.Limits.{limit_right}
use Rattle.aos_types.proofs.table.Types.is_first_past.Goals as goal

pub returns : goal.returns
returns c =
    let free = subst (λ z. NoneContainsItself z) (sym c.self.view_is) c.requires.none_contains_itself in
    let at = c.is_first_past.ensures in
    let kept = subst (λ (z : List TypeRow). c.is_first_past.result ≡ (count_past c.deref-2.result.now c.args.t && not (list_any (count_past c.deref-2.result.now) (parts_of z (row_of z c.args.t))))) c.deref.ensures.value at in
    let both = subst (λ (z : List (Option ℕ)). c.is_first_past.result ≡ (count_past z c.args.t && not (list_any (count_past z) (parts_of c.self.inside.rows.items (row_of c.self.inside.rows.items c.args.t))))) c.deref-2.ensures.value kept in
    subst (λ (z : List TypeRow). c.is_first_past.result ≡ is_first_past z c.args.t) c.self.view_is
    (both ∙ limit_right c.self.inside.rows.items c.self.inside.counts.items c.args.t c.self.invariant.long c.self.invariant.settled free)
