use Rattle.std.proofs.Common.{◌∙◌, subst, List}
use Rattle.std.specs.Prelude.{◌↔◌, IsTrue}
use Rattle.aos_types.specs.declared.row.TypeRow.{TypeRow}
use Rattle.aos_types.specs.Chain.{NoneContainsItself}
use Rattle.aos_types.proofs.table.Types.none_contains_itself.Goals as goal

pub returns : goal.returns
returns c =
    subst (λ (z : List TypeRow). IsTrue c.count_all.result ↔ NoneContainsItself z) (c.deref.ensures.value ∙ c.self.view_is) c.count_all.ensures.free
