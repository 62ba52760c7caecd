use Rattle.std.proofs.Common.{sym, ap, ◌∙◌, arith}
use Rattle.std.specs.Prelude.{vec_len}
use Rattle.aos_kernel.specs.Run.{Run}
use Rattle.aos_kernel.proofs.Lending.{none_there}
use Rattle.aos_kernel.proofs.kernel.Kernel.lends_none.Goals as goal

pub returns : goal.returns
returns c is =
    let k = c.self.inside in
    sym (ap (λ (r : Run). r.lent) c.self.view_is)
    ∙ none_there k.lent.items (vec_len k.lent) c.is_empty.result (omega arith) c.is_empty.ensures is
