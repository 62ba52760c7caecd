use Rattle.std.proofs.Common.{ap, ◌∙◌}
use Rattle.aos_kernel.specs.Run.{Run, among}
use Rattle.aos_kernel.proofs.kernel.Kernel.is_lent.Goals as goal

pub returns : goal.returns
returns c =
    c.is_among.ensures ∙ ap (among c.args.w) c.deref.ensures.value ∙ ap (λ (r : Run). among c.args.w r.lent) c.self.view_is
