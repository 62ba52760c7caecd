use Rattle.std.proofs.Common.{subst, ap, sym}
use Rattle.aos_cell.specs.Steps.{MayGive}
use Rattle.aos_cell.specs.Hold.{Hold}
use Rattle.aos_cell.proofs.Steps.{gives_any}
use Rattle.aos_cell.proofs.cell.KernelCell.give.Goals as goal

pub push_as-requires-clause-rule : goal.push_as-requires-clause-rule
push_as-requires-clause-rule g c = gives_any _ _ _ _ (subst (λ v. MayGive v c.args.kernel.value) (ap (λ (h : Hold). h.view) (sym c.pass.view_is)) c.requires.kernel)
