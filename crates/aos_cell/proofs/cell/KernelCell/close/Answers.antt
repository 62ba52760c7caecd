use Rattle.std.proofs.Common.{subst, ap, sym}
use Rattle.aos_cell.specs.Steps.{Finds, HasAll}
use Rattle.aos_cell.specs.Hold.{Hold}
use Rattle.aos_cell.proofs.Steps.{closes_any, takes_finds}
use Rattle.aos_cell.proofs.cell.KernelCell.close.Goals as goal

pub pop_as-requires-clause-rule : goal.pop_as-requires-clause-rule
pop_as-requires-clause-rule g c = closes_any _ _ (subst HasAll (ap (λ (h : Hold). h.view) (sym c.pass.view_is)) c.requires.all)

pub returns : goal.returns
returns g c = record { kernel = subst (λ v. Finds v c.in-Some.kernel.value) (ap (λ (h : Hold). h.view) c.pass.view_is) (takes_finds _ _ _ c.in-Some.ensures.rule) }
