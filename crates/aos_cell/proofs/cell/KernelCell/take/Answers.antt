use Rattle.std.proofs.Common.{rules, subst, sym, ap, ◌∙◌}
use Rattle.aos_cell.specs.Total.{mask}
use Rattle.aos_cell.specs.Steps.{HasWorkers}
use Rattle.aos_cell.proofs.Steps.{takes_any, takes_workers}
use Rattle.aos_cell.proofs.cell.KernelCell.take.Goals as goal

pub try_pop_as-requires-clause-rule : goal.try_pop_as-requires-clause-rule
try_pop_as-requires-clause-rule g c = takes_any _ _ (subst HasWorkers (sym c.loop.invariant.0) c.requires.own)

pub invariant_of-pass : goal.invariant_of-pass
invariant_of-pass g c = (search rules, ap mask (takes_workers _ _ _ c.in-Some-try_pop_as.ensures.rule) ∙ c.loop.invariant.3)
