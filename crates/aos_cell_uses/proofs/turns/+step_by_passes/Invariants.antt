use Rattle.aos_cell_uses.proofs.turns.+step_by_passes.Given as goal

abbrev pub decreases-step_by_passes : goal.decreases-step_by_passes
decreases-step_by_passes g l = l.count
