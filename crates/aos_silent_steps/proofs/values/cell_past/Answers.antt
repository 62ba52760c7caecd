use Rattle.std.proofs.Common.{◌∙◌}
use Rattle.aos_silent_steps.proofs.Lengths.{cell_cut}
use Rattle.aos_silent_steps.proofs.values.cell_past.Goals as goal

pub returns : goal.returns
returns c n e = c.narrow.ensures ∙ cell_cut c.args.cell c.args.elements c.args.cells n c.saturating_mul.result c.saturating_add.result e c.saturating_mul.ensures c.saturating_add.ensures
