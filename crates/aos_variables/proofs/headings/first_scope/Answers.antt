-- A module's own scope stands first, and those of its object types behind it.
use Rattle.std.proofs.Common.{suc, ap, ◌∙◌}
use Rattle.aos_variables.proofs.headings.first_scope.Goals as goal

pub returns : goal.returns
returns c = c.in_ok-number_behind.ensures ∙ ap suc c.in_ok-count_types.ensures
