-- The numbers begin behind the table.
use Rattle.std.proofs.Common.{ap₂, ◌∙◌}
use Rattle.aos_check_decl.specs.Pass.{own_numbers}
use Rattle.aos_check_decl.proofs.pass.numbers_for.Goals as goal

pub returns : goal.returns
returns c = c.in_ok-own_numbers.ensures ∙ ap₂ (λ n k. own_numbers n k) c.in_ok-first.ensures c.in_ok-count.ensures
