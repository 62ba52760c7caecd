use Rattle.std.proofs.Common.{ap, ◌∙◌}
use Rattle.aos_typed.specs.Methods.{own_priority}
use Rattle.aos_typed.specs.Seen.{seen_program}
use Rattle.aos_program_layout.proofs.laid.Laid.priority.Goals as goal

pub returns : goal.returns
returns c = c.priority.ensures ∙ ap (λ p. own_priority (seen_program p) c.args.of) (c.self.invariant.same ∙ c.self.view_is)
