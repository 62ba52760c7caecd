use Rattle.std.proofs.Common.{ap, ◌∙◌}
use Rattle.aos_typed.specs.Methods.{is_active}
use Rattle.aos_typed.specs.Seen.{seen_program}
use Rattle.aos_program_layout.proofs.laid.Laid.is_active.Goals as goal

pub returns : goal.returns
returns c = c.is_active.ensures ∙ ap (λ p. is_active (seen_program p) c.args.of) (c.self.invariant.same ∙ c.self.view_is)
