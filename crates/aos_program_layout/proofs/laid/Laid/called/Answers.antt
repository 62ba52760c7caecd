use Rattle.std.proofs.Common.{◌≡◌, ◌∙◌, subst}
use Rattle.std.specs.Prelude.{IfOk}
use Rattle.aos_typed.specs.Numbers.{procedure_number}
use Rattle.aos_typed.specs.Seen.{seen_program}
use Rattle.aos_program_layout.proofs.laid.Laid.called.Goals as goal

pub returns : goal.returns
returns c =
    subst (λ p. IfOk c.called.result (λ n. n ≡ procedure_number (seen_program p) c.args.home c.args.number)) (c.self.invariant.same ∙ c.self.view_is) c.called.ensures
