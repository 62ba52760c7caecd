use Rattle.std.proofs.Common.{◌≡◌, ◌∙◌, subst}
use Rattle.std.specs.Prelude.{IfOk}
use Rattle.aos_typed.specs.Numbers.{body_number}
use Rattle.aos_typed.specs.Seen.{seen_program}
use Rattle.aos_program_layout.proofs.laid.Laid.body.Goals as goal

pub returns : goal.returns
returns c =
    subst (λ p. IfOk c.body.result (λ n. n ≡ body_number (seen_program p) c.args.of)) (c.self.invariant.same ∙ c.self.view_is) c.body.ensures
