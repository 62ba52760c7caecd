use Rattle.std.proofs.Common.{◌≡◌, ◌∙◌, subst}
use Rattle.std.specs.Prelude.{IfOk}
use Rattle.aos_typed.specs.Methods.{method_number}
use Rattle.aos_typed.specs.Seen.{seen_program}
use Rattle.aos_program_layout.proofs.laid.Laid.method.Goals as goal

pub returns : goal.returns
returns c =
    subst (λ p. IfOk c.method.result (λ n. n ≡ method_number (seen_program p) c.args.of c.args.slot)) (c.self.invariant.same ∙ c.self.view_is) c.method.ensures
