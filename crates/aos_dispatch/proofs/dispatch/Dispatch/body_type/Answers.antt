use Rattle.std.proofs.Common.{ap, sym, ◌∙◌}
use Rattle.std.specs.Prelude.{slice_get}
use Rattle.aos_typed.specs.Methods.{body_type}
use Rattle.aos_typed.specs.Seen.{seen_program}
use Rattle.aos_dispatch.proofs.Told.{body_is}
use Rattle.aos_dispatch.proofs.dispatch.Dispatch.body_type.Goals as goal

pub returns : goal.returns
returns c =
    let t = c.args.of in
    body_is (seen_program c.self.inside.program.now) c.self.inside.bodies.items t c.in_ok-found.found c.self.invariant.bodies
    (ap (λ l. slice_get l t) (sym c.deref.ensures.value) ∙ c.in_ok-found.ensures)
    ∙ ap (λ p. body_type (seen_program p) t) c.self.view_is
