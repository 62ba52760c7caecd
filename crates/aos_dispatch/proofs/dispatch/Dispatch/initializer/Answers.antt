use Rattle.std.proofs.Common.{ap, sym, ◌∙◌}
use Rattle.std.specs.Prelude.{slice_get}
use Rattle.aos_typed.specs.Methods.{initializer}
use Rattle.aos_typed.specs.Seen.{seen_program}
use Rattle.aos_dispatch.proofs.Told.{initial_is}
use Rattle.aos_dispatch.proofs.dispatch.Dispatch.initializer.Goals as goal

pub returns : goal.returns
returns c =
    let t = c.args.of in
    initial_is (seen_program c.self.inside.program.now) c.self.inside.initials.items t c.in_ok-found.found c.self.invariant.initials
    (ap (λ l. slice_get l t) (sym c.deref.ensures.value) ∙ c.in_ok-found.ensures)
    ∙ ap (λ p. initializer (seen_program p) t) c.self.view_is
