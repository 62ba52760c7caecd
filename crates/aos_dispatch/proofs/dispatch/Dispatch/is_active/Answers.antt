use Rattle.std.proofs.Common.{ap, ◌∙◌}
use Rattle.std.specs.Prelude.{slice_get}
use Rattle.aos_typed.specs.Methods.{is_active}
use Rattle.aos_typed.specs.Seen.{seen_program}
use Rattle.aos_dispatch.specs.Dispatch.{active_of}
use Rattle.aos_dispatch.proofs.Told.{active_is}
use Rattle.aos_dispatch.proofs.dispatch.Dispatch.is_active.Goals as goal

pub returns : goal.returns
returns c =
    let t = c.args.of in
    c.active_in.ensures
    ∙ ap (λ l. active_of (slice_get l t)) c.deref.ensures.value
    ∙ active_is c.self.inside.program.now.objects.items t
    ∙ ap (λ p. is_active (seen_program p) t) c.self.view_is
