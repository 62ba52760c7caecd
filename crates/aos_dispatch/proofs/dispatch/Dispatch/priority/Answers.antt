use Rattle.std.proofs.Common.{ap, ◌∙◌}
use Rattle.std.specs.Prelude.{slice_get}
use Rattle.aos_typed.specs.Methods.{own_priority}
use Rattle.aos_typed.specs.Seen.{seen_program}
use Rattle.aos_dispatch.specs.Dispatch.{priority_of}
use Rattle.aos_dispatch.proofs.Told.{priority_is}
use Rattle.aos_dispatch.proofs.dispatch.Dispatch.priority.Goals as goal

pub returns : goal.returns
returns c =
    let t = c.args.of in
    c.priority_in.ensures
    ∙ ap (λ l. priority_of (slice_get l t)) c.deref.ensures.value
    ∙ priority_is c.self.inside.program.now.objects.items t
    ∙ ap (λ p. own_priority (seen_program p) t) c.self.view_is
