use Rattle.std.proofs.Common.{ap, ◌∙◌}
use Rattle.aos_typed.specs.Routines.{routines}
use Rattle.aos_typed.specs.Seen.{seen_program}
use Rattle.aos_dispatch.specs.Routines.{seen_routines}
use Rattle.aos_dispatch.proofs.dispatch.Dispatch.routines.Goals as goal

pub returns : goal.returns
returns c = ap seen_routines c.deref.ensures.value ∙ c.self.invariant.all ∙ ap (λ p. routines (seen_program p)) c.self.view_is
