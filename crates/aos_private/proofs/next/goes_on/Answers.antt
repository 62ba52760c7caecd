use Rattle.std.proofs.Common.{sym, subst}
use Rattle.aos_store.specs.Store.{memory_in}
use Rattle.aos_silent_steps.specs.declared.silent.Stop.{Stop}
use Rattle.aos_private.specs.Answered.{TellsStop}
use Rattle.aos_private.proofs.next.goes_on.Goals as goal

pub returns-in-Work : goal.returns-in-Work
returns-in-Work c =
    subst (λ (s : Stop). TellsStop c.is_answered.result c.args.image.now.shapes.items c.args.image.now.types.items s c.args.frames.now (memory_in c.args.store.now)) (sym c.in-Work.is)
    (λ f fs is own following. c.is_answered.ensures f fs is own following _ _ _)
