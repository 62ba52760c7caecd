use Rattle.std.proofs.Common.{ap, ◌∙◌}
use Rattle.aos_code.specs.Machine.{Frames}
use Rattle.aos_store.proofs.Views.{same_following}
use Rattle.aos_store.proofs.places.copy_one.Goals as goal

pub returns-in-Some-clause-following : goal.returns-in-Some-clause-following
returns-in-Some-clause-following c =
    ap (λ (x : Frames). x.following) c.store_at.ensures.frames ∙ same_following c.args.frames.now c.store_at.result _ _
