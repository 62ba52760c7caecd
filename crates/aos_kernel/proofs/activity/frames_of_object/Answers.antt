use Rattle.std.proofs.Common.{sym, subst}
use Rattle.aos_sound.specs.FitFrames.{depth_of}
use Rattle.aos_store.specs.declared.frames.Frames.{Frames as KeptFrames}
use Rattle.aos_silent_steps.specs.Room.{keeps_for, AreRoomy}
use Rattle.aos_kernel.proofs.activity.frames_of_object.Goals as goal
use Rattle.aos_kernel.proofs.activity.frames_of_object.Goals.{then-body-ne0+in_ok-begin_body, else-body-ne0}

pub returns-clause-room : goal.returns-clause-room
returns-clause-room c =
    let image = c.args.image.now in
    let none : AreRoomy image c.new-frames.result = c.new-frames.ensures.room (depth_of image) (keeps_for image) in
    elim c.if-body-ne0.branch [
      | then-body-ne0+in_ok-begin_body w ↦ subst (λ (fs : KeptFrames). AreRoomy image fs) (sym w.frames-is) (w.begin_body.ensures.room none)
      | else-body-ne0 w ↦ subst (λ (fs : KeptFrames). AreRoomy image fs) (sym w.frames-is) none
    ]
