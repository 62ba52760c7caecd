use Rattle.std.proofs.Common.{sym, ap, ◌∙◌}
use Rattle.aos_store.specs.Store.{frames_in}
use Rattle.aos_cpu.specs.Private.{is_private}
use Rattle.aos_private.proofs.Gone.{private_alike}
use Rattle.aos_private.proofs.next.next_private.Goals as goal

pub returns-in-None-clause-is : goal.returns-in-None-clause-is
returns-in-None-clause-is c =
    let image = c.args.image.now in
    let new = frames_in c.come_in_room.new.frames in
    sym (private_alike image (frames_in c.args.frames.now) new c.come_in_room.ensures.alike ∙ ap (is_private image) c.in-None.ensures.stop)

pub returns-in-Some-clause-is : goal.returns-in-Some-clause-is
returns-in-Some-clause-is c =
    let image = c.args.image.now in
    let new = frames_in c.come_in_room.new.frames in
    c.is_private_stop.ensures ∙ sym (private_alike image (frames_in c.args.frames.now) new c.come_in_room.ensures.alike)
