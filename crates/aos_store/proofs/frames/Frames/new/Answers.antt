use Rattle.std.proofs.Common.{length, ap}
use Rattle.aos_store.proofs.Rooms.{none_roomy}
use Rattle.aos_store.proofs.frames.Frames.new.Goals as goal

pub returns-clause-room : goal.returns-clause-room
returns-clause-room c depths keeps = none_roomy depths keeps c.new.result.items (ap length c.new.ensures.items)
