use Rattle.std.proofs.Common.{List, subst}
use Rattle.std.specs.Prelude.{Option}
use Rattle.aos_store.specs.declared.heap.Object.{Object}
use Rattle.aos_store.specs.Store.{list_in, frames_in}
use Rattle.aos_silent_steps.specs.declared.silent.Stop.{Stop}
use Rattle.aos_silent_steps.specs.Known.{known}
use Rattle.aos_cpu.specs.Turns.{HasCome, StandsAtStop}
use Rattle.aos_private.proofs.next.is_next_private.Goals as goal

pub is_private_stop-requires-clause-stands : goal.is_private_stop-requires-clause-stands
is_private_stop-requires-clause-stands c =
    let image = c.args.image.now in
    let mid = c.come_to_stop.new.frames in
    let come = subst (λ (o : Option Stop). HasCome image (known c.new-2.result) o (frames_in mid)) c.in-Some.is c.in_ok-come_to_stop.ensures.stop in
    subst (λ (h : List Object). StandsAtStop image (known h) c.in-Some.stop (list_in mid.list.items)) c.new-2.ensures come
