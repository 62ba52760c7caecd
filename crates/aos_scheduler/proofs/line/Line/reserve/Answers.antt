use Rattle.std.proofs.Common.{◌≡◌, ◌≤◌, subst, sym, arith}
use Rattle.std.proofs.Math.Nat.{le-max_left}
use Rattle.aos_queue.specs.Lists.{room_of}
use Rattle.aos_scheduler.proofs.Rests.{reserved}
use Rattle.aos_scheduler.proofs.line.Line.reserve.Goals as goal

pub returns-in_err-reserve-2-clause-same : goal.returns-in_err-reserve-2-clause-same
returns-in_err-reserve-2-clause-same c line owner h =
    let l = c.args.self.now in
    let same : room_of c.reserve-2.new.self ≡ room_of l.links = c.in_err-reserve-2.ensures.err in
    reserved l line owner h c.reserve-2.new.self c.reserve.new.self c.reserve-2.ensures.queues c.reserve-2.ensures.marks (omega (arith, same)) c.reserve.ensures.items

pub returns-clause-same : goal.returns-clause-same
returns-clause-same c line owner h =
    let l = c.args.self.now in
    reserved l line owner h c.reserve-2.new.self c.reserve.new.self c.reserve-2.ensures.queues c.reserve-2.ensures.marks (subst (λ n. room_of l.links ≤ n) (sym c.in_ok-reserve-2.ensures.ok) (le-max_left (room_of l.links) _)) c.reserve.ensures.items
