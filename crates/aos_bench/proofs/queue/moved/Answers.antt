use Rattle.std.proofs.Common.{◌+◌, ◌≤◌, ℕ, sym, subst}
use Rattle.std.proofs.Math.Nat.{le-max_right}
use Rattle.aos_queue.specs.Lists.{room_of}
use Rattle.aos_queue.proofs.Runs.{is_reserved}
use Rattle.aos_bench.proofs.Filled.{none_fills}
use Rattle.aos_bench.proofs.queue.moved.Goals as goal

pub fill-requires-clause-fills : goal.fill-requires-clause-fills
fill-requires-clause-fills c = none_fills c.reserve.new.self c.new-queue.result (c.new-queue.ensures.belongs c.reserve.new.self) (c.new-queue.ensures.empty c.reserve.new.self)

pub fill-requires-clause-room : goal.fill-requires-clause-room
fill-requires-clause-room c =
    let count = c.args.half + c.args.half in
    subst (λ (room : ℕ). count ≤ room) (sym c.in_ok-reserve.ensures.ok) (le-max_right (room_of c.new-links.result) count)

pub move_last-requires-clause-belongs : goal.move_last-requires-clause-belongs
move_last-requires-clause-belongs c = c.loop.invariant.fills.belongs

pub move_last-requires-clause-within : goal.move_last-requires-clause-within
move_last-requires-clause-within c = c.loop.invariant.fills.has c.loop.n c.loop.invariant.known

pub loop-preserved : goal.loop-preserved
loop-preserved c = record {
  fills = c.move_last.ensures (c.args.half + c.args.half) c.loop.invariant.fills;
  known = c.next_of-n.ensures;
}

pub behind-requires : goal.behind-requires
behind-requires c =
    is_reserved c.loop.links c.loop.queue c.loop.n c.loop.invariant.fills.belongs (c.loop.invariant.fills.has c.loop.n c.loop.invariant.known)
