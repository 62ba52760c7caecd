use Rattle.std.proofs.Common.{◌+◌, refl, arith}
use Rattle.std.specs.Vec.{with_item}
use Rattle.std.proofs.lemmas.Option.{slice_get_within}
use Rattle.aos_base.specs.Book as book
use Rattle.aos_scheduler.specs.declared.run_state.RunState.TheVariants.{Nowhere, At}
use Rattle.aos_scheduler.proofs.Moves.{joins}
use Rattle.aos_scheduler.proofs.Places.{none_idle}
use Rattle.aos_scheduler.proofs.Passing.{lock_here, joined_lock}
use Rattle.aos_scheduler.proofs.Standing.{place_is}
use Rattle.aos_scheduler.proofs.line.Line.join.Goals as goal

pub join-requires-clause-added : goal.join-requires-clause-added
join-requires-clause-added c = let s = c.requires.nowhere.stood in (lock_here c.args.self.now s.line s.owner s.stands c.args.lock c.args.number c.requires.number).0

pub join-requires-clause-reserved : goal.join-requires-clause-reserved
join-requires-clause-reserved c =
    let l = c.args.self.now in
    let within = slice_get_within l.places.items c.args.activity Nowhere c.requires.nowhere.at in
    omega (arith, within, c.requires.nowhere.stood.stands.room)

pub join-requires-clause-elsewhere : goal.join-requires-clause-elsewhere
join-requires-clause-elsewhere c =
    let s = c.requires.nowhere.stood in
    none_idle c.args.self.now s.line s.owner s.stands c.args.activity (place_is c.args.self.now s.line s.owner s.stands c.args.activity Nowhere c.requires.nowhere.at)

pub index_mut-requires : goal.index_mut-requires
index_mut-requires c =
    let l = c.args.self.now in
    let within = slice_get_within l.places.items c.args.activity Nowhere c.requires.nowhere.at in
    omega (arith, within, l.places.ok.0)

pub returns-clause-stands : goal.returns-clause-stands
returns-clause-stands c line owner h wants told =
    let l = c.args.self.now in
    let a = c.args.activity in
    let n = c.args.number in
    let k = c.args.lock in
    let w = c.args.awaits in
    let e = c.join.ensures in
    let none = place_is l line owner h a Nowhere c.requires.nowhere.at in
    let within = slice_get_within l.places.items a Nowhere c.requires.nowhere.at in
    joins l _ a (At k w) (book.At k wants) line owner h none
    (joined_lock l line owner h k n c.requires.number a w wants c.join.new.links c.join.new.self (with_item l.places a (At k w)) (l.live + 1) told none within e.entrants e.waiters e.owner e.others e.belong e.queues e.marks.room refl
    c.requires.nowhere.room (omega arith))
