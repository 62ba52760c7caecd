use Rattle.std.proofs.Common.{◌+◌, refl, arith}
use Rattle.std.specs.Vec.{with_item}
use Rattle.std.proofs.lemmas.Option.{slice_get_within}
use Rattle.aos_base.specs.Book as book
use Rattle.aos_ready.specs.Order.{number_of}
use Rattle.aos_scheduler.specs.declared.run_state.RunState.TheVariants.{Nowhere, Ready}
use Rattle.aos_scheduler.proofs.Moves.{joins}
use Rattle.aos_scheduler.proofs.Places.{joined_ready, none_ready}
use Rattle.aos_scheduler.proofs.Standing.{place_is, awake_few}
use Rattle.aos_scheduler.proofs.line.Line.wake.Goals as goal

pub add-requires-clause-elsewhere : goal.add-requires-clause-elsewhere
add-requires-clause-elsewhere c =
    let s = c.requires.stood in
    none_ready c.args.self.now s.line s.owner s.stands c.args.activity (place_is c.args.self.now s.line s.owner s.stands c.args.activity Nowhere c.requires.at)

pub add-requires-clause-reserved : goal.add-requires-clause-reserved
add-requires-clause-reserved c =
    let l = c.args.self.now in
    let within = slice_get_within l.places.items c.args.activity Nowhere c.requires.at in
    omega (arith, within, c.requires.stood.stands.room)

pub index_mut-requires : goal.index_mut-requires
index_mut-requires c =
    let l = c.args.self.now in
    let within = slice_get_within l.places.items c.args.activity Nowhere c.requires.at in
    omega (arith, within, l.places.ok.0)

pub overflow_add-self-2 : goal.overflow_add-self-2
overflow_add-self-2 c =
    let s = c.requires.stood in
    let few = awake_few c.args.self.now s.line s.owner s.stands in
    record { fits = omega (arith, few, s.stands.few) }

pub returns-clause-stands : goal.returns-clause-stands
returns-clause-stands c line owner h =
    let l = c.args.self.now in
    let a = c.args.activity in
    let p = c.args.priority in
    let e = c.add.ensures in
    let none = place_is l line owner h a Nowhere c.requires.at in
    let within = slice_get_within l.places.items a Nowhere c.requires.at in
    joins l _ a (Ready p) (book.Ready (number_of p)) line owner h none
    (joined_ready l line owner h a p c.add.new.links c.add.new.self (with_item l.places a (Ready p)) (l.live + 1) (l.awake + 1) none within e.last e.lists e.belong e.others e.table refl c.requires.room (omega arith) (omega arith))
