use Rattle.std.proofs.Common.{◌<◌, ◌+◌, length, refl, arith}
use Rattle.std.specs.Vec.{with_item}
use Rattle.std.proofs.lemmas.Option.{slice_get_within}
use Rattle.aos_base.specs.Book as book
use Rattle.aos_scheduler.specs.declared.run_state.RunState.TheVariants.{Nowhere, On}
use Rattle.aos_scheduler.proofs.Moves.{joins}
use Rattle.aos_scheduler.proofs.Places.{joined_worker}
use Rattle.aos_scheduler.proofs.Standing.{place_is, awake_few}
use Rattle.aos_scheduler.proofs.line.Line.put_on.Goals as goal

pub overflow_add-self-2 : goal.overflow_add-self-2
overflow_add-self-2 c =
    let s = c.requires.nowhere.stood in
    let few = awake_few c.args.self.now s.line s.owner s.stands in
    record { fits = omega (arith, few, s.stands.few) }

pub returns-clause-stands : goal.returns-clause-stands
returns-clause-stands c line owner h =
    let l = c.args.self.now in
    let a = c.args.activity in
    let w = c.args.worker in
    let none = place_is l line owner h a Nowhere c.requires.nowhere.at in
    let within = slice_get_within l.places.items a Nowhere c.requires.nowhere.at in
    let fits : w < length l.running = omega (arith, c.requires.worker) in
    joins l _ a (On w) (book.On w) line owner h none (joined_worker l line owner h a w _ (with_item l.places a (On w)) (l.live + 1) (l.awake + 1) within fits c.requires.idle refl refl c.requires.nowhere.room (omega arith) (omega arith))
