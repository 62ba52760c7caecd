use Rattle.std.proofs.Common.{◌-◌, refl, sym, ◌∙◌, arith}
use Rattle.std.specs.Vec.{with_item}
use Rattle.aos_base.specs.Book as book
use Rattle.aos_ready.specs.Order.{number_of}
use Rattle.aos_scheduler.specs.declared.run_state.RunState.TheVariants.{Nowhere}
use Rattle.aos_scheduler.proofs.Moves.{leaves, set_here}
use Rattle.aos_scheduler.proofs.Places.{left_ready}
use Rattle.aos_scheduler.proofs.Rests.{none_goes}
use Rattle.aos_scheduler.proofs.Standing.{first_place, place_known, first_ready_is, live_some, awake_some, owned_same}
use Rattle.aos_scheduler.proofs.line.Line.take_ready.Goals as goal

pub index_mut-requires : goal.index_mut-requires
index_mut-requires c =
    let l = c.args.self.now in
    let s = c.requires in
    let p = first_place l s.line s.owner s.stands c.in-Some.activity (sym c.in-Some.ensures.first) in
    omega (arith, place_known l s.line s.owner s.stands c.in-Some.activity (book.Ready (number_of p.0)) p.1, l.places.ok.0)

pub overflow_sub-self : goal.overflow_sub-self
overflow_sub-self c =
    let l = c.args.self.now in
    let s = c.requires in
    let p = first_place l s.line s.owner s.stands c.in-Some.activity (sym c.in-Some.ensures.first) in
    live_some l s.line s.owner s.stands c.in-Some.activity (book.Ready (number_of p.0)) p.1

pub overflow_sub-self-in-Some : goal.overflow_sub-self-in-Some
overflow_sub-self-in-Some c =
    let l = c.args.self.now in
    let s = c.requires in
    let p = first_place l s.line s.owner s.stands c.in-Some.activity (sym c.in-Some.ensures.first) in
    awake_some l s.line s.owner s.stands c.in-Some.activity (book.Ready (number_of p.0)) p.1 refl

pub returns-in-None-clause-first : goal.returns-in-None-clause-first
returns-in-None-clause-first c line owner h = c.in-None.ensures.first ∙ first_ready_is c.args.self.now line owner h

pub returns-in-None-clause-none : goal.returns-in-None-clause-none
returns-in-None-clause-none c none line owner h = none_goes c.args.self.now line owner h c.next.new.links c.next.new.self c.in-None.ensures.lists c.next.ensures.belong c.next.ensures.others c.next.ensures.table

pub returns-in-Some-clause-first : goal.returns-in-Some-clause-first
returns-in-Some-clause-first c line owner h = c.in-Some.ensures.first ∙ first_ready_is c.args.self.now line owner h

pub returns-in-Some-clause-left : goal.returns-in-Some-clause-left
returns-in-Some-clause-left c line owner h =
    let l = c.args.self.now in
    let a = c.in-Some.activity in
    let p = first_place l line owner h a (sym c.in-Some.ensures.first) in
    let was = book.Ready (number_of p.0) in
    let within = place_known l line owner h a was p.1 in
    let one = live_some l line owner h a was p.1 in
    let two = awake_some l line owner h a was p.1 refl in
    leaves l _ a was line owner owner h p.1 (left_ready l line owner h a p.0 c.next.new.links c.next.new.self (with_item l.places a Nowhere) (l.live - 1) (l.awake - 1) p.1 within c.in-Some.ensures.lists c.next.ensures.belong c.next.ensures.others c.next.ensures.table refl (omega (arith, one)) (omega (arith, two))) (owned_same l line owner h)

pub returns-in-Some-clause-nowhere : goal.returns-in-Some-clause-nowhere
returns-in-Some-clause-nowhere c =
    let l = c.args.self.now in
    let a = c.in-Some.activity in
    let s = c.requires in
    let p = first_place l s.line s.owner s.stands a (sym c.in-Some.ensures.first) in
    let was = book.Ready (number_of p.0) in
    let within = place_known l s.line s.owner s.stands a was p.1 in
    let one = live_some l s.line s.owner s.stands a was p.1 in
    let two = awake_some l s.line s.owner s.stands a was p.1 refl in
    record {
      stood = record {
        line = _;
        owner = s.owner;
        stands = leaves l _ a was s.line s.owner s.owner s.stands p.1 (left_ready l s.line s.owner s.stands a p.0 c.next.new.links c.next.new.self (with_item l.places a Nowhere) (l.live - 1) (l.awake - 1) p.1 within c.in-Some.ensures.lists c.next.ensures.belong c.next.ensures.others c.next.ensures.table refl (omega (arith, one)) (omega (arith, two))) (owned_same l s.line s.owner s.stands);
      };
      at = set_here l.places.items a Nowhere within;
      room = omega (arith, one, s.stands.few);
    }
