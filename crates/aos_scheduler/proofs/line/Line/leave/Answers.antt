use Rattle.std.proofs.Common.{◌≡◌, ◌-◌, refl, sym, ap, ◌∙◌, arith}
use Rattle.std.specs.Prelude.{Some, slice_get}
use Rattle.std.specs.Vec.{with_item}
use Rattle.std.proofs.lemmas.Option.{slice_get_within, get_or_from_slice_get}
use Rattle.aos_base.specs.Book as book
use Rattle.aos_scheduler.specs.declared.run_state.RunState.TheVariants.{Nowhere, On}
use Rattle.aos_scheduler.proofs.Moves.{leaves, set_here}
use Rattle.aos_scheduler.proofs.Places.{left_worker}
use Rattle.aos_scheduler.proofs.Standing.{place_is, live_some, awake_some, owned_same}
use Rattle.aos_scheduler.proofs.line.Line.leave.Goals as goal

pub overflow_sub-self : goal.overflow_sub-self
overflow_sub-self c =
    let s = c.requires.stood in
    live_some c.args.self.now s.line s.owner s.stands c.args.activity (book.On c.requires.worker) (place_is c.args.self.now s.line s.owner s.stands c.args.activity (On c.requires.worker) c.requires.at)

pub overflow_sub-self-in-On : goal.overflow_sub-self-in-On
overflow_sub-self-in-On c =
    let s = c.requires.stood in
    awake_some c.args.self.now s.line s.owner s.stands c.args.activity (book.On c.requires.worker) (place_is c.args.self.now s.line s.owner s.stands c.args.activity (On c.requires.worker) c.requires.at) refl

pub returns-in-On-clause-stands : goal.returns-in-On-clause-stands
returns-in-On-clause-stands c line owner h =
    let l = c.args.self.now in
    let a = c.args.activity in
    let read = get_or_from_slice_get l.places.items a (On c.requires.worker) c.index.result.now c.requires.at in
    let z : On c.in-On.worker ≡ On c.requires.worker = sym c.in-On.is ∙ c.index.ensures ∙ read in
    let w : c.in-On.worker ≡ c.requires.worker = cc z in
    let at : slice_get l.places.items a ≡ Some (On c.in-On.worker) = c.requires.at ∙ ap (λ x. Some (On x)) (sym w) in
    let within = slice_get_within l.places.items a (On c.in-On.worker) at in
    let there = place_is l line owner h a (On c.in-On.worker) at in
    let one = live_some l line owner h a (book.On c.in-On.worker) there in
    let two = awake_some l line owner h a (book.On c.in-On.worker) there refl in
    leaves l _ a (book.On c.in-On.worker) line owner owner h there (left_worker l line owner h a c.in-On.worker _ (with_item l.places a Nowhere) (l.live - 1) (l.awake - 1) there within refl refl (omega (arith, one)) (omega (arith, two))) (owned_same l line owner h)

pub returns-in-On-clause-nowhere : goal.returns-in-On-clause-nowhere
returns-in-On-clause-nowhere c =
    let l = c.args.self.now in
    let a = c.args.activity in
    let read = get_or_from_slice_get l.places.items a (On c.requires.worker) c.index.result.now c.requires.at in
    let z : On c.in-On.worker ≡ On c.requires.worker = sym c.in-On.is ∙ c.index.ensures ∙ read in
    let w : c.in-On.worker ≡ c.requires.worker = cc z in
    let at : slice_get l.places.items a ≡ Some (On c.in-On.worker) = c.requires.at ∙ ap (λ x. Some (On x)) (sym w) in
    let within = slice_get_within l.places.items a (On c.in-On.worker) at in
    let s = c.requires.stood in
    let there = place_is l s.line s.owner s.stands a (On c.in-On.worker) at in
    let one = live_some l s.line s.owner s.stands a (book.On c.in-On.worker) there in
    let two = awake_some l s.line s.owner s.stands a (book.On c.in-On.worker) there refl in
    record {
      stood = record {
        line = _;
        owner = s.owner;
        stands = leaves l _ a (book.On c.in-On.worker) s.line s.owner s.owner s.stands there (left_worker l s.line s.owner s.stands a c.in-On.worker _ (with_item l.places a Nowhere) (l.live - 1) (l.awake - 1) there within refl refl (omega (arith, one)) (omega (arith, two))) (owned_same l s.line s.owner s.stands);
      };
      at = set_here l.places.items a Nowhere within;
      room = omega (arith, one, s.stands.few);
    }

pub returns-in_default : goal.returns-in_default
returns-in_default c =
    let l = c.args.self.now in
    absurd (c.in_default.not-On c.requires.worker (c.index.ensures ∙ get_or_from_slice_get l.places.items c.args.activity (On c.requires.worker) c.index.result.now c.requires.at))
