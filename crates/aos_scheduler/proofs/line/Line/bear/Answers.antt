use Rattle.std.proofs.Common.{◌≡◌, ◌≢◌, ◌++◌, ◌∷◌, [], sym, ap, ◌∙◌, subst, arith, length}
use Rattle.std.specs.Prelude.{slice_get}
use Rattle.std.proofs.lemmas.Option.{slice_get_within}
use Rattle.aos_base.specs.Book.{move, Ready}
use Rattle.aos_ready.specs.Order.{number_of}
use Rattle.aos_scheduler.specs.declared.run_state.RunState.TheVariants.{Nowhere, On}
use Rattle.aos_scheduler.specs.Stands.{Stands}
use Rattle.aos_scheduler.proofs.Rests.{placed, place_added, absent}
use Rattle.aos_scheduler.proofs.Standing.{unstarted, get_added, get_unset}
use Rattle.aos_scheduler.proofs.line.Line.bear.Goals as goal

pub wake-requires : goal.wake-requires
wake-requires c =
    let l = c.args.self.now in
    let s = c.requires.stood in
    let is = c.push_reserved.ensures.items in
    let n : c.len-number.result ≡ length l.places.items = omega arith in
    record {
      stood = record { line = s.line; owner = s.owner; stands = placed l s.line s.owner s.stands c.push_reserved.new.self is c.requires.room.links };
      at = ap (λ ps. slice_get ps c.len-number.result) is ∙ ap (slice_get (l.places.items ++ Nowhere ∷ [])) n ∙ place_added l.places.items;
      room = c.requires.live;
    }

pub returns-clause-stands : goal.returns-clause-stands
returns-clause-stands c line owner h =
    let l = c.args.self.now in
    let n : c.len-number.result ≡ length l.places.items = omega arith in
    let to = Ready (number_of c.args.priority) in
    let s = c.wake.ensures.stands line owner (placed l line owner h c.push_reserved.new.self c.push_reserved.ensures.items c.requires.room.links) in
    subst (λ k. Stands c.wake.new.self (move k to line) owner) n
    (subst (λ rest. Stands c.wake.new.self (rest ++ record { activity = c.len-number.result; place = to } ∷ []) owner) (sym (absent c.len-number.result line (unstarted l line owner h c.len-number.result (omega (arith, n))))) s)

pub returns-clause-on : goal.returns-clause-on
returns-clause-on c other on =
    let l = c.args.self.now in
    let s = on.stood in
    let n : c.len-number.result ≡ length l.places.items = omega arith in
    let within = slice_get_within l.places.items other (On on.worker) on.at in
    let ne : other ≢ c.len-number.result = λ e. absurd (omega (arith, e, n, within)) in
    record {
      stood = record { line = _; owner = s.owner; stands = c.wake.ensures.stands s.line s.owner (placed l s.line s.owner s.stands c.push_reserved.new.self c.push_reserved.ensures.items c.requires.room.links) };
      worker = on.worker;
      fits = on.fits;
      at = ap (λ ps. slice_get ps other) c.wake.ensures.places ∙ get_unset c.push_reserved.new.self.items c.len-number.result other _ ne ∙ ap (λ ps. slice_get ps other) c.push_reserved.ensures.items ∙ get_added l.places.items other Nowhere within ∙ on.at;
    }
