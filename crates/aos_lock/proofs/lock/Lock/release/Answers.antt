use Rattle.std.proofs.Common.{◌≡◌, ◌∙◌, ℕ, ap, sym, refl, Contains}
use Rattle.std.specs.Prelude.{Option, Some}
use Rattle.std.proofs.lemmas.List.Elements.{Contains-append_right}
use Rattle.aos_queue.proofs.Members.{without-none}
use Rattle.aos_queue.proofs.Runs.{more_touched}
use Rattle.aos_lock.specs.Heirs.{first_served, to_first}
use Rattle.aos_lock.specs.Waits.{entrants_of, waiters_of, numbers_of}
use Rattle.aos_lock.proofs.Parts.{apart_swap, Beside, taken_beside}
use Rattle.aos_lock.proofs.Chosen.{passes, served_within, heir_of_both}
use Rattle.aos_lock.proofs.lock.Lock.release.Goals as goal

pub served_waiter-requires : goal.served_waiter-requires
served_waiter-requires g c = c.requires.waiters

-- to a waiter

pub take-requires-clause-belongs : goal.take-requires-clause-belongs
take-requires-clause-belongs g c = c.requires.waiters

pub take-requires-clause-within : goal.take-requires-clause-within
take-requires-clause-within g c =
    served_within (g.T.Test.verdict_of c.args.test.now) (waiters_of c.args.links.now c.args.self.now) c.in-Some.waiter c.in-Some.ensures.first

pub returns-in-Some : goal.returns-in-Some
returns-in-Some g c =
    let old = c.args.links.now in
    let new = c.take.new.self in
    let l = c.args.self.now in
    let a = c.in-Some.waiter in
    let es = entrants_of old l in
    let ws = waiters_of old l in
    let of = g.T.Test.verdict_of c.args.test.now in
    let first : Some a ≡ first_served of ws = c.in-Some.ensures.first in
    let within : Contains ws a = served_within of ws a first in
    let b : Beside old new c.take.new.queue l.entrants =
    taken_beside old new l.waiters c.take.new.queue l.entrants a c.requires.entrants c.requires.apart c.take.ensures.taken c.take.ensures.others in
    record {
      heir = sym (heir_of_both of es ws ∙ ap (λ (w : Option ℕ). passes w (to_first es)) (sym first));
      owner = refl;
      entrants = b.list ∙ sym (without-none a es (λ i. c.requires.apart.apart a i within));
      waiters = c.take.ensures.taken;
      belongs = record { entrants = b.belongs; waiters = c.take.ensures.belongs; apart = apart_swap _ _ b.apart };
      others = more_touched old new ws (numbers_of old l) (λ n i. Contains-append_right es ws n i) c.take.ensures.others;
      table = c.take.ensures.table;
      verdicts = c.in-Some.ensures.verdicts;
      held = c.in-Some.ensures.held;
    }

-- to an entrant, or to nobody

pub returns-in-None-clause-heir : goal.returns-in-None-clause-heir
returns-in-None-clause-heir g c =
    let of = g.T.Test.verdict_of c.args.test.now in
    let es = entrants_of c.args.links.now c.args.self.now in
    let ws = waiters_of c.args.links.now c.args.self.now in
    c.let_in.ensures.first ∙ sym (heir_of_both of es ws ∙ ap (λ (w : Option ℕ). passes w (to_first es)) (sym c.in-None.ensures.first))
