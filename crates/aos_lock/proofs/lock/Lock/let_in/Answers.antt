use Rattle.std.proofs.Common.{◌≡◌, ◌∙◌, ◌∷◌, [], ℕ, List, ap, sym, subst, refl, Contains}
use Rattle.std.proofs.lemmas.List.Elements.{Contains-append_left}
use Rattle.aos_queue.specs.Lists.{list_in, without, IsOnce}
use Rattle.aos_queue.proofs.Members.{here, there, none, without-none, without-split}
use Rattle.aos_queue.proofs.Runs.{is_once, more_touched}
use Rattle.aos_lock.specs.Heirs.{to_first}
use Rattle.aos_lock.specs.Waits.{entrants_of, waiters_of, numbers_of}
use Rattle.aos_lock.proofs.Parts.{apart_swap, Beside, beside}
use Rattle.aos_lock.proofs.lock.Lock.let_in.Goals as goal

pub take_first-requires : goal.take_first-requires
take_first-requires c = c.requires.entrants

pub returns-in-Some : goal.returns-in-Some
returns-in-Some c =
    let old = c.args.links.now in
    let new = c.take_first.new.self in
    let l = c.args.self.now in
    let a = c.in-Some.entrant in
    let es = entrants_of old l in
    let ws = waiters_of old l in
    let rest = list_in new c.take_first.new.queue in
    let e = c.in-Some.ensures in
    let head : es ≡ a ∷ rest = e.first in
    let back : a ∷ rest ≡ es = sym head in
    let once : IsOnce (a ∷ rest) = subst IsOnce head (is_once old l.entrants c.requires.entrants) in
    let within : Contains es a = subst (λ (ns : List ℕ). Contains ns a) back (here a rest) in
    let b : Beside old new c.take_first.new.queue l.waiters =
    beside old new c.take_first.new.queue l.waiters es e.others c.requires.waiters (apart_swap es ws c.requires.apart)
    (λ n i. subst (λ (ns : List ℕ). Contains ns n) back (there a n rest i)) in
    record {
      first = sym (ap to_first head);
      owner = refl;
      entrants = sym (ap (without a) head ∙ without-split [] a rest once);
      waiters = b.list ∙ sym (without-none a ws (λ i. c.requires.apart.apart a within i));
      belongs = record { entrants = e.belongs; waiters = b.belongs; apart = b.apart };
      others = more_touched old new es (numbers_of old l) (λ n i. Contains-append_left es ws n i) e.others;
      table = e.table;
    }

pub returns-in-None : goal.returns-in-None
returns-in-None c =
    let old = c.args.links.now in
    let new = c.take_first.new.self in
    let l = c.args.self.now in
    let es = entrants_of old l in
    let ws = waiters_of old l in
    let e = c.in-None.ensures in
    let empty : es ≡ [] = e.empty.0 refl in
    let still : list_in new c.take_first.new.queue ≡ [] = e.unchanged in
    let b : Beside old new c.take_first.new.queue l.waiters =
    beside old new c.take_first.new.queue l.waiters es e.others c.requires.waiters (apart_swap es ws c.requires.apart)
    (λ n i. absurd (none n (subst (λ (ns : List ℕ). Contains ns n) still i))) in
    record {
      first = sym (ap to_first empty);
      owner = refl;
      entrants = still ∙ sym empty;
      waiters = b.list;
      belongs = record { entrants = e.belongs; waiters = b.belongs; apart = b.apart };
      others = more_touched old new es (numbers_of old l) (λ n i. Contains-append_left es ws n i) e.others;
      table = e.table;
    }
