-- One lock: its entrants and its waiters, as they stand in its two queues.
use Rattle.std.proofs.Common.{◌≡◌, ◌<◌, ℕ, List, [], ◌∷◌, ◌++◌, sym, subst, inl, inr, Contains}
use Rattle.std.specs.Prelude.{true, not, ◌==◌}
use Rattle.std.proofs.lemmas.List.Elements.{Contains-append_left, Contains-append_right, Contains-append_cases}
use Rattle.aos_queue.specs.declared.links.Links.{Links}
use Rattle.aos_queue.specs.declared.queue.Queue.{Queue}
use Rattle.aos_queue.specs.Lists.{list_in, without, room_of, Belongs, Apart, KeepsOthers}
use Rattle.aos_queue.proofs.Members.{among, none}
use Rattle.aos_queue.proofs.Runs.{stands_belongs, stands_list, nobody_stands, is_reserved}
use Rattle.aos_lock.specs.declared.lock.Lock.{Lock}
use Rattle.aos_lock.specs.Waits.{entrants_of, waiters_of, numbers_of, BothBelong, LockBelongs, empty_queue, free}
use Rattle.aos_lock.proofs.Rows.{filter_within, joined_within}

-- a lock none of whose numbers is touched
module _ (before after : Links) (l : Lock) (touched : List ℕ) (keeps : KeepsOthers before after touched) (h : LockBelongs before l)
    (out : (n : ℕ) → Contains (numbers_of before l) n → Contains touched n → ⊥) where
  entrants_out : Apart (list_in before l.entrants) touched
  entrants_out = record { apart = λ n i j. out n (Contains-append_left (entrants_of before l) (waiters_of before l) n i) j }

  waiters_out : Apart (list_in before l.waiters) touched
  waiters_out = record { apart = λ n i j. out n (Contains-append_right (entrants_of before l) (waiters_of before l) n i) j }

  pub lock_entrants : entrants_of after l ≡ entrants_of before l
  lock_entrants = keeps.list l.entrants h.entrants entrants_out

  pub lock_waiters : waiters_of after l ≡ waiters_of before l
  lock_waiters = keeps.list l.waiters h.waiters waiters_out

  pub lock_belongs : LockBelongs after l
  lock_belongs = record {
    entrants = keeps.belongs l.entrants h.entrants entrants_out;
    waiters = keeps.belongs l.waiters h.waiters waiters_out;
    apart = record { apart = λ n i j. h.apart.apart n (subst (λ ns. Contains ns n) lock_entrants i) (subst (λ ns. Contains ns n) lock_waiters j) };
  }

  pub lock_within : (n : ℕ) → Contains (numbers_of after l) n → Contains (numbers_of before l) n
  lock_within n i =
      let same : numbers_of after l ≡ numbers_of before l = λ k. lock_entrants k ++ lock_waiters k in
      subst (λ ns. Contains ns n) same i

-- those who wait are reserved
pub lock_reserved : (links : Links) (l : Lock) (n : ℕ) → LockBelongs links l → Contains (numbers_of links l) n → n < room_of links
lock_reserved links l n h i = elim (Contains-append_cases (entrants_of links l) (waiters_of links l) n i) [
  | inl j ↦ is_reserved links l.entrants n h.entrants j
  | inr j ↦ is_reserved links l.waiters n h.waiters j
]

-- nobody stands in two queues of which one is empty
pub both_empty : (links : Links) (es ws : Queue) → Belongs links es → Belongs links ws → list_in links es ≡ [] → BothBelong links es ws
both_empty links es ws h k e = record {
  entrants = h;
  waiters = k;
  apart = record { apart = λ n i j. none n (subst (λ ns. Contains ns n) e i) };
}

empty_belongs : (links : Links) → Belongs links empty_queue
empty_belongs links = stands_belongs links empty_queue [] (nobody_stands _ _ 0) tt

empty_list : (links : Links) → list_in links empty_queue ≡ []
empty_list links = stands_list links empty_queue [] (nobody_stands _ _ 0)

pub free_belongs : (links : Links) → LockBelongs links free
free_belongs links = both_empty links empty_queue empty_queue (empty_belongs links) (empty_belongs links) (empty_list links)

pub free_empty : (links : Links) → numbers_of links free ≡ []
free_empty links = λ i. empty_list links i ++ empty_list links i

-- One of a lock's queues changes

pub apart_swap : (ns ms : List ℕ) → Apart ns ms → Apart ms ns
apart_swap ns ms h = record { apart = λ n i j. h.apart n j i }

-- the other one stays
pub record Beside (old new : Links) (changed other : Queue) : Type 0 where
  pub belongs : Belongs new other
  pub list : list_in new other ≡ list_in old other
  pub apart : Apart (list_in new changed) (list_in new other)

pub beside : (old new : Links) (changed other : Queue) (touched : List ℕ) → KeepsOthers old new touched → Belongs old other → Apart (list_in old other) touched
    → ((n : ℕ) → Contains (list_in new changed) n → Contains touched n) → Beside old new changed other
beside old new changed other touched keeps h out within =
    let same : list_in new other ≡ list_in old other = keeps.list other h out in
    record {
      belongs = keeps.belongs other h out;
      list = same;
      apart = record { apart = λ n i j. out.apart n (subst (λ ns. Contains ns n) same j) (within n i) };
    }

-- one who joins stands in neither
joins_apart : (a : ℕ) (ns ms : List ℕ) → Apart ms ns → (Contains ms a → ⊥) → Apart ms (a ∷ ns)
joins_apart a ns ms h out = record {
  apart = λ n i j. elim (among a n ns j) [
    | inl e ↦ out (subst (λ k. Contains ms k) (sym e) i)
    | inr k ↦ h.apart n i k
  ];
}

-- after it was put into the other one
pub put_beside : (old new : Links) (queue with other : Queue) (a : ℕ) → Belongs old other → Apart (list_in old other) (list_in old queue) → (Contains (list_in old other) a → ⊥)
    → list_in new with ≡ list_in old queue ++ a ∷ [] → KeepsOthers old new (a ∷ list_in old queue) → Beside old new with other
put_beside old new queue with other a h apart out last keeps =
    let ns = list_in old queue in
    beside old new with other (a ∷ ns) keeps h (joins_apart a ns (list_in old other) apart out)
    (λ n i. joined_within true a ns n (subst (λ (ms : List ℕ). Contains ms n) last i))

-- after one was taken out of the other one
pub taken_beside : (old new : Links) (queue with other : Queue) (a : ℕ) → Belongs old other → Apart (list_in old other) (list_in old queue)
    → list_in new with ≡ without a (list_in old queue) → KeepsOthers old new (list_in old queue) → Beside old new with other
taken_beside old new queue with other a h apart taken keeps =
    let ns = list_in old queue in
    beside old new with other ns keeps h apart (λ n i. filter_within (λ m. not (m == a)) ns n (subst (λ (ms : List ℕ). Contains ms n) taken i))
