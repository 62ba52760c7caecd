-- What a change of one lock leaves as it was.
use Rattle.std.proofs.Common.{◌≡◌, ◌≢◌, ◌<◌, ◌≤◌, ℕ, zero, suc, List, [], ◌∷◌, ◌++◌, length, refl, sym, ap, subst, ◌∙◌, ◌⊎◌, inl, inr, Contains}
use Rattle.std.specs.Prelude.{slice_index_or}
use Rattle.std.specs.Vec.{with_item}
use Rattle.std.proofs.lemmas.List.{get_or-set_same, get_or-set_other, length-set, get_or_read, get_or_past, get_or_push, get_or_append_left}
use Rattle.std.proofs.lemmas.Bool.{cases_lt}
use Rattle.std.proofs.lemmas.Bool.Decides.{eqb_tells}
use Rattle.aos_queue.specs.declared.links.Links.{Links}
use Rattle.aos_queue.specs.Lists.{list_in, mark_of, room_of, Belongs, Apart, KeepsOthers}
use Rattle.aos_queue.specs.declared.queue.Queue.{Queue}
use Rattle.aos_queue.proofs.Members.{among, none}
use Rattle.aos_lock.specs.declared.lock.Lock.{Lock}
use Rattle.aos_lock.specs.declared.locks.Locks.{Locks}
use Rattle.aos_lock.specs.Waits.{entrants_of, waiters_of, numbers_of, LockBelongs, free, lock_at, count_of, owner_of, entrants_in, waiters_in, numbers_in, Belong, WaitsNowhere, IsUnawaited, SameWaiting, KeepsLocks}
use Rattle.aos_lock.proofs.Parts.{lock_belongs, lock_within, lock_entrants, lock_waiters, lock_reserved, free_belongs, free_empty}

pub keeps_both : (old mid new : Links) (touched more : List ℕ) → KeepsOthers old mid touched → KeepsOthers mid new more
    → ((n : ℕ) → Contains more n → Contains touched n) → KeepsOthers old new touched
keeps_both old mid new touched more one two within =
    let still : (other : Queue) → Belongs old other → Apart (list_in old other) touched → Apart (list_in mid other) more =
    λ other h a. record { apart = λ n i j. a.apart n (subst (λ ns. Contains ns n) (one.list other h a) i) (within n j) } in
    record {
      belongs = λ other h a. two.belongs other (one.belongs other h a) (still other h a);
      list = λ other h a. two.list other (one.belongs other h a) (still other h a) ∙ one.list other h a;
    }

-- links that are as they were
pub keeps_same : (links : Links) (touched : List ℕ) → KeepsOthers links links touched
keeps_same links touched = record { belongs = λ other h a. h; list = λ other h a. refl }

-- one lock is another one, and numbers are touched that wait for it or for none
pub record Changes (before : Links) (old : Locks) (after : Links) (lock : ℕ) (with : Lock) (touched : List ℕ) : Type 0 where
  pub added : lock < length old.locks.items
  pub belong : Belong before old
  pub queues : KeepsOthers before after touched
  pub nowhere : (other n : ℕ) → other ≢ lock → Contains (numbers_of before (lock_at old other)) n → Contains touched n → ⊥
  pub belongs : LockBelongs after with
  pub within : (n : ℕ) → Contains (numbers_of after with) n → Contains touched n

abbrev pub changed : Locks → ℕ → Lock → Locks
changed old lock with = record { locks = with_item old.locks lock with }

at_lock : (old : Locks) (lock : ℕ) (with : Lock) → lock < length old.locks.items → lock_at (changed old lock with) lock ≡ with
at_lock old lock with l = get_or-set_same old.locks.items lock with free l

at_other : (old : Locks) (lock other : ℕ) (with : Lock) → other ≢ lock → lock_at (changed old lock with) other ≡ lock_at old other
at_other old lock other with h = get_or-set_other old.locks.items lock other with free h

module _ (before : Links) (old : Locks) (after : Links) (lock : ℕ) (with : Lock) (touched : List ℕ) (c : Changes before old after lock with touched) where
  out : (other : ℕ) → other ≢ lock → (n : ℕ) → Contains (numbers_of before (lock_at old other)) n → Contains touched n → ⊥
  out other h n i j = c.nowhere other n h i j

  belongs_at : (k : ℕ) → LockBelongs after (lock_at (changed old lock with) k)
  belongs_at k = elim (eqb_tells k lock) [
    | inl e ↦ subst (λ j. LockBelongs after (lock_at (changed old lock with) j)) (sym e.1)
        (subst (λ (l : Lock). LockBelongs after l) (sym (at_lock old lock with c.added)) c.belongs)
    | inr h ↦ subst (λ (l : Lock). LockBelongs after l) (sym (at_other old lock k with h.1))
        (lock_belongs before after (lock_at old k) touched c.queues (c.belong.belongs k) (out k h.1))
  ]

  -- a number that waits for another lock waited for it before
  stood : (other n : ℕ) → other ≢ lock → Contains (numbers_of after (lock_at (changed old lock with) other)) n → Contains (numbers_of before (lock_at old other)) n
  stood other n h i =
      lock_within before after (lock_at old other) touched c.queues (c.belong.belongs other) (out other h) n
      (subst (λ (l : Lock). Contains (numbers_of after l) n) (at_other old lock other with h) i)

  -- a number that waits for the lock was touched
  stands : (n : ℕ) → Contains (numbers_of after (lock_at (changed old lock with) lock)) n → Contains touched n
  stands n i = c.within n (subst (λ (l : Lock). Contains (numbers_of after l) n) (at_lock old lock with c.added) i)

  apart_at : (j k : ℕ) → j ≢ k → Apart (numbers_of after (lock_at (changed old lock with) j)) (numbers_of after (lock_at (changed old lock with) k))
  apart_at j k d = record {
    apart = λ n p q. elim (eqb_tells j lock) [
      | inl e ↦ c.nowhere k n (λ s. d (e.1 ∙ sym s)) (stood k n (λ s. d (e.1 ∙ sym s)) q)
          (stands n (subst (λ i. Contains (numbers_of after (lock_at (changed old lock with) i)) n) e.1 p))
      | inr h ↦ elim (eqb_tells k lock) [
        | inl e ↦ c.nowhere j n h.1 (stood j n h.1 p) (stands n (subst (λ i. Contains (numbers_of after (lock_at (changed old lock with) i)) n) e.1 q))
        | inr f ↦ (c.belong.apart j k d).apart n (stood j n h.1 p) (stood k n f.1 q)
      ]
    ];
  }

  pub belong_after : Belong after (changed old lock with)
  belong_after = record { belongs = belongs_at; apart = apart_at }

  same_waiting : (other : ℕ) → other ≢ lock → SameWaiting before old after (changed old lock with) other
  unfolding entrants_in waiters_in
  same_waiting other h = record {
    entrants = ap (λ (l : Lock). entrants_of after l) (at_other old lock other with h)
        ∙ lock_entrants before after (lock_at old other) touched c.queues (c.belong.belongs other) (out other h);
    waiters = ap (λ (l : Lock). waiters_of after l) (at_other old lock other with h)
        ∙ lock_waiters before after (lock_at old other) touched c.queues (c.belong.belongs other) (out other h);
  }

  pub others_kept : KeepsLocks before old after (changed old lock with) lock
  unfolding count_of owner_of
  others_kept = record {
    count = length-set old.locks.items lock with;
    owners = λ other h. ap (λ (l : Lock). l.owner) (at_other old lock other with h);
    lists = same_waiting;
  }

  pub owner_after : owner_of (changed old lock with) lock ≡ with.owner
  unfolding owner_of
  owner_after = ap (λ (l : Lock). l.owner) (at_lock old lock with c.added)

  pub entrants_after : entrants_in after (changed old lock with) lock ≡ entrants_of after with
  unfolding entrants_in
  entrants_after = ap (λ (l : Lock). entrants_of after l) (at_lock old lock with c.added)

  pub waiters_after : waiters_in after (changed old lock with) lock ≡ waiters_of after with
  unfolding waiters_in
  waiters_after = ap (λ (l : Lock). waiters_of after l) (at_lock old lock with c.added)

-- what was read of a lock
pub read_lock : (old : Locks) (lock : ℕ) (l : Lock) → lock < length old.locks.items → l ≡ slice_index_or old.locks.items lock l → lock_at old lock ≡ l
read_lock old lock l added e = sym (get_or_read old.locks.items lock l added e free)

pub owner_is : (old : Locks) (lock : ℕ) (l : Lock) → lock_at old lock ≡ l → owner_of old lock ≡ l.owner
unfolding owner_of
owner_is old lock l e = ap (λ (x : Lock). x.owner) e

pub entrants_is : (links : Links) (old : Locks) (lock : ℕ) (l : Lock) → lock_at old lock ≡ l → entrants_in links old lock ≡ entrants_of links l
unfolding entrants_in
entrants_is links old lock l e = ap (λ (x : Lock). entrants_of links x) e

pub waiters_is : (links : Links) (old : Locks) (lock : ℕ) (l : Lock) → lock_at old lock ≡ l → waiters_in links old lock ≡ waiters_of links l
unfolding waiters_in
waiters_is links old lock l e = ap (λ (x : Lock). waiters_of links x) e

pub numbers_is : (links : Links) (old : Locks) (lock : ℕ) (l : Lock) → lock_at old lock ≡ l → numbers_in links old lock ≡ numbers_of links l
numbers_is links old lock l e = λ i. entrants_is links old lock l e i ++ waiters_is links old lock l e i

not_added : (links : Links) (locks : Locks) (lock a : ℕ) → length locks.locks.items ≤ lock → Contains (numbers_of links (lock_at locks lock)) a → ⊥
not_added links locks lock a past i =
    none a (subst (λ ns. Contains ns a) (ap (λ (l : Lock). numbers_of links l) (get_or_past locks.locks.items lock free past) ∙ free_empty links) i)

not_in : (links : Links) (locks : Locks) (a lock : ℕ) → WaitsNowhere links locks a → Contains (numbers_of links (lock_at locks lock)) a → ⊥
unfolding count_of
not_in links locks a lock h i = elim (cases_lt lock (length locks.locks.items)) [
  | inl l ↦ h.nowhere lock l (subst (λ ns. Contains ns a) (sym (numbers_is links locks lock (lock_at locks lock) refl)) i)
  | inr p ↦ not_added links locks lock a p i
]

pub not_in_lock : (links : Links) (locks : Locks) (a lock : ℕ) (l : Lock) → lock_at locks lock ≡ l → WaitsNowhere links locks a → Contains (numbers_of links l) a → ⊥
not_in_lock links locks a lock l e h i = not_in links locks a lock h (subst (λ (x : Lock). Contains (numbers_of links x) a) (sym e) i)

-- those who wait are reserved, and nobody waits for two locks
pub waiting_reserved : (links : Links) (locks : Locks) (lock n : ℕ) → Belong links locks → Contains (numbers_in links locks lock) n → n < room_of links
waiting_reserved links locks lock n h i =
    lock_reserved links (lock_at locks lock) n (h.belongs lock) (subst (λ ns. Contains ns n) (numbers_is links locks lock (lock_at locks lock) refl) i)

pub apart_waiting : (links : Links) (locks : Locks) (lock other a : ℕ) → Belong links locks → other ≢ lock → Contains (numbers_in links locks other) a → Contains (numbers_in links locks lock) a → ⊥
apart_waiting links locks lock other a h d i j =
    (h.apart other lock d).apart a
    (subst (λ ns. Contains ns a) (numbers_is links locks other (lock_at locks other) refl) i)
    (subst (λ ns. Contains ns a) (numbers_is links locks lock (lock_at locks lock) refl) j)

-- the owner's leave touches those who wait for the lock
pub leave_changes : (before after : Links) (old : Locks) (lock : ℕ) (l with : Lock) → lock < length old.locks.items → lock_at old lock ≡ l → Belong before old
    → KeepsOthers before after (numbers_of before l) → LockBelongs after with
    → ((n : ℕ) → Contains (numbers_of after with) n → Contains (numbers_of before l) n)
    → Changes before old after lock with (numbers_of before l)
leave_changes before after old lock l with added is belong keeps belongs within = record {
  added = added;
  belong = belong;
  queues = keeps;
  nowhere = λ other n d i j. (belong.apart other lock d).apart n i (subst (λ (x : Lock). Contains (numbers_of before x) n) (sym is) j);
  belongs = belongs;
  within = within;
}

-- one who joins them is touched too
pub join_changes : (before after : Links) (old : Locks) (lock a : ℕ) (l with : Lock) → lock < length old.locks.items → lock_at old lock ≡ l → Belong before old
    → WaitsNowhere before old a → KeepsOthers before after (a ∷ numbers_of before l) → LockBelongs after with
    → ((n : ℕ) → Contains (numbers_of after with) n → Contains (a ∷ numbers_of before l) n)
    → Changes before old after lock with (a ∷ numbers_of before l)
join_changes before after old lock a l with added is belong idle keeps belongs within = record {
  added = added;
  belong = belong;
  queues = keeps;
  nowhere = λ other n d i j. elim (among a n (numbers_of before l) j) [
    | inl e ↦ not_in before old a other idle (subst (λ k. Contains (numbers_of before (lock_at old other)) k) (sym e) i)
    | inr k ↦ (belong.apart other lock d).apart n i (subst (λ (x : Lock). Contains (numbers_of before x) n) (sym is) k)
  ];
  belongs = belongs;
  within = within;
}

-- links that touch nobody who waits
module _ (old new : Links) (locks : Locks) (touched : List ℕ) (keeps : KeepsOthers old new touched) (h : Belong old locks)
    (idle : (a : ℕ) → Contains touched a → WaitsNowhere old locks a) where
  untouched : (lock n : ℕ) → Contains (numbers_of old (lock_at locks lock)) n → Contains touched n → ⊥
  untouched lock n i j = not_in old locks n lock (idle n j) i

  pub still_belong : Belong new locks
  still_belong = record {
    belongs = λ lock. lock_belongs old new (lock_at locks lock) touched keeps (h.belongs lock) (untouched lock);
    apart = λ lock other d. record {
      apart = λ n i j. (h.apart lock other d).apart n (lock_within old new (lock_at locks lock) touched keeps (h.belongs lock) (untouched lock) n i)
          (lock_within old new (lock_at locks other) touched keeps (h.belongs other) (untouched other) n j);
    };
  }

  pub still_waiting : ((n : ℕ) → mark_of new n ≡ mark_of old n) → (lock : ℕ) → SameWaiting old locks new locks lock
  unfolding entrants_in waiters_in
  still_waiting marks lock = record {
    entrants = lock_entrants old new (lock_at locks lock) touched keeps (h.belongs lock) (untouched lock);
    waiters = lock_waiters old new (lock_at locks lock) touched keeps (h.belongs lock) (untouched lock);
  }

-- locks that are added

at_none : (links : Links) (locks : Locks) (lock : ℕ) → locks.locks.items ≡ [] → lock_at locks lock ≡ free
at_none links locks lock e = ap (λ (ls : List Lock). slice_index_or ls lock free) e

pub none_belong : (links : Links) (locks : Locks) → locks.locks.items ≡ [] → Belong links locks
none_belong links locks e = record {
  belongs = λ lock. subst (λ (l : Lock). LockBelongs links l) (sym (at_none links locks lock e)) (free_belongs links);
  apart = λ lock other d. record {
    apart = λ n i j. none n (subst (λ ns. Contains ns n) (ap (λ (l : Lock). numbers_of links l) (at_none links locks lock e) ∙ free_empty links) i);
  };
}

-- the same locks, in other memory
pub moved_waiting : (links : Links) (old new : Locks) (lock : ℕ) → new.locks.items ≡ old.locks.items → SameWaiting links old links new lock
unfolding entrants_in waiters_in
moved_waiting links old new lock is = record {
  entrants = ap (λ (ls : List Lock). entrants_of links (slice_index_or ls lock free)) is;
  waiters = ap (λ (ls : List Lock). waiters_of links (slice_index_or ls lock free)) is;
}

module _ (old new : Locks) (l : Lock) (is : new.locks.items ≡ old.locks.items ++ l ∷ []) where
  added_there : (k : ℕ) → k ≡ length old.locks.items → lock_at new k ≡ l
  added_there k e = ap (λ (ls : List Lock). slice_index_or ls k free) is ∙ get_or_push old.locks.items l free k (sym e)

  -- for which nobody waits
  pub added_unawaited : (links : Links) (k : ℕ) → k ≡ length old.locks.items → (entrants_of links l ≡ []) × (waiters_of links l ≡ []) → IsUnawaited links new k
  unfolding entrants_in waiters_in
  added_unawaited links k e none = record {
    entrants = ap (λ (x : Lock). entrants_of links x) (added_there k e) ∙ none.0;
    waiters = ap (λ (x : Lock). waiters_of links x) (added_there k e) ∙ none.1;
  }

  -- the others are as they were
  pub added_waiting : (links : Links) (k : ℕ) → k < length old.locks.items → SameWaiting links old links new k
  unfolding entrants_in waiters_in
  added_waiting links k less =
      let same : lock_at new k ≡ lock_at old k = ap (λ (ls : List Lock). slice_index_or ls k free) is ∙ get_or_append_left old.locks.items (l ∷ []) free k less in
      record { entrants = ap (λ (x : Lock). entrants_of links x) same; waiters = ap (λ (x : Lock). waiters_of links x) same }

at_push : (ls : List Lock) (l : Lock) (k : ℕ) → (slice_index_or (ls ++ l ∷ []) k free ≡ slice_index_or ls k free) ⊎ (slice_index_or (ls ++ l ∷ []) k free ≡ l)
at_push [] l zero = inr refl
at_push [] l (suc k) = inl refl
at_push (x ∷ xs) l zero = inl refl
at_push (x ∷ xs) l (suc k) = at_push xs l k

module _ (links : Links) (old new : Locks) (l : Lock) (is : new.locks.items ≡ old.locks.items ++ l ∷ []) (h : Belong links old) (fits : LockBelongs links l) (empty : numbers_of links l ≡ []) where
  at_added : (k : ℕ) → (lock_at new k ≡ lock_at old k) ⊎ (lock_at new k ≡ l)
  at_added k = subst (λ (ls : List Lock). (slice_index_or ls k free ≡ lock_at old k) ⊎ (slice_index_or ls k free ≡ l)) (sym is) (at_push old.locks.items l k)

  list_added : (k n : ℕ) → Contains (numbers_of links (lock_at new k)) n → Contains (numbers_of links (lock_at old k)) n
  list_added k n i = elim (at_added k) [
    | inl e ↦ subst (λ (x : Lock). Contains (numbers_of links x) n) e i
    | inr e ↦ absurd (none n (subst (λ ns. Contains ns n) empty (subst (λ (x : Lock). Contains (numbers_of links x) n) e i)))
  ]

  pub added_belong : Belong links new
  added_belong = record {
    belongs = λ k. elim (at_added k) [
      | inl e ↦ subst (λ (x : Lock). LockBelongs links x) (sym e) (h.belongs k)
      | inr e ↦ subst (λ (x : Lock). LockBelongs links x) (sym e) fits
    ];
    apart = λ j k d. record { apart = λ n p q. (h.apart j k d).apart n (list_added j n p) (list_added k n q) };
  }
