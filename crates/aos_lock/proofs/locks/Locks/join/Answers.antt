use Rattle.std.proofs.Common.{◌≡◌, ◌∙◌, ◌++◌, ◌∷◌, ℕ, List, ap, sym, subst, Contains}
use Rattle.std.specs.Prelude.{not}
use Rattle.aos_queue.specs.declared.links.Links.{Links}
use Rattle.aos_queue.specs.Lists.{KeepsOthers}
use Rattle.aos_lock.specs.declared.lock.Lock.{Lock}
use Rattle.aos_lock.specs.Heirs.{joined}
use Rattle.aos_lock.specs.Waits.{count_of, owner_of, entrants_in, waiters_in, numbers_in, entrants_of, waiters_of, numbers_of, LockBelongs, lock_at}
use Rattle.aos_lock.proofs.Rows.{both_joined}
use Rattle.aos_lock.proofs.Changes.{Changes, read_lock, not_in_lock, join_changes, belong_after, others_kept, owner_after, entrants_after, waiters_after, owner_is, entrants_is, waiters_is, numbers_is}
use Rattle.aos_lock.proofs.locks.Locks.join.Goals as goal

pub join-requires-clause-belongs : goal.join-requires-clause-belongs
unfolding count_of
join-requires-clause-belongs c =
    subst (λ (l : Lock). LockBelongs c.args.links.now l) (read_lock c.args.self.now c.args.lock _ c.requires.added c.index_mut.ensures.value) (c.requires.belong.belongs c.args.lock)

pub join-requires-clause-elsewhere : goal.join-requires-clause-elsewhere
unfolding count_of
join-requires-clause-elsewhere c =
    not_in_lock c.args.links.now c.args.self.now c.args.activity c.args.lock _ (read_lock c.args.self.now c.args.lock _ c.requires.added c.index_mut.ensures.value) c.requires.elsewhere

pub returns : goal.returns
unfolding count_of
returns c =
    let before : Links = c.args.links.now in
    let after : Links = c.join.new.links in
    let old = c.args.self.now in
    let lock = c.args.lock in
    let a = c.args.activity in
    let awaits = c.args.awaits in
    let l : Lock = c.index_mut.result.now in
    let with : Lock = c.join.new.self in
    let es = entrants_of before l in
    let ws = waiters_of before l in
    let is : lock_at old lock ≡ l = read_lock old lock l c.requires.added c.index_mut.ensures.value in
    let owner : owner_of old lock ≡ l.owner = owner_is old lock l is in
    let es_are : entrants_in before old lock ≡ es = entrants_is before old lock l is in
    let ws_are : waiters_in before old lock ≡ ws = waiters_is before old lock l is in
    let all : numbers_in before old lock ≡ numbers_of before l = numbers_is before old lock l is in
    let parts : numbers_of after with ≡ joined (not awaits) a es ++ joined awaits a ws = λ i. c.join.ensures.entrants i ++ c.join.ensures.waiters i in
    let h : Changes before old after lock with (a ∷ numbers_of before l) =
    join_changes before after old lock a l with c.requires.added is c.requires.belong c.requires.elsewhere c.join.ensures.others c.join.ensures.belongs
    (λ n i. both_joined (not awaits) awaits a es ws n (subst (λ ns. Contains ns n) parts i)) in
    record {
      owner = owner_after before old after lock with _ h ∙ c.join.ensures.owner ∙ sym owner;
      entrants = entrants_after before old after lock with _ h ∙ c.join.ensures.entrants ∙ ap (joined (not awaits) a) (sym es_are);
      waiters = waiters_after before old after lock with _ h ∙ c.join.ensures.waiters ∙ ap (joined awaits a) (sym ws_are);
      belong = belong_after before old after lock with _ h;
      others = others_kept before old after lock with _ h;
      queues = subst (λ (ns : List ℕ). KeepsOthers before after (a ∷ ns)) (sym all) c.join.ensures.others;
      marks = c.join.ensures.marks;
    }
