use Rattle.std.proofs.Common.{◌≡◌, ◌∙◌, ◌++◌, ◌∷◌, List, ℕ, ap, sym, subst, Contains}
use Rattle.std.specs.Prelude.{false}
use Rattle.aos_queue.specs.declared.links.Links.{Links}
use Rattle.aos_queue.specs.Lists.{KeepsOthers}
use Rattle.aos_lock.specs.declared.lock.Lock.{Lock}
use Rattle.aos_lock.specs.Heirs.{entered_owner, does_wait, joined}
use Rattle.aos_lock.specs.Waits.{count_of, owner_of, entrants_in, waiters_in, numbers_in, entrants_of, waiters_of, numbers_of, LockBelongs, lock_at}
use Rattle.aos_lock.proofs.Rows.{both_joined}
use Rattle.aos_lock.proofs.Changes.{Changes, read_lock, not_in_lock, join_changes, belong_after, others_kept, owner_after, entrants_after, waiters_after, owner_is, entrants_is, waiters_is, numbers_is}
use Rattle.aos_lock.proofs.locks.Locks.enter.Goals as goal

pub enter-requires-clause-belongs : goal.enter-requires-clause-belongs
unfolding count_of
enter-requires-clause-belongs c =
    subst (λ (l : Lock). LockBelongs c.args.links.now l) (read_lock c.args.self.now c.args.lock _ c.requires.added c.index_mut.ensures.value) (c.requires.belong.belongs c.args.lock)

pub enter-requires-clause-elsewhere : goal.enter-requires-clause-elsewhere
unfolding count_of
enter-requires-clause-elsewhere c =
    not_in_lock c.args.links.now c.args.self.now c.args.activity c.args.lock _ (read_lock c.args.self.now c.args.lock _ c.requires.added c.index_mut.ensures.value) c.requires.elsewhere

pub returns : goal.returns
unfolding count_of
returns c =
    let before : Links = c.args.links.now in
    let after : Links = c.enter.new.links in
    let old = c.args.self.now in
    let lock = c.args.lock in
    let a = c.args.activity in
    let l : Lock = c.index_mut.result.now in
    let with : Lock = c.enter.new.self in
    let es = entrants_of before l in
    let ws = waiters_of before l in
    let waits = does_wait c.enter.result in
    let is : lock_at old lock ≡ l = read_lock old lock l c.requires.added c.index_mut.ensures.value in
    let owner : owner_of old lock ≡ l.owner = owner_is old lock l is in
    let es_are : entrants_in before old lock ≡ es = entrants_is before old lock l is in
    let ws_are : waiters_in before old lock ≡ ws = waiters_is before old lock l is in
    let all : numbers_in before old lock ≡ numbers_of before l = numbers_is before old lock l is in
    let parts : numbers_of after with ≡ joined waits a es ++ joined false a ws = λ i. c.enter.ensures.entrants i ++ c.enter.ensures.waiters i in
    let h : Changes before old after lock with (a ∷ numbers_of before l) =
    join_changes before after old lock a l with c.requires.added is c.requires.belong c.requires.elsewhere c.enter.ensures.others c.enter.ensures.belongs
    (λ n i. both_joined waits false a es ws n (subst (λ ns. Contains ns n) parts i)) in
    record {
      recursive = ((λ e. owner ∙ c.enter.ensures.recursive.0 e), (λ e. c.enter.ensures.recursive.1 (sym owner ∙ e)));
      taken = ((λ e. owner ∙ c.enter.ensures.taken.0 e), (λ e. c.enter.ensures.taken.1 (sym owner ∙ e)));
      unchanged = λ e. (c.enter.ensures.unchanged e).1;
      owner = owner_after before old after lock with _ h ∙ c.enter.ensures.owner ∙ ap (entered_owner c.enter.result a) (sym owner);
      entrants = entrants_after before old after lock with _ h ∙ c.enter.ensures.entrants ∙ ap (joined waits a) (sym es_are);
      waiters = waiters_after before old after lock with _ h ∙ c.enter.ensures.waiters ∙ sym ws_are;
      belong = belong_after before old after lock with _ h;
      others = others_kept before old after lock with _ h;
      queues = subst (λ (ns : List ℕ). KeepsOthers before after (a ∷ ns)) (sym all) c.enter.ensures.others;
      marks = c.enter.ensures.marks;
    }
