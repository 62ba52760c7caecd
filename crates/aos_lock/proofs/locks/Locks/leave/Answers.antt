use Rattle.std.proofs.Common.{◌≡◌, ◌∙◌, ◌++◌, ℕ, List, ap, sym, subst, Contains}
use Rattle.aos_queue.specs.declared.links.Links.{Links}
use Rattle.aos_queue.specs.Lists.{KeepsOthers}
use Rattle.aos_lock.specs.declared.lock.Lock.{Lock}
use Rattle.aos_lock.specs.Heirs.{queued, heir_by, passed_to, after_passed}
use Rattle.aos_lock.specs.Waits.{count_of, entrants_in, waiters_in, numbers_in, entrants_of, waiters_of, numbers_of, LockBelongs, lock_at}
use Rattle.aos_lock.proofs.Rows.{both_left}
use Rattle.aos_lock.proofs.Changes.{Changes, read_lock, leave_changes, belong_after, others_kept, owner_after, entrants_after, waiters_after, entrants_is, waiters_is, numbers_is}
use Rattle.aos_lock.proofs.locks.Locks.leave.Goals as goal

pub release-requires : goal.release-requires
unfolding count_of
release-requires g c =
    subst (λ (l : Lock). LockBelongs c.args.links.now l) (read_lock c.args.self.now c.args.lock _ c.requires.added c.index_mut.ensures.value) (c.requires.belong.belongs c.args.lock)

pub returns : goal.returns
unfolding count_of
returns g c =
    let before : Links = c.args.links.now in
    let after : Links = c.release.new.links in
    let old = c.args.self.now in
    let lock = c.args.lock in
    let l : Lock = c.index_mut.result.now in
    let with : Lock = c.release.new.self in
    let es = entrants_of before l in
    let ws = waiters_of before l in
    let of = g.T.Test.verdict_of c.args.test.now in
    let passed = c.release.result in
    let is : lock_at old lock ≡ l = read_lock old lock l c.requires.added c.index_mut.ensures.value in
    let es_are : entrants_in before old lock ≡ es = entrants_is before old lock l is in
    let ws_are : waiters_in before old lock ≡ ws = waiters_is before old lock l is in
    let all : numbers_in before old lock ≡ numbers_of before l = numbers_is before old lock l is in
    let parts : numbers_of after with ≡ after_passed passed es ++ after_passed passed ws = λ i. c.release.ensures.entrants i ++ c.release.ensures.waiters i in
    let h : Changes before old after lock with (numbers_of before l) =
    leave_changes before after old lock l with c.requires.added is c.requires.belong c.release.ensures.others c.release.ensures.belongs
    (λ n i. both_left passed es ws n (subst (λ ns. Contains ns n) parts i)) in
    record {
      heir = c.release.ensures.heir ∙ (λ i. passed_to (heir_by of (queued (sym es_are i) (sym ws_are i))));
      owner = owner_after before old after lock with _ h ∙ c.release.ensures.owner;
      entrants = entrants_after before old after lock with _ h ∙ c.release.ensures.entrants ∙ ap (after_passed passed) (sym es_are);
      waiters = waiters_after before old after lock with _ h ∙ c.release.ensures.waiters ∙ ap (after_passed passed) (sym ws_are);
      belong = belong_after before old after lock with _ h;
      others = others_kept before old after lock with _ h;
      queues = subst (λ (ns : List ℕ). KeepsOthers before after ns) (sym all) c.release.ensures.others;
      table = c.release.ensures.table;
      verdicts = c.release.ensures.verdicts;
      held = c.release.ensures.held;
    }
