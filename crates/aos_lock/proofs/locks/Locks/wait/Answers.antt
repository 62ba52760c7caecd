use Rattle.std.proofs.Common.{◌≡◌, ◌∙◌, ◌∷◌, [], ◌++◌, ℕ, List, ap, sym, subst, Contains}
use Rattle.std.specs.Prelude.{true, false}
use Rattle.aos_queue.specs.declared.links.Links.{Links}
use Rattle.aos_queue.specs.Lists.{KeepsOthers}
use Rattle.aos_lock.specs.declared.lock.Lock.{Lock}
use Rattle.aos_lock.specs.Heirs.{queued, heir_by, passed_to, after_passed}
use Rattle.aos_lock.specs.Waits.{count_of, entrants_in, waiters_in, numbers_in, entrants_of, waiters_of, numbers_of, LockBelongs, lock_at}
use Rattle.aos_lock.proofs.Rows.{both_joined, both_left}
use Rattle.aos_lock.proofs.Changes.{Changes, read_lock, not_in_lock, join_changes, belong_after, others_kept, owner_after, entrants_after, waiters_after, entrants_is, waiters_is, numbers_is}
use Rattle.aos_lock.proofs.locks.Locks.wait.Goals as goal

pub wait-requires-clause-belongs : goal.wait-requires-clause-belongs
unfolding count_of
wait-requires-clause-belongs g c =
    subst (λ (l : Lock). LockBelongs c.args.links.now l) (read_lock c.args.self.now c.args.lock _ c.requires.added c.index_mut.ensures.value) (c.requires.belong.belongs c.args.lock)

pub wait-requires-clause-elsewhere : goal.wait-requires-clause-elsewhere
unfolding count_of
wait-requires-clause-elsewhere g c =
    not_in_lock c.args.links.now c.args.self.now c.args.activity c.args.lock _ (read_lock c.args.self.now c.args.lock _ c.requires.added c.index_mut.ensures.value) c.requires.elsewhere

pub returns : goal.returns
unfolding count_of
returns g c =
    let before : Links = c.args.links.now in
    let after : Links = c.wait.new.links in
    let old = c.args.self.now in
    let lock = c.args.lock in
    let a = c.args.activity in
    let l : Lock = c.index_mut.result.now in
    let with : Lock = c.wait.new.self in
    let es = entrants_of before l in
    let ws = waiters_of before l in
    let of = g.T.Test.verdict_of c.args.test.now in
    let passed = c.wait.result in
    let is : lock_at old lock ≡ l = read_lock old lock l c.requires.added c.index_mut.ensures.value in
    let es_are : entrants_in before old lock ≡ es = entrants_is before old lock l is in
    let ws_are : waiters_in before old lock ≡ ws = waiters_is before old lock l is in
    let all : numbers_in before old lock ≡ numbers_of before l = numbers_is before old lock l is in
    let parts : numbers_of after with ≡ after_passed passed es ++ after_passed passed (ws ++ a ∷ []) = λ i. c.wait.ensures.entrants i ++ c.wait.ensures.waiters i in
    let h : Changes before old after lock with (a ∷ numbers_of before l) =
    join_changes before after old lock a l with c.requires.added is c.requires.belong c.requires.elsewhere c.wait.ensures.others c.wait.ensures.belongs
    (λ n i. both_joined false true a es ws n (both_left passed es (ws ++ a ∷ []) n (subst (λ ns. Contains ns n) parts i))) in
    record {
      heir = c.wait.ensures.heir ∙ (λ i. passed_to (heir_by of (queued (sym es_are i) (sym ws_are i ++ a ∷ []))));
      owner = owner_after before old after lock with _ h ∙ c.wait.ensures.owner;
      entrants = entrants_after before old after lock with _ h ∙ c.wait.ensures.entrants ∙ ap (after_passed passed) (sym es_are);
      waiters = waiters_after before old after lock with _ h ∙ c.wait.ensures.waiters ∙ ap (λ ns. after_passed passed (ns ++ a ∷ [])) (sym ws_are);
      belong = belong_after before old after lock with _ h;
      others = others_kept before old after lock with _ h;
      queues = subst (λ (ns : List ℕ). KeepsOthers before after (a ∷ ns)) (sym all) c.wait.ensures.others;
      marks = c.wait.ensures.marks;
      verdicts = c.wait.ensures.verdicts;
      held = c.wait.ensures.held;
    }
