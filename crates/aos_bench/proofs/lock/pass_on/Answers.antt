use Rattle.std.proofs.Common.{◌≡◌, ◌≢◌, ◌∙◌, ◌<◌, ℕ, sym, subst, Contains}
use Rattle.std.specs.Prelude.{Some}
use Rattle.aos_base.specs.declared.kernel.Verdict.TheVariants.{Fails}
use Rattle.aos_queue.specs.Lists.{room_of}
use Rattle.aos_lock.specs.Heirs.{new_owner}
use Rattle.aos_lock.specs.Waits.{entrants_in, waiters_in, numbers_in, WaitsNowhere}
use Rattle.aos_lock.proofs.Chosen.{passed_within}
use Rattle.aos_lock.proofs.Changes.{waiting_reserved, apart_waiting}
use Rattle.aos_lock.proofs.Idle.{idle_left, heir_idle}
use Rattle.aos_bench.specs.Holder.{Holds}
use Rattle.aos_bench.proofs.Holders.{holds_again}
use Rattle.aos_bench.proofs.lock.pass_on.Goals as goal

pub enter-requires-clause-elsewhere : goal.enter-requires-clause-elsewhere
enter-requires-clause-elsewhere c =
    idle_left c.args.links.now c.leave.new.links c.args.locks.now c.leave.new.self c.args.lock c.args.owner c.leave.result c.requires.added c.leave.ensures.others
    c.leave.ensures.entrants c.leave.ensures.waiters c.requires.idle

pub returns : goal.returns
returns c =
    let before = c.args.links.now in
    let mid = c.leave.new.links in
    let after = c.enter.new.links in
    let old = c.args.locks.now in
    let new = c.leave.new.self in
    let last = c.enter.new.self in
    let lock = c.args.lock in
    let o = c.args.owner in
    let es = entrants_in before old lock in
    let ws = waiters_in before old lock in
    let left = c.leave.ensures in
    let room : room_of after ≡ room_of before = c.enter.ensures.marks.room ∙ left.table.room in
    let idle : WaitsNowhere mid new o = idle_left before mid old new lock o c.leave.result c.requires.added left.others left.entrants left.waiters c.requires.idle in
    let p = c.owner-heir.result in
    let heir : (b : ℕ) → p ≡ Some b → WaitsNowhere mid new b × (o ≢ b) × (b < room_of after) = λ b e.
    let is : new_owner c.leave.result ≡ Some b = sym c.owner-heir.ensures ∙ e in
    let within : Contains (numbers_in before old lock) b = passed_within (λ n. Fails) es ws c.leave.result b left.heir is in (
      heir_idle before mid old new lock b c.leave.result es ws left.others (λ other d l i. apart_waiting before old lock other b c.requires.belong d i within) left.entrants left.waiters is,
      (λ q. c.requires.idle.nowhere lock c.requires.added (subst (λ k. Contains (numbers_in before old lock) k) (sym q) within)),
      subst (λ n. b < n) (sym room) (waiting_reserved before old lock b c.requires.belong within),
    ) in
    subst (λ k. Holds after last lock k) (sym c.unwrap_or.ensures)
    (holds_again mid after new last lock o c.enter.result (subst (λ n. lock < n) (sym left.others.count) c.requires.added) c.enter.ensures.others
    c.enter.ensures.belong c.enter.ensures.taken.1 c.enter.ensures.taken.0 c.enter.ensures.owner c.enter.ensures.entrants c.enter.ensures.waiters
    (subst (λ n. o < n) (sym room) c.requires.reserved) idle p (left.owner ∙ sym c.owner-heir.ensures) heir)
