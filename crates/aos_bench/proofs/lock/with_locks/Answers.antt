use Rattle.std.proofs.Common.{◌≡◌, ◌∙◌, ◌+◌, ◌<◌, ◌≤◌, ap, sym, subst, arith}
use Rattle.std.proofs.Math.Nat.{le-max_right}
use Rattle.aos_queue.specs.Lists.{room_of}
use Rattle.aos_lock.specs.declared.lock.Entered.{Entered}
use Rattle.aos_lock.specs.declared.lock.Entered.TheVariants.{Taken}
use Rattle.aos_lock.specs.Heirs.{entered_owner}
use Rattle.aos_lock.specs.Waits.{count_of, owner_of}
use Rattle.aos_bench.proofs.Holders.{nobody_waits, nobody_then}
use Rattle.aos_bench.proofs.lock.with_locks.Goals as goal

pub enter-requires-clause-elsewhere : goal.enter-requires-clause-elsewhere
enter-requires-clause-elsewhere c =
    let e = c.in_ok-lock.ensures in
    let lock = c.in_ok-lock.lock in
    let one : count_of c.add.new.self ≡ lock + 1 = e.ok ∙ ap (λ n. n + 1) (sym e.number) in
    nobody_waits c.reserve.new.self c.add.new.self lock one (e.number ∙ c.new-locks.ensures.count) (e.awaited c.reserve.new.self) 0

pub join-requires-clause-holds : goal.join-requires-clause-holds
join-requires-clause-holds c =
    let e = c.in_ok-lock.ensures in
    let r = c.enter.ensures in
    let lock = c.in_ok-lock.lock in
    let one : count_of c.add.new.self ≡ lock + 1 = e.ok ∙ ap (λ n. n + 1) (sym e.number) in
    let added : lock < count_of c.add.new.self = omega (arith, one) in
    let took : c.enter.result ≡ Taken = r.taken.1 e.free in
    let room : c.args.waiting + 2 ≤ room_of c.reserve.new.self =
    subst (λ n. c.args.waiting + 2 ≤ n) (sym c.in_ok-reserve.ensures.ok) (le-max_right (room_of c.new-links.result) (c.args.waiting + 2)) in
    record {
      added = subst (λ n. lock < n) (sym r.others.count) added;
      belong = r.belong;
      owner = r.owner ∙ ap (λ (x : Entered). entered_owner x 0 (owner_of c.add.new.self lock)) took;
      reserved = subst (λ n. 0 < n) (sym r.marks.room) (omega (arith, room));
      idle = nobody_then c.reserve.new.self c.enter.new.links c.add.new.self c.enter.new.self lock 0 c.enter.result one (e.number ∙ c.new-locks.ensures.count) (e.awaited c.reserve.new.self) r.others took
          r.entrants r.waiters 0;
    }

pub join-requires-clause-idle : goal.join-requires-clause-idle
join-requires-clause-idle c =
    let e = c.in_ok-lock.ensures in
    let r = c.enter.ensures in
    let lock = c.in_ok-lock.lock in
    let one : count_of c.add.new.self ≡ lock + 1 = e.ok ∙ ap (λ n. n + 1) (sym e.number) in
    record {
      idle = λ b le. nobody_then c.reserve.new.self c.enter.new.links c.add.new.self c.enter.new.self lock 0 c.enter.result one (e.number ∙ c.new-locks.ensures.count) (e.awaited c.reserve.new.self) r.others
          (r.taken.1 e.free) r.entrants r.waiters b;
    }

pub join-requires-clause-reserved : goal.join-requires-clause-reserved
join-requires-clause-reserved c =
    let room : c.args.waiting + 2 ≤ room_of c.reserve.new.self =
    subst (λ n. c.args.waiting + 2 ≤ n) (sym c.in_ok-reserve.ensures.ok) (le-max_right (room_of c.new-links.result) (c.args.waiting + 2)) in
    subst (λ n. c.args.waiting < n) (sym c.enter.ensures.marks.room) (omega (arith, room))

pub wait_again-requires-clause-reserved : goal.wait_again-requires-clause-reserved
wait_again-requires-clause-reserved c =
    let room : c.args.waiting + 2 ≤ room_of c.reserve.new.self =
    subst (λ n. c.args.waiting + 2 ≤ n) (sym c.in_ok-reserve.ensures.ok) (le-max_right (room_of c.new-links.result) (c.args.waiting + 2)) in
    subst (λ n. c.args.waiting + 1 < n) (sym (c.join.ensures.room ∙ c.enter.ensures.marks.room)) (omega (arith, room))

pub wait_again-requires-clause-idle : goal.wait_again-requires-clause-idle
wait_again-requires-clause-idle c = c.join.ensures.idle.idle (c.args.waiting + 1) (omega arith)
