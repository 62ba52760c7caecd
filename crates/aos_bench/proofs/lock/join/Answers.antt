use Rattle.std.proofs.Common.{◌≡◌, ◌≢◌, ◌∙◌, ◌+◌, ◌<◌, ◌≤◌, ℕ, ap, sym, subst, arith}
use Rattle.std.specs.Prelude.{Some, None, false}
use Rattle.aos_queue.specs.Lists.{room_of}
use Rattle.aos_lock.specs.declared.lock.Entered.TheVariants.{Taken}
use Rattle.aos_lock.specs.Heirs.{entered_owner, does_wait}
use Rattle.aos_lock.specs.Waits.{count_of, owner_of}
use Rattle.aos_lock.proofs.Idle.{idle_joined}
use Rattle.aos_bench.proofs.Holders.{owner_again}
use Rattle.aos_bench.proofs.lock.join.Goals as goal

pub loop-activity-preserved : goal.loop-activity-preserved
loop-activity-preserved c =
    let h = c.loop-activity.invariant.holds in
    let a = c.loop-activity.activity + 1 in
    let keeps = c.enter.ensures.others in
    let room : room_of c.enter.new.links ≡ room_of c.loop-activity.links = c.enter.ensures.marks.room in
    let stays : c.enter.result ≡ Taken → owner_of c.loop-activity.locks c.args.lock ≡ None = c.enter.ensures.taken.0 in
    record {
      holds = record {
        added = subst (λ n. c.args.lock < n) (sym keeps.count) h.added;
        belong = c.enter.ensures.belong;
        owner = c.enter.ensures.owner ∙ ap (entered_owner c.enter.result a) h.owner
            ∙ owner_again c.enter.result a 0 (λ e. let n = stays e in let s = h.owner in absurd (cc));
        reserved = subst (λ n. 0 < n) (sym room) h.reserved;
        idle = idle_joined _ _ _ _ c.args.lock a 0 (does_wait c.enter.result) false h.added keeps c.enter.ensures.entrants c.enter.ensures.waiters (λ e. absurd (omega (arith, e))) h.idle;
      };
      idle = record {
        idle = λ b l. idle_joined _ _ _ _ c.args.lock a b (does_wait c.enter.result) false h.added keeps c.enter.ensures.entrants c.enter.ensures.waiters (λ e. absurd (omega (arith, e, l)))
            (c.loop-activity.invariant.idle.idle b (omega (arith, l)));
      };
      room = room ∙ c.loop-activity.invariant.room;
    }

pub returns-clause-idle : goal.returns-clause-idle
returns-clause-idle c =
    let l = c.loop-activity in
    record { idle = λ b le. l.invariant.idle.idle b (omega (arith, le, l.auto.activity-end)) }
