use Rattle.std.proofs.Common.{◌≡◌, ◌∙◌, ◌∷◌, sym, refl, ap, arith}
use Rattle.std.specs.Prelude.{Some, None, Vec}
use Rattle.std.specs.declared.alloc.Global.{Global}
use Rattle.aos_base.specs.Lock.{Entry}
use Rattle.aos_base.specs.Book as book
use Rattle.aos_base.specs.Book.{leave_line}
use Rattle.aos_lock.specs.Heirs.{entered_owner, does_wait, joined}
use Rattle.aos_lock.specs.Waits.{owner_of, entrants_in, numbers_in}
use Rattle.aos_scheduler.specs.Numbers.{number_of}
use Rattle.aos_scheduler.specs.declared.run_state.RunState.{RunState}
use Rattle.aos_scheduler.proofs.Readings.{elsewhere, at_lock}
use Rattle.aos_scheduler.proofs.Places.{idle, not_ready}
use Rattle.aos_scheduler.proofs.Passing.{lock_here, owner_changed, ready_apart}
use Rattle.aos_scheduler.proofs.Standing.{on_same, on_place, on_within}
use Rattle.aos_scheduler.proofs.line.Line.enter.Goals as goal

pub owner-requires : goal.owner-requires
owner-requires c =
    let mid = c.number.new.self in
    let a = c.args.activity in
    let on = on_same c.args.self.now mid a c.in_ok-number.ensures.same (ap (λ (v : Vec RunState Global). v.items) c.number.ensures.places) c.requires in
    let s = on.stood in
    (lock_here mid s.line s.owner s.stands c.args.lock c.in_ok-number.number c.in_ok-number.ensures.number).0

pub enter-requires-clause-added : goal.enter-requires-clause-added
enter-requires-clause-added c =
    let mid = c.number.new.self in
    let a = c.args.activity in
    let on = on_same c.args.self.now mid a c.in_ok-number.ensures.same (ap (λ (v : Vec RunState Global). v.items) c.number.ensures.places) c.requires in
    let s = on.stood in
    (lock_here mid s.line s.owner s.stands c.args.lock c.in_ok-number.number c.in_ok-number.ensures.number).0

pub enter-requires-clause-belong : goal.enter-requires-clause-belong
enter-requires-clause-belong c =
    let mid = c.number.new.self in
    let a = c.args.activity in
    let on = on_same c.args.self.now mid a c.in_ok-number.ensures.same (ap (λ (v : Vec RunState Global). v.items) c.number.ensures.places) c.requires in
    let s = on.stood in
    s.stands.waits

pub enter-requires-clause-reserved : goal.enter-requires-clause-reserved
enter-requires-clause-reserved c =
    let mid = c.number.new.self in
    let a = c.args.activity in
    let on = on_same c.args.self.now mid a c.in_ok-number.ensures.same (ap (λ (v : Vec RunState Global). v.items) c.number.ensures.places) c.requires in
    let s = on.stood in
    let within = on_within mid a on in
    omega (arith, within, s.stands.room)

pub enter-requires-clause-elsewhere : goal.enter-requires-clause-elsewhere
enter-requires-clause-elsewhere c =
    let mid = c.number.new.self in
    let a = c.args.activity in
    let on = on_same c.args.self.now mid a c.in_ok-number.ensures.same (ap (λ (v : Vec RunState Global). v.items) c.number.ensures.places) c.requires in
    let s = on.stood in
    let p = on_place mid s.line s.owner s.stands a on in
    idle mid s.line s.owner s.stands a (λ k. elsewhere (at_lock k) s.line a (book.On p.0) s.stands.once p.1 refl)

pub returns-in-None-clause-entered : goal.returns-in-None-clause-entered
returns-in-None-clause-entered c line owner h =
    let mid = c.number.new.self in
    let a = c.args.activity in
    let on = on_same c.args.self.now mid a c.in_ok-number.ensures.same (ap (λ (v : Vec RunState Global). v.items) c.number.ensures.places) c.requires in
    let s = on.stood in
    let g = c.in_ok-number.ensures.same line owner h in
    let n = c.in_ok-number.number in
    let e = c.enter.ensures in
    let here = lock_here mid line owner g c.args.lock n c.in_ok-number.ensures.number in
    let free : owner_of mid.locks n ≡ None = sym c.owner.ensures ∙ c.in-None.is in
    let taken = e.taken.1 free in
    let p = on_place mid line owner g a on in (
      sym here.2 ∙ free,
      owner_changed mid line owner g c.args.lock n c.in_ok-number.ensures.number c.enter.new.links c.enter.new.self (Some a) (a ∷ numbers_in mid.links mid.locks n)
          (record { entrants = e.entrants ∙ ap (λ r. joined (does_wait r) a (entrants_in mid.links mid.locks n)) taken; waiters = e.waiters }) (e.owner ∙ ap (λ r. entered_owner r a (owner_of mid.locks n)) taken) e.others e.belong e.queues
          (ready_apart mid line owner g c.args.lock n c.in_ok-number.ensures.number a (not_ready mid line owner g a p.0 p.1)) e.marks.room,
    )

pub returns-then-owner-activity-clause-entered : goal.returns-then-owner-activity-clause-entered
returns-then-owner-activity-clause-entered c line owner h =
    let mid = c.number.new.self in
    let g = c.in_ok-number.ensures.same line owner h in
    let here = lock_here mid line owner g c.args.lock c.in_ok-number.number c.in_ok-number.ensures.number in
    (sym here.2 ∙ sym c.owner.ensures ∙ c.in-Some.is ∙ ap (λ x. Some x) c.if-owner-activity.true, g)

pub returns-then-owner-activity-clause-on : goal.returns-then-owner-activity-clause-on
returns-then-owner-activity-clause-on c _ =
    let mid = c.number.new.self in
    let a = c.args.activity in
    let on = on_same c.args.self.now mid a c.in_ok-number.ensures.same (ap (λ (v : Vec RunState Global). v.items) c.number.ensures.places) c.requires in
    let s = on.stood in
    on

pub leave-requires : goal.leave-requires
leave-requires c =
    let mid = c.number.new.self in
    let a = c.args.activity in
    let on = on_same c.args.self.now mid a c.in_ok-number.ensures.same (ap (λ (v : Vec RunState Global). v.items) c.number.ensures.places) c.requires in
    let s = on.stood in
    on

pub join-requires-clause-number : goal.join-requires-clause-number
join-requires-clause-number c = ap (λ ns. number_of ns c.args.lock) c.leave.ensures.numbers ∙ c.in_ok-number.ensures.number

pub returns-else-owner-activity-clause-entered : goal.returns-else-owner-activity-clause-entered
returns-else-owner-activity-clause-entered c line owner h =
    let mid = c.number.new.self in
    let g = c.in_ok-number.ensures.same line owner h in
    let here = lock_here mid line owner g c.args.lock c.in_ok-number.number c.in_ok-number.ensures.number in (
      c.in-Some.owner,
      sym here.2 ∙ sym c.owner.ensures ∙ c.in-Some.is,
      c.if-owner-activity.false,
      c.join.ensures.stands (leave_line c.args.activity line) owner (c.leave.ensures.stands line owner g) Entry refl,
    )
