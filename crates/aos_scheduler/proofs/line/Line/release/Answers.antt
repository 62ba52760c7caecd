use Rattle.std.proofs.Common.{◌≡◌, ◌-◌, refl, sym, subst, ◌∙◌, arith}
use Rattle.std.specs.Prelude.{Some, None}
use Rattle.std.specs.Vec.{with_item}
use Rattle.aos_base.specs.Lock.{is_lock}
use Rattle.aos_base.specs.Book as book
use Rattle.aos_base.specs.Book.{put, waiting, leave_line}
use Rattle.aos_lock.specs.Heirs.{new_owner}
use Rattle.aos_lock.specs.Waits.{entrants_in, waiters_in, numbers_in}
use Rattle.aos_lock.proofs.Rows.{nobody_leaves}
use Rattle.aos_lock.proofs.Chosen.{passed_within}
use Rattle.aos_scheduler.specs.declared.line.Line.{Line}
use Rattle.aos_scheduler.specs.Numbers.{number_of}
use Rattle.aos_scheduler.specs.declared.run_state.RunState.TheVariants.{Nowhere}
use Rattle.aos_scheduler.specs.Stands.{Stands, IsNowhere}
use Rattle.aos_scheduler.proofs.Moves.{leaves, set_here}
use Rattle.aos_scheduler.proofs.Passing.{lock_here, waits_here, owner_changed, waiting_apart, left_lock, owned_left, left_some, left_none, heir_is}
use Rattle.aos_scheduler.proofs.Standing.{place_known, live_some}
use Rattle.aos_scheduler.proofs.line.Line.release.Goals as goal

pub index_mut-requires : goal.index_mut-requires
index_mut-requires g c =
    let l = c.args.self.now in
    let lock = c.args.lock in
    let n = c.in-Some.number in
    let is : number_of l.numbers lock ≡ Some n = sym c.get.ensures ∙ c.in-Some.is in
    let e = c.leave-passed.ensures in
    let of = g.T.Test.verdict_of c.args.test.now in
    let es = entrants_in l.links l.locks n in
    let ws = waiters_in l.links l.locks n in
    let b = c.in-Some-owner.heir in
    let owned : new_owner c.leave-passed.result ≡ Some b = sym c.owner.ensures ∙ c.in-Some-owner.is in
    let inside = passed_within of es ws c.leave-passed.result b e.heir owned in
    let new : Line = record l { links = c.leave-passed.new.links; locks = c.leave-passed.new.self; places = with_item l.places b Nowhere; live = l.live - 1 } in
    let s = c.requires in
    let p = waits_here l s.line s.owner s.stands lock n is b inside in
    omega (arith, place_known l s.line s.owner s.stands b (book.At lock p.0) p.1, l.places.ok.0)

pub overflow_sub-self : goal.overflow_sub-self
overflow_sub-self g c =
    let l = c.args.self.now in
    let lock = c.args.lock in
    let n = c.in-Some.number in
    let is : number_of l.numbers lock ≡ Some n = sym c.get.ensures ∙ c.in-Some.is in
    let e = c.leave-passed.ensures in
    let of = g.T.Test.verdict_of c.args.test.now in
    let es = entrants_in l.links l.locks n in
    let ws = waiters_in l.links l.locks n in
    let b = c.in-Some-owner.heir in
    let owned : new_owner c.leave-passed.result ≡ Some b = sym c.owner.ensures ∙ c.in-Some-owner.is in
    let inside = passed_within of es ws c.leave-passed.result b e.heir owned in
    let new : Line = record l { links = c.leave-passed.new.links; locks = c.leave-passed.new.self; places = with_item l.places b Nowhere; live = l.live - 1 } in
    let s = c.requires in
    let p = waits_here l s.line s.owner s.stands lock n is b inside in
    live_some l s.line s.owner s.stands b (book.At lock p.0) p.1

pub returns-in-Some-owner-clause-passed : goal.returns-in-Some-owner-clause-passed
returns-in-Some-owner-clause-passed g c line owner h verdict agree =
    let l = c.args.self.now in
    let n = c.in-Some.number in
    let here = lock_here l line owner h c.args.lock n (sym c.get.ensures ∙ c.in-Some.is) in
    heir_is l.links l.locks n verdict (g.T.Test.verdict_of c.args.test.now) (waiting c.args.lock line) c.leave-passed.result here.1 c.leave-passed.ensures.heir agree

pub returns-in-Some-owner-clause-stands : goal.returns-in-Some-owner-clause-stands
returns-in-Some-owner-clause-stands g c line owner h =
    let l = c.args.self.now in
    let lock = c.args.lock in
    let n = c.in-Some.number in
    let is : number_of l.numbers lock ≡ Some n = sym c.get.ensures ∙ c.in-Some.is in
    let e = c.leave-passed.ensures in
    let of = g.T.Test.verdict_of c.args.test.now in
    let es = entrants_in l.links l.locks n in
    let ws = waiters_in l.links l.locks n in
    let b = c.in-Some-owner.heir in
    let owned : new_owner c.leave-passed.result ≡ Some b = sym c.owner.ensures ∙ c.in-Some-owner.is in
    let inside = passed_within of es ws c.leave-passed.result b e.heir owned in
    let new : Line = record l { links = c.leave-passed.new.links; locks = c.leave-passed.new.self; places = with_item l.places b Nowhere; live = l.live - 1 } in
    let p = waits_here l line owner h lock n is b inside in
    let within = place_known l line owner h b (book.At lock p.0) p.1 in
    let one = live_some l line owner h b (book.At lock p.0) p.1 in
    subst (λ rest. Stands new rest (put is_lock owner lock (new_owner c.leave-passed.result))) (sym (left_some c.leave-passed.result b line owned))
    (leaves l new b (book.At lock p.0) line owner (put is_lock owner lock (new_owner c.leave-passed.result)) h p.1
    (left_lock l line owner h lock n is b c.leave-passed.result c.leave-passed.new.links c.leave-passed.new.self (with_item l.places b Nowhere) (l.live - 1) p.0 p.1 within owned e.entrants e.waiters e.others e.belong e.queues e.table.room refl (omega (arith, one)))
    (owned_left l line owner h lock n is c.leave-passed.new.links c.leave-passed.new.self new (new_owner c.leave-passed.result) refl e.owner e.others))

pub returns-in-Some-owner-clause-nowhere : goal.returns-in-Some-owner-clause-nowhere
returns-in-Some-owner-clause-nowhere g c other told =
    let l = c.args.self.now in
    let lock = c.args.lock in
    let n = c.in-Some.number in
    let is : number_of l.numbers lock ≡ Some n = sym c.get.ensures ∙ c.in-Some.is in
    let e = c.leave-passed.ensures in
    let of = g.T.Test.verdict_of c.args.test.now in
    let es = entrants_in l.links l.locks n in
    let ws = waiters_in l.links l.locks n in
    let b = c.in-Some-owner.heir in
    let owned : new_owner c.leave-passed.result ≡ Some b = sym c.owner.ensures ∙ c.in-Some-owner.is in
    let inside = passed_within of es ws c.leave-passed.result b e.heir owned in
    let new : Line = record l { links = c.leave-passed.new.links; locks = c.leave-passed.new.self; places = with_item l.places b Nowhere; live = l.live - 1 } in
    let z : Some b ≡ Some other = sym owned ∙ told in
    let same : b ≡ other = cc z in
    let s = c.requires in
    let p = waits_here l s.line s.owner s.stands lock n is b inside in
    let within = place_known l s.line s.owner s.stands b (book.At lock p.0) p.1 in
    let one = live_some l s.line s.owner s.stands b (book.At lock p.0) p.1 in
    subst (λ x. IsNowhere new x) same (record {
      stood = record {
        line = leave_line b s.line;
        owner = put is_lock s.owner lock (new_owner c.leave-passed.result);
        stands = leaves l new b (book.At lock p.0) s.line s.owner (put is_lock s.owner lock (new_owner c.leave-passed.result)) s.stands p.1
            (left_lock l s.line s.owner s.stands lock n is b c.leave-passed.result c.leave-passed.new.links c.leave-passed.new.self (with_item l.places b Nowhere) (l.live - 1) p.0 p.1 within owned e.entrants e.waiters e.others e.belong e.queues e.table.room refl (omega (arith, one)))
            (owned_left l s.line s.owner s.stands lock n is c.leave-passed.new.links c.leave-passed.new.self new (new_owner c.leave-passed.result) refl e.owner e.others);
      };
      at = set_here l.places.items b Nowhere within;
      room = omega (arith, one, s.stands.few);
    })

pub returns-in_default-owner-clause-passed : goal.returns-in_default-owner-clause-passed
returns-in_default-owner-clause-passed g c line owner h verdict agree =
    let l = c.args.self.now in
    let n = c.in-Some.number in
    let here = lock_here l line owner h c.args.lock n (sym c.get.ensures ∙ c.in-Some.is) in
    heir_is l.links l.locks n verdict (g.T.Test.verdict_of c.args.test.now) (waiting c.args.lock line) c.leave-passed.result here.1 c.leave-passed.ensures.heir agree

pub returns-in_default-owner-clause-stands : goal.returns-in_default-owner-clause-stands
returns-in_default-owner-clause-stands g c line owner h =
    let l = c.args.self.now in
    let lock = c.args.lock in
    let n = c.in-Some.number in
    let is : number_of l.numbers lock ≡ Some n = sym c.get.ensures ∙ c.in-Some.is in
    let e = c.leave-passed.ensures in
    let of = g.T.Test.verdict_of c.args.test.now in
    let es = entrants_in l.links l.locks n in
    let ws = waiters_in l.links l.locks n in
    let none : new_owner c.leave-passed.result ≡ None = sym c.owner.ensures ∙ c.in_default-owner.is in
    let new : Line = record l { links = c.leave-passed.new.links; locks = c.leave-passed.new.self } in
    subst (λ rest. Stands new rest (put is_lock owner lock (new_owner c.leave-passed.result))) (sym (left_none c.leave-passed.result line none))
    (owner_changed l line owner h lock n is c.leave-passed.new.links c.leave-passed.new.self (new_owner c.leave-passed.result) (numbers_in l.links l.locks n)
    (record { entrants = e.entrants ∙ nobody_leaves c.leave-passed.result es none; waiters = e.waiters ∙ nobody_leaves c.leave-passed.result ws none }) e.owner e.others e.belong e.queues
    (waiting_apart l line owner h lock n is) e.table.room)
