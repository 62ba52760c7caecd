use Rattle.std.proofs.Common.{subst, refl}
use Rattle.std.proofs.lemmas.Result.{on_ok_weaker, on_err_weaker}
use Rattle.aos_base.specs.declared.kernel.Did.TheVariants.{Enter}
use Rattle.aos_lock.specs.declared.lock.Entered.{Entered}
use Rattle.aos_scheduler.specs.Stands.{HasEntered}
use Rattle.aos_kernel.proofs.Rows.{runs_live}
use Rattle.aos_kernel.proofs.TablesShown.{shows_line, shows_same, shown_same, turn_same, turns_no_wait, before_same, on_err}
use Rattle.aos_kernel.proofs.Handing.{shows_taken, taken_no_wait, shows_waits, owner_enters, other_enters, first_enters}
use Rattle.aos_kernel.proofs.tables.KernelTables.enter.Goals as goal

pub returns-in_err-reserve_event-clause-err : goal.returns-in_err-reserve_event-clause-err
returns-in_err-reserve_event-clause-err c = on_err c.from_residual.result (shown_same c.args.image.now c.args.self.now c.reserve_event.new.self c.reserve_event.ensures.same)

pub enter-requires : goal.enter-requires
enter-requires c = (turn_same c.args.self.now c.reserve_event.new.self c.args.activity c.reserve_event.ensures.same c.requires.turn).on

pub returns-in_err-enter-clause-err : goal.returns-in_err-enter-clause-err
returns-in_err-enter-clause-err c =
    on_err c.from_residual-in_err-enter.result (λ earlier st h.
    let image = c.args.image.now in
    let d = c.reserve_event.new.self in
    let g = shows_same image earlier c.args.self.now d st c.reserve_event.ensures.same h in
    shows_line image earlier d st g c.enter.new.self d.events st.book.line st.book.owner st.book.events (c.in_err-enter.ensures.err st.book.line st.book.owner g.stands) c.enter.ensures.started g.events g.waiting)

pub trap-requires-clause-live : goal.trap-requires-clause-live
trap-requires-clause-live c kept at = runs_live kept.next (before_same c.args.image.now c.args.self.now c.reserve_event.new.self c.args.activity (Enter c.args.lock) c.reserve_event.ensures.same c.requires.before kept at).0

pub returns-in-Recursive-clause-ok : goal.returns-in-Recursive-clause-ok
returns-in-Recursive-clause-ok c =
    on_ok_weaker c.trap.result
    (λ done earlier st h work.
    let image = c.args.image.now in
    let a = c.args.activity in
    let l = c.args.lock in
    let same = c.reserve_event.ensures.same in
    let d = c.reserve_event.new.self in
    let g = shows_same image earlier c.args.self.now d st same h in
    let e = subst (λ (x : Entered). HasEntered c.enter.new.self x a l st.book.line st.book.owner) c.in-Recursive.is (c.in_ok-enter.ensures.entered st.book.line st.book.owner g.stands) in
    owner_enters image earlier c.trap.new.self st a l e.0 (done earlier st (shows_line image earlier d st g c.enter.new.self d.events st.book.line st.book.owner st.book.events e.1 c.enter.ensures.started g.events g.waiting)))
    c.trap.ensures.ok

pub returns-in-Recursive-clause-err : goal.returns-in-Recursive-clause-err
returns-in-Recursive-clause-err c =
    on_err_weaker c.trap.result
    (λ still earlier st h.
    let image = c.args.image.now in
    let a = c.args.activity in
    let l = c.args.lock in
    let same = c.reserve_event.ensures.same in
    let d = c.reserve_event.new.self in
    let g = shows_same image earlier c.args.self.now d st same h in
    let e = subst (λ (x : Entered). HasEntered c.enter.new.self x a l st.book.line st.book.owner) c.in-Recursive.is (c.in_ok-enter.ensures.entered st.book.line st.book.owner g.stands) in
    still earlier st (shows_line image earlier d st g c.enter.new.self d.events st.book.line st.book.owner st.book.events e.1 c.enter.ensures.started g.events g.waiting))
    c.trap.ensures.err

pub returns-in-Taken-clause-ok : goal.returns-in-Taken-clause-ok
returns-in-Taken-clause-ok c earlier st h work =
    let image = c.args.image.now in
    let a = c.args.activity in
    let l = c.args.lock in
    let same = c.reserve_event.ensures.same in
    let d = c.reserve_event.new.self in
    let g = shows_same image earlier c.args.self.now d st same h in
    let e = subst (λ (x : Entered). HasEntered c.enter.new.self x a l st.book.line st.book.owner) c.in-Taken.is (c.in_ok-enter.ensures.entered st.book.line st.book.owner g.stands) in
    let taken = shows_taken image earlier d st a l g c.enter.new.self c.push_reserved.new.self e.1 c.enter.ensures.started c.push_reserved.ensures.items in
    first_enters image earlier c.go_past.new.self st a l e.0
    (c.go_past.ensures.past image earlier _ taken refl (taken_no_wait image earlier d st a l g (turns_no_wait image earlier d st a g (turn_same c.args.self.now d a same c.requires.turn))) (before_same image c.args.self.now d a (Enter l) same c.requires.before) work)

pub returns-in-Waits-clause-ok : goal.returns-in-Waits-clause-ok
returns-in-Waits-clause-ok c earlier st h work =
    let image = c.args.image.now in
    let a = c.args.activity in
    let l = c.args.lock in
    let same = c.reserve_event.ensures.same in
    let d = c.reserve_event.new.self in
    let g = shows_same image earlier c.args.self.now d st same h in
    let e = subst (λ (x : Entered). HasEntered c.enter.new.self x a l st.book.line st.book.owner) c.in-Waits.is (c.in_ok-enter.ensures.entered st.book.line st.book.owner g.stands) in
    other_enters image earlier _ st a e.0 l e.1 e.2
    (shows_waits image earlier d st a l g c.enter.new.self c.push_reserved-in-Waits.new.self e.3 c.enter.ensures.started c.push_reserved-in-Waits.ensures.items (before_same image c.args.self.now d a (Enter l) same c.requires.before) work)
