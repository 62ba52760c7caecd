use Rattle.std.proofs.Common.{◌≡◌, ◌∙◌, ◌∷◌, [], sym, ap, subst, List, reverse, length, ◌<◌}
use Rattle.std.specs.Prelude.{slice_get, Some}
use Rattle.std.proofs.lemmas.List.{reverse-append, length-set}
use Rattle.aos_base.specs.Book as book
use Rattle.aos_kernel.specs.declared.activity.Activity.{Activity}
use Rattle.aos_kernel.specs.declared.activity.Next.TheVariants.{Unwinds}
use Rattle.aos_scheduler.proofs.Standing.{on_within}
use Rattle.aos_kernel.specs.Conditions.{HasRooms}
use Rattle.aos_kernel.proofs.Rows.{get_below}
use Rattle.aos_kernel.proofs.TablesShown.{shows_same, shown_same, turn_same, here_turns, next_is_in, turns_by, turn_ended, shows_popped, shows_relocked, on_err}
use Rattle.aos_kernel.proofs.tables.KernelTables.unwind.Goals as goal

pub returns-in_err-reserve_event-clause-err : goal.returns-in_err-reserve_event-clause-err
returns-in_err-reserve_event-clause-err c = on_err c.from_residual.result (shown_same c.args.image.now c.args.self.now c.reserve_event.new.self c.reserve_event.ensures.same)

pub returns-in-Some-clause-ok : goal.returns-in-Some-clause-ok
returns-in-Some-clause-ok c earlier st h =
    let image = c.args.image.now in
    let a = c.args.activity in
    let same = c.reserve_event.ensures.same in
    let d = c.reserve_event.new.self in
    let g = shows_same image earlier c.args.self.now d st same h in
    let turn = turn_same c.args.self.now d a same c.requires.turn in
    let unwinds = subst (λ (xs : List Activity). (kept : Activity) → slice_get xs a ≡ Some kept → Unwinds ≡ kept.next) (sym same.activities) c.requires.unwinds in
    let r = here_turns image earlier d st a g turn in
    let p = c.in-Some.ensures r.0 r.1 in
    let l = c.in-Some.lock in
    let next : (st.book.activity a).next ≡ book.Unwinds (l ∷ reverse p.0.items) = next_is_in image earlier d st a g turn Unwinds unwinds ∙ ap (λ ls. book.Unwinds (reverse ls)) p.1 ∙ ap (λ ls. book.Unwinds ls) (reverse-append p.0.items (l ∷ [])) in
    turns_by image earlier d st a g turn c.release.new.self (book.Unwinds (l ∷ reverse p.0.items)) next
    (c.release.ensures earlier _ (shows_popped image earlier d st a g turn c.pop_lock.new.activities l p.0 r.0 r.1 (unwinds r.0 r.1) p.2))

pub returns-in-None-clause-ok : goal.returns-in-None-clause-ok
returns-in-None-clause-ok c earlier st h =
    let image = c.args.image.now in
    let a = c.args.activity in
    let same = c.reserve_event.ensures.same in
    let d = c.reserve_event.new.self in
    let g = shows_same image earlier c.args.self.now d st same h in
    let turn = turn_same c.args.self.now d a same c.requires.turn in
    let unwinds = subst (λ (xs : List Activity). (kept : Activity) → slice_get xs a ≡ Some kept → Unwinds ≡ kept.next) (sym same.activities) c.requires.unwinds in
    let r = here_turns image earlier d st a g turn in
    let p = c.in-None.ensures r.0 r.1 in
    let next : (st.book.activity a).next ≡ book.Unwinds [] = next_is_in image earlier d st a g turn Unwinds unwinds ∙ ap (λ ls. book.Unwinds (reverse ls)) p.1.0 in
    turns_by image earlier d st a g turn c.end.new.self (book.Unwinds []) next
    (turn_ended image earlier c.end.new.self a st (c.end.ensures image earlier st (shows_relocked image earlier d st a g turn c.pop_lock.new.activities p.0 r.0 r.1 p.2 (p.1.1 ∙ sym p.1.0))))

pub release-requires-clause-stood : goal.release-requires-clause-stood
release-requires-clause-stood c = (turn_same c.args.self.now c.reserve_event.new.self c.args.activity c.reserve_event.ensures.same c.requires.turn).on.stood

pub end-requires-clause-turn : goal.end-requires-clause-turn
end-requires-clause-turn c =
    let d = c.reserve_event.new.self in
    let a = c.args.activity in
    let turn = turn_same c.args.self.now d a c.reserve_event.ensures.same c.requires.turn in
    let r = get_below d.activities.items a (subst (λ n. a < n) turn.counted (on_within d.line a turn.on)) in
    let p = c.in-None.ensures r.0 r.1 in
    let new : Activity = record r.0 { locks = p.0 } in
    record { on = turn.on; counted = turn.counted ∙ sym (ap length p.2 ∙ length-set d.activities.items a new) }

pub release-requires-clause-stack : goal.release-requires-clause-stack
release-requires-clause-stack c = subst (λ s. HasRooms c.args.image.now s) (sym c.reserve_event.ensures.same.stack) c.requires.stack
