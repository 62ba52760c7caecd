use Rattle.std.proofs.Common.{◌≡◌, ◌∙◌, ℕ, sym, ap, subst, List}
use Rattle.std.specs.Prelude.{slice_get, Some, None, Option}
use Rattle.aos_base.specs.Lock.{is_lock}
use Rattle.aos_base.specs.Book.{put, leave_line}
use Rattle.aos_lock.specs.Heirs.{new_owner}
use Rattle.aos_ready.specs.Order.{number_of}
use Rattle.aos_scheduler.specs.Stands.{Stands}
use Rattle.aos_scheduler.proofs.Passing.{left_some}
use Rattle.aos_kernel.specs.declared.activity.Activity.{Activity}
use Rattle.aos_kernel.specs.declared.tables.KernelTables.{KernelTables}
use Rattle.aos_kernel.proofs.TablesShown.{shows_known}
use Rattle.aos_kernel.proofs.Handing.{of, told_so, shows_freed, shows_handed}
use Rattle.aos_kernel.proofs.tables.KernelTables.hand_over.Goals as goal

pub returns-in_default-clause-heir : goal.returns-in_default-clause-heir
returns-in_default-clause-heir c earlier st h =
    let image = c.args.image.now in
    let d = c.args.self.now in
    let a = c.args.activity in
    let l = c.args.lock in
    let r = c.pass_on-passed in
    let none : new_owner r.result ≡ None = sym c.owner.ensures ∙ c.in_default.is in
    let mid : KernelTables = record d { activities = r.new.activities; stack = r.new.stack } in
    let g = shows_known image earlier d st r.new.activities r.new.stack r.ensures.known r.ensures.room h in
    shows_freed image earlier mid st a l g r.new.line c.push_reserved.new.self r.result (r.ensures.passed st.book.line st.book.owner h.stands (of image earlier d st a l h) (told_so image earlier d st a l h)) none
    (r.ensures.stands st.book.line st.book.owner h.stands) r.ensures.started c.push_reserved.ensures.items

pub wake-requires : goal.wake-requires
wake-requires c = c.pass_on-passed.ensures.nowhere c.in-Some.heir (sym c.owner.ensures ∙ c.in-Some.is)

pub returns-clause-heir : goal.returns-clause-heir
returns-clause-heir c earlier st h =
    let image = c.args.image.now in
    let d = c.args.self.now in
    let a = c.args.activity in
    let l = c.args.lock in
    let r = c.pass_on-passed in
    let b = c.in-Some.heir in
    let owned : new_owner r.result ≡ Some b = sym c.owner.ensures ∙ c.in-Some.is in
    let mid : KernelTables = record d { activities = r.new.activities; stack = r.new.stack } in
    let g = shows_known image earlier d st r.new.activities r.new.stack r.ensures.known r.ensures.room h in
    let left = subst (λ (x : Option ℕ). Stands r.new.line (leave_line b st.book.line) (put is_lock st.book.owner l x)) owned
    (subst (λ rest. Stands r.new.line rest (put is_lock st.book.owner l (new_owner r.result))) (left_some r.result b st.book.line owned) (r.ensures.stands st.book.line st.book.owner h.stands)) in
    let told = subst (λ (xs : List Activity). (kept : Activity) → slice_get xs b ≡ Some kept → c.priority_of-priority.result ≡ kept.priority) c.deref.ensures.value c.priority_of-priority.ensures in
    shows_handed image earlier mid st a l g c.wake.new.self c.push_reserved-2.new.self b (number_of c.priority_of-priority.result) c.is_waiter.result
    (c.wake.ensures.stands (leave_line b st.book.line) (put is_lock st.book.owner l (Some b)) left) (c.wake.ensures.started ∙ r.ensures.started) (λ kept at. ap number_of (told kept at)) c.push_reserved-2.ensures.items
    r.result (r.ensures.passed st.book.line st.book.owner h.stands (of image earlier d st a l h) (told_so image earlier d st a l h)) owned c.is_waiter.ensures
