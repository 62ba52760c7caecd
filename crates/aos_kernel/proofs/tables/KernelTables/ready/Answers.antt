use Rattle.std.proofs.Common.{◌≡◌, ap, ◌∙◌, sym, subst, List}
use Rattle.std.specs.Prelude.{slice_get, Some}
use Rattle.aos_ready.specs.Order.{number_of}
use Rattle.aos_kernel.specs.declared.activity.Activity.{Activity}
use Rattle.aos_kernel.proofs.TablesShown.{shows_ready, here_turns}
use Rattle.aos_kernel.proofs.tables.KernelTables.ready.Goals as goal

pub returns : goal.returns
returns c image earlier st h =
    let d = c.args.self.now in
    let a = c.args.activity in
    let r = here_turns image earlier d st a h c.requires in
    let told = subst (λ (xs : List Activity). (kept : Activity) → slice_get xs a ≡ Some kept → c.priority_of-priority.result ≡ kept.priority) c.deref.ensures.value c.priority_of-priority.ensures in
    shows_ready image earlier d st h a (number_of c.priority_of-priority.result) c.yield_to.new.self (c.yield_to.ensures.stands st.book.line st.book.owner h.stands)
    (ap number_of (told r.0 r.1) ∙ sym (h.activities a r.0 r.1).priority) c.yield_to.ensures.started
