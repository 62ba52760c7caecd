use Rattle.std.proofs.Common.{◌≡◌, sym, ap, subst, List}
use Rattle.std.specs.Prelude.{slice_get, Some}
use Rattle.std.proofs.lemmas.Result.{on_ok_weaker}
use Rattle.aos_base.specs.Book as book
use Rattle.aos_kernel.specs.declared.activity.Activity.{Activity}
use Rattle.aos_kernel.specs.declared.activity.Next.TheVariants.{Runs, WillTrap, Unwinds, Gone}
use Rattle.aos_kernel.specs.Shows.{has_frames}
use Rattle.aos_kernel.proofs.TablesShown.{next_is_in, turns_by}
use Rattle.aos_kernel.proofs.tables.KernelTables.turn.Goals as goal

pub returns-in-Runs-clause-ok : goal.returns-in-Runs-clause-ok
returns-in-Runs-clause-ok c =
    let a = c.args.activity in
    let d = c.args.self.now in
    let told = subst (λ (xs : List Activity). (kept : Activity) → slice_get xs a ≡ Some kept → Runs ≡ kept.next) c.deref.ensures.value c.in-Runs.ensures in
    on_ok_weaker c.run.result
    (λ done earlier st h none. turns_by c.args.image.now earlier d st a h c.requires.turn c.run.new.self book.Runs (next_is_in c.args.image.now earlier d st a h c.requires.turn Runs told) (done earlier st h none))
    c.run.ensures.ok

pub returns-in-WillTrap-clause-ok : goal.returns-in-WillTrap-clause-ok
returns-in-WillTrap-clause-ok c =
    let a = c.args.activity in
    let d = c.args.self.now in
    let told = subst (λ (xs : List Activity). (kept : Activity) → slice_get xs a ≡ Some kept → WillTrap c.in-WillTrap.number ≡ kept.next) c.deref.ensures.value c.in-WillTrap.ensures in
    on_ok_weaker c.trap.result
    (λ done earlier st h none. turns_by c.args.image.now earlier d st a h c.requires.turn c.trap.new.self (book.WillTrap c.in-WillTrap.number) (next_is_in c.args.image.now earlier d st a h c.requires.turn (WillTrap c.in-WillTrap.number) told) (done earlier st h))
    c.trap.ensures.ok

pub returns-in-Unwinds-clause-ok : goal.returns-in-Unwinds-clause-ok
returns-in-Unwinds-clause-ok c = on_ok_weaker c.unwind.result (λ done earlier st h none. done earlier st h) c.unwind.ensures.ok

pub returns-in-Gone-clause-ok : goal.returns-in-Gone-clause-ok
returns-in-Gone-clause-ok c earlier st h none =
    let a = c.args.activity in
    let d = c.args.self.now in
    let told = subst (λ (xs : List Activity). (kept : Activity) → slice_get xs a ≡ Some kept → Gone ≡ kept.next) c.deref.ensures.value c.in-Gone.ensures in
    turns_by c.args.image.now earlier d st a h c.requires.turn d book.Gone (next_is_in c.args.image.now earlier d st a h c.requires.turn Gone told) h

pub run-requires-clause-runs : goal.run-requires-clause-runs
run-requires-clause-runs c = subst (λ (xs : List Activity). (kept : Activity) → slice_get xs c.args.activity ≡ Some kept → Runs ≡ kept.next) c.deref.ensures.value c.in-Runs.ensures

pub trap-requires-clause-live : goal.trap-requires-clause-live
trap-requires-clause-live c kept at =
    let told = subst (λ (xs : List Activity). (k : Activity) → slice_get xs c.args.activity ≡ Some k → WillTrap c.in-WillTrap.number ≡ k.next) c.deref.ensures.value c.in-WillTrap.ensures in
    ap has_frames (sym (told kept at))

pub unwind-requires-clause-unwinds : goal.unwind-requires-clause-unwinds
unwind-requires-clause-unwinds c = subst (λ (xs : List Activity). (kept : Activity) → slice_get xs c.args.activity ≡ Some kept → Unwinds ≡ kept.next) c.deref.ensures.value c.in-Unwinds.ensures
