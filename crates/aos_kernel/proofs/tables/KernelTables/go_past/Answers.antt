use Rattle.std.proofs.Common.{refl, sym, subst}
use Rattle.std.specs.Vec.{with_item}
use Rattle.std.proofs.lemmas.Option.{slice_get_read, slice_get_past}
use Rattle.aos_code.specs.Machine.{made_in}
use Rattle.aos_store.specs.Store.{memory_in}
use Rattle.aos_kernel.specs.declared.activity.Activity.{Activity}
use Rattle.aos_kernel.specs.Shows.{ShowsFrames}
use Rattle.aos_kernel.proofs.TablesShown.{shows_past, shows_past_none}
use Rattle.aos_kernel.proofs.tables.KernelTables.go_past.Goals as goal

pub returns-in-Some-clause-past : goal.returns-in-Some-clause-past
returns-in-Some-clause-past c image earlier st h passed out before stands =
    let d = c.args.self.now in
    let a = c.args.activity in
    let kept = c.in-Some.kept.now in
    let new : Activity = record kept { frames = c.pass.new.frames } in
    let was = slice_get_read d.activities.items _ a kept refl c.in-Some.ensures.item.3.0 c.in-Some.ensures.item.1 in
    let b = before kept was in
    let made = made_in image (memory_in d.store) in
    let alike = subst (λ n. ShowsFrames image made n (st.frames a) kept.frames) (sym b.0) (h.activities a kept was).frames in
    shows_past image earlier d st a (with_item d.activities a new) kept c.pass.new.frames h out was b.0 refl c.pass.ensures.counts.0 (c.pass.ensures.past image made (st.frames a) passed b.1 stands alike) (c.pass.ensures.fit image passed b.1)

pub returns-in_default-clause-past : goal.returns-in_default-clause-past
returns-in_default-clause-past c image earlier st h passed out before stands =
    shows_past_none image earlier c.args.self.now st c.args.activity h (slice_get_past c.args.self.now.activities.items c.args.activity c.in_default.ensures.item.3)
