use Rattle.std.proofs.Common.{◌≡◌, ◌+◌, sym, ap, ◌∙◌, map, length, slice_get, arith}
use Rattle.aos_base.specs.Observation.{waits_below}
use Rattle.aos_code.specs.Machine.{machine, made_in}
use Rattle.aos_store.specs.Store.{memory_in}
use Rattle.aos_kernel.specs.Run.{wait_of}
use Rattle.aos_kernel.proofs.Rows.{get_below, frames_alike, runs_live}
use Rattle.aos_kernel.proofs.Waiting.{rows_more}
use Rattle.aos_kernel.proofs.tables.KernelTables.waits.Goals as goal

pub loop-activity-init : goal.loop-activity-init
loop-activity-init c earlier st h = c.new-waits.ensures.items

pub loop-activity-preserved : goal.loop-activity-preserved
loop-activity-preserved c earlier st h =
    let image = c.args.image.now in
    let d = c.args.self.now in
    let a = c.loop-activity.activity in
    let kept = get_below d.activities.items a (omega (arith, c.loop-activity-test.true)) in
    let row = c.in_ok-add_wait.ensures (made_in image (memory_in d.store)) st.book.line st.book.owner kept.0 (st.frames a) h.stands (ap (λ xs. slice_get xs a) c.deref.ensures.value ∙ kept.1)
    (λ l wants at. frames_alike image (made_in image (memory_in d.store)) kept.0.next (st.frames a) kept.0.frames (runs_live kept.0.next (h.waiting a l wants at kept.0 kept.1).runs) (h.activities a kept.0 kept.1).frames) in
    rows_more image a (a + 1) st.book.line st.frames c.loop-activity.waits.items c.add_wait.new.waits.items (omega arith) (c.loop-activity.invariant earlier st h) row

pub returns : goal.returns
returns c earlier st h =
    let image = c.args.image.now in
    let items = c.args.self.now.activities.items in
    let all : c.loop-activity.activity ≡ length items = omega (arith, c.loop-activity-test.false) in
    c.loop-activity.invariant earlier st h ∙ ap (λ n. map wait_of (waits_below (machine image) n st.book.line st.frames)) (all ∙ sym h.started)
