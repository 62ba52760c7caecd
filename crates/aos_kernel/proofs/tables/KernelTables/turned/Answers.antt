use Rattle.std.proofs.Common.{◌≡◌, ◌<◌, ◌^◌, refl, sym, ◌∙◌, subst, arith}
use Rattle.std.specs.Prelude.{nat_lt}
use Rattle.std.specs.Vec.{with_item}
use Rattle.std.proofs.lemmas.Option.{slice_get_read}
use Rattle.std.proofs.lemmas.List.{length-set}
use Rattle.aos_base.specs.Book.{spent_by}
use Rattle.aos_code.specs.Memory.{Memory}
use Rattle.aos_code.specs.Machine.{made_in, turn}
use Rattle.aos_store.specs.Store.{memory_in}
use Rattle.aos_cpu.specs.Turns.{Shown}
use Rattle.aos_kernel.specs.declared.activity.Activity.{Activity}
use Rattle.aos_kernel.specs.Shows.{ShowsFrames}
use Rattle.aos_kernel.proofs.Rows.{spent_same}
use Rattle.aos_kernel.proofs.TablesShown.{shows_turned, shows_silent, if_left, on_err}
use Rattle.aos_kernel.proofs.tables.KernelTables.turned.Goals as goal

pub returns-in_err-left-clause-err : goal.returns-in_err-left-clause-err
returns-in_err-left-clause-err c =
    let d = c.args.self.now in
    let a = c.args.activity in
    let kept = c.in-Some.kept.now in
    let new : Activity = record kept { frames = c.shared.new.frames } in
    let was = slice_get_read d.activities.items _ a kept refl c.in-Some.ensures.item.3.0 c.in-Some.ensures.item.1 in
    on_err c.from_residual.result (λ earlier st h. shows_silent c.args.image.now earlier d st c.shared.new.store (with_item d.activities a new) c.shared.new.output d.spent a kept c.shared.new.frames c.requires.turn was (c.requires.runs kept was) refl c.in_err-left.ensures.err c.shared.ensures.fit refl h)

pub returns-in-Some-clause-left : goal.returns-in-Some-clause-left
returns-in-Some-clause-left c =
    let d = c.args.self.now in
    let a = c.args.activity in
    let kept = c.in-Some.kept.now in
    let new : Activity = record kept { frames = c.shared.new.frames } in
    let was = slice_get_read d.activities.items _ a kept refl c.in-Some.ensures.item.3.0 c.in-Some.ensures.item.1 in
    let spends : spent_by (nat_lt c.begun-before.result c.begun-begun.result) d.budget c.begun-begun.result a d.spent ≡ spent_by (nat_lt kept.frames.begun c.shared.new.frames.begun) d.budget c.shared.new.frames.begun a d.spent =
    (λ i. spent_by (nat_lt (c.begun-before.ensures i) (c.begun-begun.ensures i)) d.budget (c.begun-begun.ensures i) a d.spent) in
    if_left c.in_ok-left.left
    (λ rests earlier st h. shows_silent c.args.image.now earlier d st c.shared.new.store (with_item d.activities a new) c.shared.new.output c.spent_after-self.result a kept c.shared.new.frames c.requires.turn was (c.requires.runs kept was) refl rests c.shared.ensures.fit (c.spent_after-self.ensures ∙ spends ∙ spent_same kept.frames.begun c.shared.new.frames.begun d.budget a d.spent rests.begun) h)
    c.in_ok-left.ensures.left

pub returns-in-Some-clause-turn : goal.returns-in-Some-clause-turn
returns-in-Some-clause-turn c =
    let d = c.args.self.now in
    let kept = c.in-Some.kept.now in
    let new : Activity = record kept { frames = c.shared.new.frames } in
    record { on = c.requires.turn.on; counted = c.requires.turn.counted ∙ sym (length-set d.activities.items c.args.activity new) }

pub returns-in-Some-clause-ok : goal.returns-in-Some-clause-ok
returns-in-Some-clause-ok c earlier st h none =
    let d = c.args.self.now in
    let a = c.args.activity in
    let image = c.args.image.now in
    let kept = c.in-Some.kept.now in
    let new : Activity = record kept { frames = c.shared.new.frames } in
    let was = slice_get_read d.activities.items _ a kept refl c.in-Some.ensures.item.3.0 c.in-Some.ensures.item.1 in
    let runs = c.requires.runs kept was in
    let told = c.in_ok-left.ensures.ok (st.frames a) (subst (λ n. ShowsFrames image (made_in image (memory_in d.store)) n (st.frames a) kept.frames) (sym runs) (h.activities a kept was).frames) in
    let left = c.in_ok-left.left in
    let shown = subst (λ (m : Memory). Shown image (turn image m (st.frames a)) left kept.frames c.shared.new.frames (memory_in c.shared.new.store) d.output.items c.shared.new.output.items) (sym h.store) told in
    let spends : spent_by (nat_lt c.begun-before.result c.begun-begun.result) d.budget c.begun-begun.result a d.spent ≡ spent_by (nat_lt kept.frames.begun c.shared.new.frames.begun) d.budget c.shared.new.frames.begun a d.spent =
    (λ i. spent_by (nat_lt (c.begun-before.ensures i) (c.begun-begun.ensures i)) d.budget (c.begun-begun.ensures i) a d.spent) in
    let small : d.budget < 2 ^ 64 = omega arith in (
      sym shown.left,
      shows_turned image earlier d st a h c.requires.turn c.shared.new.store (with_item d.activities a new) c.shared.new.output c.spent_after-self.result c.shared.new.frames kept left was runs refl shown c.shared.ensures.fit (c.spent_after-self.ensures ∙ spends) none small,
    )
