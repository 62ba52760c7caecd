use Rattle.std.proofs.Common.{rules, ◌≡◌, refl, sym, ap, ◌∙◌, subst, w64}
use mir.Val.{to_z, of_z}
use Rattle.aos_base.specs.declared.kernel.Verdict.TheVariants.{Fails, Traps}
use Rattle.aos_code.specs.Machine.{made_in, decided}
use Rattle.aos_store.specs.Store.{memory_in}
use Rattle.aos_silent_steps.specs.declared.silent.Stop.{Stop}
use Rattle.aos_silent_steps.specs.declared.silent.Stop.TheVariants.{Begins as AtBegin, Fails as AtFault, Decides as AtVerdict}
use Rattle.aos_cpu.specs.Verdicts.{HasStopped}
use Rattle.aos_cpu.proofs.Verdicts.{ends_so, moved_so, top_so, asks_at, asks_room, asked_verdict, asked_moved, asked_room, asked_top}
use Rattle.aos_cpu.proofs.condition.step.Goals as goal

pub judge-requires-clause-place : goal.judge-requires-clause-place
judge-requires-clause-place c = (asks_at c.args.image.now (memory_in c.args.store.now) c.args.code.now c.come_to.result c.args.frames.now.list.items c.come_to.new.frames.list.items c.requires.top c.come_to.ensures.stopped c.in-Work.question c.in-Work.at c.in-Work.is).1

pub judge-requires-clause-room : goal.judge-requires-clause-room
judge-requires-clause-room c = asks_room c.args.image.now (memory_in c.args.store.now) c.args.code.now c.come_to.result c.args.frames.now.list.items c.come_to.new.frames.list.items c.requires.top c.come_to.ensures.stopped c.in-Work.question c.in-Work.at c.in-Work.is

pub returns-in-Work-clause-verdict : goal.returns-in-Work-clause-verdict
returns-in-Work-clause-verdict c = asked_verdict c.args.image.now (memory_in c.args.store.now) c.args.code.now c.come_to.result c.args.frames.now.list.items c.come_to.new.frames.list.items c.requires.top c.come_to.ensures.stopped c.in-Work.question c.in-Work.at c.in-Work.is c.judge.new.frames.list.items c.judge.result c.judge.ensures.judged

pub returns-in-Work-clause-moved : goal.returns-in-Work-clause-moved
returns-in-Work-clause-moved c = asked_moved c.args.image.now (memory_in c.args.store.now) c.args.code.now c.come_to.result c.args.frames.now.list.items c.come_to.new.frames.list.items c.requires.top c.come_to.ensures.stopped c.in-Work.question c.in-Work.at c.in-Work.is c.judge.new.frames.list.items c.judge.result c.judge.ensures.judged

pub returns-in-Work-clause-room : goal.returns-in-Work-clause-room
returns-in-Work-clause-room c = asked_room c.args.image.now (memory_in c.args.store.now) c.args.code.now c.come_to.result c.args.frames.now.list.items c.come_to.new.frames.list.items c.requires.top c.come_to.ensures.stopped c.in-Work.question c.in-Work.at c.in-Work.is c.judge.new.frames.list.items c.judge.result c.judge.ensures.judged

pub returns-in-Work-clause-top : goal.returns-in-Work-clause-top
returns-in-Work-clause-top c = asked_top c.args.image.now (memory_in c.args.store.now) c.args.code.now c.come_to.result c.args.frames.now.list.items c.come_to.new.frames.list.items c.requires.top c.come_to.ensures.stopped c.in-Work.question c.in-Work.at c.in-Work.is c.judge.new.frames.list.items c.judge.result c.judge.ensures.judged

pub returns-in-Begins-clause-verdict : goal.returns-in-Begins-clause-verdict
returns-in-Begins-clause-verdict c n =
    let image = c.args.image.now in
    let mem = memory_in c.args.store.now in
    let old = c.args.frames.now.list.items in
    let new = c.come_to.new.frames.list.items in
    ends_so image mem c.args.code.now (AtBegin c.in-Begins.field-0 c.in-Begins.field-1) old new c.requires.top
    (λ f top. subst (λ (s : Stop). HasStopped image (made_in image mem) c.args.code.now f s old new) c.in-Begins.is (c.come_to.ensures.stopped f top)) (Fails) (λ x next g. refl) n

pub returns-in-Begins-clause-moved : goal.returns-in-Begins-clause-moved
returns-in-Begins-clause-moved c =
    moved_so c.args.image.now (memory_in c.args.store.now) c.args.code.now c.come_to.result c.args.frames.now.list.items c.come_to.new.frames.list.items c.requires.top c.come_to.ensures.stopped

pub returns-in-Begins-clause-top : goal.returns-in-Begins-clause-top
returns-in-Begins-clause-top c =
    top_so c.args.image.now (memory_in c.args.store.now) c.args.code.now c.come_to.result c.args.frames.now.list.items c.come_to.new.frames.list.items c.requires.top c.come_to.ensures.stopped

pub returns-in-Fails-clause-verdict : goal.returns-in-Fails-clause-verdict
returns-in-Fails-clause-verdict c n =
    let image = c.args.image.now in
    let mem = memory_in c.args.store.now in
    let old = c.args.frames.now.list.items in
    let new = c.come_to.new.frames.list.items in
    ends_so image mem c.args.code.now (AtFault c.in-Fails.number c.in-Fails.field-1) old new c.requires.top
    (λ f top. subst (λ (s : Stop). HasStopped image (made_in image mem) c.args.code.now f s old new) c.in-Fails.is (c.come_to.ensures.stopped f top)) (Traps c.in-Fails.number) (λ x next g. refl) n

pub returns-in-Fails-clause-moved : goal.returns-in-Fails-clause-moved
returns-in-Fails-clause-moved c =
    moved_so c.args.image.now (memory_in c.args.store.now) c.args.code.now c.come_to.result c.args.frames.now.list.items c.come_to.new.frames.list.items c.requires.top c.come_to.ensures.stopped

pub returns-in-Fails-clause-top : goal.returns-in-Fails-clause-top
returns-in-Fails-clause-top c =
    top_so c.args.image.now (memory_in c.args.store.now) c.args.code.now c.come_to.result c.args.frames.now.list.items c.come_to.new.frames.list.items c.requires.top c.come_to.ensures.stopped

pub returns-in-Decides-clause-verdict : goal.returns-in-Decides-clause-verdict
returns-in-Decides-clause-verdict c n =
    let image = c.args.image.now in
    let same : to_z w64 (of_z w64 c.in-Decides.value) ≡ c.in-Decides.value = search rules in
    let mem = memory_in c.args.store.now in
    let old = c.args.frames.now.list.items in
    let new = c.come_to.new.frames.list.items in
    ends_so image mem c.args.code.now (AtVerdict c.in-Decides.value) old new c.requires.top
    (λ f top. subst (λ (s : Stop). HasStopped image (made_in image mem) c.args.code.now f s old new) c.in-Decides.is (c.come_to.ensures.stopped f top)) (decided c.in-Decides.value) (λ x next g. refl) n
    ∙ sym (c.decided.ensures ∙ ap decided same)

pub returns-in-Decides-clause-moved : goal.returns-in-Decides-clause-moved
returns-in-Decides-clause-moved c =
    moved_so c.args.image.now (memory_in c.args.store.now) c.args.code.now c.come_to.result c.args.frames.now.list.items c.come_to.new.frames.list.items c.requires.top c.come_to.ensures.stopped

pub returns-in-Decides-clause-top : goal.returns-in-Decides-clause-top
returns-in-Decides-clause-top c =
    top_so c.args.image.now (memory_in c.args.store.now) c.args.code.now c.come_to.result c.args.frames.now.list.items c.come_to.new.frames.list.items c.requires.top c.come_to.ensures.stopped
