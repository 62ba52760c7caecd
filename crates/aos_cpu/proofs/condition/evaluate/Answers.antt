use Rattle.std.proofs.Common.{◌≡◌, ◌-◌, suc, refl, sym, ap, ◌∙◌, arith}
use Rattle.aos_store.specs.Store.{list_in, memory_in}
use Rattle.aos_cpu.specs.Verdicts.{verdict_here, or_later}
use Rattle.aos_cpu.proofs.Verdicts.{has_moved_none, moved_twice, none_left}
use Rattle.aos_cpu.proofs.condition.evaluate.Goals as goal

pub loop-left-init : goal.loop-left-init
loop-left-init c =
    record { verdict = refl; moved = λ f top. has_moved_none c.args.frames.now.list.items f top; room = c.requires.room; top = c.requires.top; following = refl; begun = refl; turns = refl }

pub returns-in-Some-clause-verdict : goal.returns-in-Some-clause-verdict
returns-in-Some-clause-verdict c =
    let l = c.loop-left in
    let later = verdict_here c.args.image.now (memory_in c.args.store.now) c.args.code.now l.left (list_in c.step.new.frames.list.items) in
    sym (l.invariant.verdict ∙ c.step.ensures.verdict l.left ∙ ap (λ o. or_later o later) c.in-Some.is)

pub returns-in-Some-clause-moved : goal.returns-in-Some-clause-moved
returns-in-Some-clause-moved c f top =
    moved_twice c.args.frames.now.list.items c.loop-left.frames.list.items c.step.new.frames.list.items f top (c.loop-left.invariant.moved f top) c.step.ensures.moved

pub loop-left-preserved : goal.loop-left-preserved
loop-left-preserved c =
    let l = c.loop-left in
    let image = c.args.image.now in
    let mem = memory_in c.args.store.now in
    let code = c.args.code.now in
    let new = c.step.new.frames in
    let less : l.left ≡ suc (l.left - 1) = omega arith in
    record {
      verdict = l.invariant.verdict ∙ c.step.ensures.verdict l.left ∙ ap (λ o. or_later o (verdict_here image mem code l.left (list_in new.list.items))) c.in-None.is
          ∙ ap (λ n. verdict_here image mem code n (list_in new.list.items)) less;
      moved = λ f top. moved_twice c.args.frames.now.list.items l.frames.list.items new.list.items f top (l.invariant.moved f top) c.step.ensures.moved;
      room = c.step.ensures.room c.in-None.is;
      top = c.step.ensures.top;
      following = c.step.ensures.following ∙ l.invariant.following;
      begun = c.step.ensures.counts.0 ∙ l.invariant.begun;
      turns = c.step.ensures.counts.1 ∙ l.invariant.turns;
    }

pub returns-in-Some-step-clause-verdict : goal.returns-in-Some-step-clause-verdict
returns-in-Some-step-clause-verdict c =
    let l = c.loop-left in
    let later = verdict_here c.args.image.now (memory_in c.args.store.now) c.args.code.now 0 (list_in c.step-2.new.frames.list.items) in
    let last : l.left ≡ 0 = omega arith in
    sym (l.invariant.verdict ∙ ap (λ n. verdict_here c.args.image.now (memory_in c.args.store.now) c.args.code.now (suc n) (list_in l.frames.list.items)) last ∙ c.step-2.ensures.verdict 0 ∙ ap (λ o. or_later o later) c.in-Some-step.is)

pub returns-in-None-step-clause-verdict : goal.returns-in-None-step-clause-verdict
returns-in-None-step-clause-verdict c =
    let l = c.loop-left in
    let later = verdict_here c.args.image.now (memory_in c.args.store.now) c.args.code.now 0 (list_in c.step-2.new.frames.list.items) in
    let last : l.left ≡ 0 = omega arith in
    sym (l.invariant.verdict ∙ ap (λ n. verdict_here c.args.image.now (memory_in c.args.store.now) c.args.code.now (suc n) (list_in l.frames.list.items)) last ∙ c.step-2.ensures.verdict 0 ∙ ap (λ o. or_later o later) c.in-None-step.is
    ∙ none_left c.args.image.now (memory_in c.args.store.now) c.args.code.now (list_in c.step-2.new.frames.list.items))

pub returns-in-Some-step-clause-moved : goal.returns-in-Some-step-clause-moved
returns-in-Some-step-clause-moved c f top =
    moved_twice c.args.frames.now.list.items c.loop-left.frames.list.items c.step-2.new.frames.list.items f top (c.loop-left.invariant.moved f top) c.step-2.ensures.moved

pub returns-in-None-step-clause-moved : goal.returns-in-None-step-clause-moved
returns-in-None-step-clause-moved c f top =
    moved_twice c.args.frames.now.list.items c.loop-left.frames.list.items c.step-2.new.frames.list.items f top (c.loop-left.invariant.moved f top) c.step-2.ensures.moved
