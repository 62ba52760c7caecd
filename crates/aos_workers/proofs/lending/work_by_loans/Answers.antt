use Rattle.std.proofs.Common.{◌+◌, ◌≤◌, arith, refl, sym, ap, ◌∙◌, subst}
use Rattle.std.specs.Prelude.{IfOk}
use Rattle.std.specs.declared.boxed.Box.{Box}
use Rattle.std.specs.declared.alloc.Global.{Global}
use Rattle.aos_kernel.specs.Run.{Run}
use Rattle.aos_workers.specs.Round.{outcome_of}
use Rattle.aos_workers.specs.Holding.{IsWorking, IsHeld, HasAnswered}
use Rattle.aos_workers.proofs.Held.{held_ticked, held_told}
use Rattle.aos_workers.proofs.Several.{positive, held_many, held_still, told_still}
use Rattle.aos_workers.proofs.lending.work_by_loans.Goals as goal

pub loop-steps-preserved : goal.loop-steps-preserved
loop-steps-preserved g c =
    let e = c.in-Ok.ensures in
    let b = c.by_loan-back in
    let most = b.ensures.most in
    let works = subst (IsWorking c.args.w b.result.1 (c.loop-steps.steps + 1) c.args.pass.now.view b.new.pass.view) (sym c.deref_mut.ensures.value)
    (b.ensures.working c.args.pass.now.view c.loop-steps.invariant.1) in
    let any = positive c.in-Ok.many c.if-many-eq0.false in
    let few : c.loop-steps.steps + 1 ≤ b.result.1 + c.in-Ok.many = (let a = most.0 in omega (arith, a, any)) in
    let left : b.result.1 + c.in-Ok.many ≤ 256 = (let a = c.most_steps-most.ensures.most in let n = e.most in omega (arith, a, n)) in
    (b.ensures.pass ∙ c.loop-steps.invariant.0, held_many _ _ _ _ _ _ _ _ any few e.goes works, left)

pub returns-then-many-eq0-clause-held : goal.returns-then-many-eq0-clause-held
returns-then-many-eq0-clause-held g c =
    let b = c.by_loan-back in
    let works = subst (IsWorking c.args.w b.result.1 (c.loop-steps.steps + 1) c.args.pass.now.view b.new.pass.view) (sym c.deref_mut.ensures.value)
    (b.ensures.working c.args.pass.now.view c.loop-steps.invariant.1) in
    let few : c.loop-steps.steps + 1 ≤ 256 = (let a = c.loop-steps-test.true in omega (arith, a)) in
    subst (IsHeld c.args.w 256 c.args.pass.now.view b.new.pass.view) (sym (ap (λ (k : Box Run Global). k.value) c.told.ensures.kernel))
    (held_still _ _ _ _ _ _ _ _ c.if-many-eq0.true few c.in-Ok.ensures.goes works)

pub returns-then-many-eq0-clause-answer : goal.returns-then-many-eq0-clause-answer
returns-then-many-eq0-clause-answer g c =
    let b = c.by_loan-back in
    let new = c.some_steps.new.kernel in
    let works = subst (IsWorking c.args.w b.result.1 (c.loop-steps.steps + 1) c.args.pass.now.view b.new.pass.view) (sym c.deref_mut.ensures.value)
    (b.ensures.working c.args.pass.now.view c.loop-steps.invariant.1) in
    subst (λ r. IfOk r (λ o. HasAnswered c.args.w c.args.pass.now.view c.told.result.0.value o)) (sym c.told.ensures.answer)
    (subst (λ (r : Run). HasAnswered c.args.w c.args.pass.now.view r (outcome_of new)) (sym (ap (λ (k : Box Run Global). k.value) c.told.ensures.kernel))
    (told_still _ _ _ _ _ _ _ _ c.if-many-eq0.true c.in-Ok.ensures.goes works))

pub returns-in-Ok-tick-clause-held : goal.returns-in-Ok-tick-clause-held
returns-in-Ok-tick-clause-held g c =
    let e = c.in-Ok-tick.ensures in
    let s = c.loop-steps in
    let works = subst (IsWorking c.args.w s.steps s.steps c.args.pass.now.view s.pass.view) (sym c.deref_mut-2.ensures.value) s.invariant.1 in
    subst (IsHeld c.args.w 256 c.args.pass.now.view s.pass.view) (sym (ap (λ (k : Box Run Global). k.value) c.told-in-Ok-tick.ensures.kernel))
    (held_ticked _ _ _ _ _ _ _ _ c.loop-steps-test.false e.ticked e.log e.same s.invariant.2 works)

pub returns-in-Ok-tick-clause-answer : goal.returns-in-Ok-tick-clause-answer
returns-in-Ok-tick-clause-answer g c =
    let e = c.in-Ok-tick.ensures in
    let s = c.loop-steps in
    let new = c.tick.new.self in
    let works = subst (IsWorking c.args.w s.steps s.steps c.args.pass.now.view s.pass.view) (sym c.deref_mut-2.ensures.value) s.invariant.1 in
    subst (λ r. IfOk r (λ o. HasAnswered c.args.w c.args.pass.now.view c.told-in-Ok-tick.result.0.value o)) (sym c.told-in-Ok-tick.ensures.answer)
    (subst (λ (r : Run). HasAnswered c.args.w c.args.pass.now.view r (outcome_of new)) (sym (ap (λ (k : Box Run Global). k.value) c.told-in-Ok-tick.ensures.kernel))
    (held_told _ _ _ _ _ _ _ _ c.loop-steps-test.false e.ticked e.log e.same (outcome_of new) e.state refl works))
