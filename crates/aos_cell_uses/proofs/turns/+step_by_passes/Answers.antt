use Rattle.std.proofs.Common.{◌≤◌, ◌-◌, arith, rules, refl, sym, subst}
use Rattle.aos_cell.specs.Passes.{MayStart, HasEnded}
use Rattle.aos_cell.proofs.Passes.{may_split, may_start, all_end, ended_has}
use Rattle.aos_cell_uses.proofs.turns.+step_by_passes.Goals as goal

pub step-requires-clause-start : goal.step-requires-clause-start
step-requires-clause-start g t c = subst (λ n. MayStart 1 n c.args.pass.view) c.if-count-eq1.true c.requires.start

pub split-last-requires-clause-free : goal.split-last-requires-clause-free
split-last-requires-clause-free g t c = may_split 1 _ _ c.requires.count c.if-count-eq1.false c.requires.start

pub step_by_passes-rest-requires : goal.step_by_passes-rest-requires
step_by_passes-rest-requires g t c κs b =
    let some : 1 ≤ c.args.count - 1 = (let any = c.requires.count in let ne = c.if-count-eq1.false in omega arith) in
    let start = subst (MayStart 1 (c.args.count - 1)) (sym c.split-last.ensures.view.0) (may_start 1 _ _ _ c.requires.count c.if-count-eq1.false refl c.requires.start).0 in
    (search rules, (search rules, (search rules, (some, start))))

pub step-requires-2-clause-start : goal.step-requires-2-clause-start
step-requires-2-clause-start g t c =
    subst (MayStart 1 1) (sym c.split-last.ensures.view.1) (may_start 1 _ (c.args.count - 1) _ c.requires.count c.if-count-eq1.false refl c.requires.start).1

pub join-requires-clause-free : goal.join-requires-clause-free
join-requires-clause-free g t c = ((ended_has _ _ c.step_by_passes-rest.ensures.view).0, (ended_has _ _ c.step-2.ensures.view).1)

pub returns-clause-view : goal.returns-clause-view
returns-clause-view g t c =
    subst (HasEnded c.args.pass.view) (sym c.join.ensures.view)
    (all_end 1 _ _ _ _ c.requires.count c.requires.start
    (subst (λ v. HasEnded v c.step_by_passes-rest.result.view) c.split-last.ensures.view.0 c.step_by_passes-rest.ensures.view)
    (subst (λ v. HasEnded v c.step-2.new.pass.view) c.split-last.ensures.view.1 c.step-2.ensures.view))
