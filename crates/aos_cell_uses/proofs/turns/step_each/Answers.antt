use Rattle.std.proofs.Common.{rules, arith, sym, subst, ap, ◌∙◌}
use Rattle.aos_kernel.specs.Run.{Run}
use Rattle.aos_cell.specs.Passes.{MayStart}
use Rattle.aos_cell.proofs.Passes.{first_starts, has_all, runs_on}
use Rattle.aos_cell_uses.proofs.turns.step_each.Goals as goal

pub step_by_passes-pass-requires-clause-start : goal.step_by_passes-pass-requires-clause-start
step_by_passes-pass-requires-clause-start g c =
    let none = sym (ap (λ (r : Run). r.lent) c.deref-2.ensures) ∙ c.lends_none.ensures c.if-not-lends_none.false in
    subst (λ n. MayStart 1 n c.in-Ok.pass.view) (sym (c.workers-count.ensures.workers ∙ ap (λ (r : Run). r.workers) c.deref.ensures))
    (first_starts 1 c.args.kernel.value _ (omega arith) (search rules) none c.in-Ok.ensures.view)

pub close-requires-clause-all : goal.close-requires-clause-all
close-requires-clause-all g c = has_all c.args.kernel.value _ _ c.in-Ok.ensures.view c.step_by_passes-pass.ensures.view

pub returns-in-Ok-clause-runs : goal.returns-in-Ok-clause-runs
returns-in-Ok-clause-runs g c = runs_on c.args.kernel.value _ _ _ c.in-Ok.ensures.view c.step_by_passes-pass.ensures.view c.close.ensures.kernel
