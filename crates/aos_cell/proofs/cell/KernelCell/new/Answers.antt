use Rattle.std.proofs.Common.{rules, subst, ap, ◌∙◌, ◌≤◌}
use Rattle.aos_kernel.specs.Run.{Run}
use Rattle.aos_cell.proofs.Steps.{opens_any}
use Rattle.aos_cell.proofs.Masks.{first_own}
use Rattle.aos_cell.proofs.cell.KernelCell.new.Goals as goal

pub push_as-requires-clause-rule : goal.push_as-requires-clause-rule
push_as-requires-clause-rule g c =
    let count = c.workers-count.ensures.workers ∙ ap (λ (r : Run). r.workers) c.deref.ensures in
    opens_any _ _ _ _ (search rules) (subst (λ n. 1 ≤ n) count c.workers-count.ensures.range.0) (subst (λ n. n ≤ 16) count c.workers-count.ensures.range.1)

pub invariant_of-result-in-Ok-push_as : goal.invariant_of-result-in-Ok-push_as
invariant_of-result-in-Ok-push_as g c =
    let count = c.workers-count.ensures.workers ∙ ap (λ (r : Run). r.workers) c.deref.ensures in
    (search rules, first_own c.workers-count.result c.pow-own.result _ c.args.kernel.value c.in-Ok-push_as.ensures.rule count c.pow-own.ensures)
