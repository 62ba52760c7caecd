use Rattle.std.proofs.Common.{rules, subst, ap, sym, ◌<◌}
use Rattle.aos_cell.specs.Steps.{MaySplit}
use Rattle.aos_cell.specs.Hold.{Hold}
use Rattle.aos_cell.proofs.Steps.{splits_any, distinct_any}
use Rattle.aos_cell.proofs.Masks.{split_positive, split_own}
use Rattle.aos_cell.proofs.cell.KernelCell.split.Goals as goal

pub learn_as-requires-clause-rule : goal.learn_as-requires-clause-rule
learn_as-requires-clause-rule c = distinct_any _ _

pub ilog2-requires : goal.ilog2-requires
ilog2-requires c = subst (λ k. 0 < k) c.pass.invariant.1 (split_positive _ (subst MaySplit (ap (λ (h : Hold). h.view) (sym c.pass.view_is)) c.requires.free))

pub another-new-requires-clause-rule : goal.another-new-requires-clause-rule
another-new-requires-clause-rule c = splits_any _ _ (subst MaySplit (sym c.learn_as.ensures.queue.1) (subst MaySplit (ap (λ (h : Hold). h.view) (sym c.pass.view_is)) c.requires.free))

pub invariant_of-pass : goal.invariant_of-pass
invariant_of-pass c = (
  search rules,
  (split_own c.ilog2.result c.pass.inside.own c.pow-bit.result _ _ _ _ (subst MaySplit (ap (λ (h : Hold). h.view) (sym c.pass.view_is)) c.requires.free) c.learn_as.ensures.rule.1
      c.pass.invariant.1 c.ilog2.ensures.power_le c.ilog2.ensures.next_power_gt c.pow-bit.ensures c.learn_as.ensures.queue.1 c.another-new.ensures.rule.0 c.another-new.ensures.rule.1).0,
)

pub invariant_of-result : goal.invariant_of-result
invariant_of-result c = (
  search rules,
  (split_own c.ilog2.result c.pass.inside.own c.pow-bit.result _ _ _ _ (subst MaySplit (ap (λ (h : Hold). h.view) (sym c.pass.view_is)) c.requires.free) c.learn_as.ensures.rule.1
      c.pass.invariant.1 c.ilog2.ensures.power_le c.ilog2.ensures.next_power_gt c.pow-bit.ensures c.learn_as.ensures.queue.1 c.another-new.ensures.rule.0 c.another-new.ensures.rule.1).1,
)
