use Rattle.std.proofs.Common.{rules, arith, subst, ap, sym}
use Rattle.aos_cell.specs.Steps.{HasWorkers, IsFree}
use Rattle.aos_cell.specs.Hold.{Hold}
use Rattle.aos_cell.proofs.Steps.{joins_any, distinct_any}
use Rattle.aos_cell.proofs.Masks.{joined_own}
use Rattle.aos_cell.proofs.cell.KernelCell.join.Goals as goal

pub absorb-requires-clause-rule : goal.absorb-requires-clause-rule
absorb-requires-clause-rule c =
    joins_any _ _ _ _ (subst HasWorkers (ap (λ (h : Hold). h.view) (sym c.pass.view_is)) c.requires.free.0) (subst IsFree (ap (λ (h : Hold). h.view) (sym c.other.view_is)) c.requires.free.1)

pub learn_as-requires-clause-rule : goal.learn_as-requires-clause-rule
learn_as-requires-clause-rule c = distinct_any _ _

pub overflow_add-pass : goal.overflow_add-pass
overflow_add-pass c =
    let both = joined_own c.pass.inside.own c.other.inside.own _ _ _ _ (subst HasWorkers (ap (λ (h : Hold). h.view) (sym c.pass.view_is)) c.requires.free.0) (subst IsFree (ap (λ (h : Hold). h.view) (sym c.other.view_is)) c.requires.free.1)
    c.pass.invariant.1 c.other.invariant.1 c.absorb.ensures.rule c.learn_as.ensures.queue.1 c.learn_as.ensures.rule.1 in
    let small = both.1 in
    omega arith

pub invariant_of-pass : goal.invariant_of-pass
invariant_of-pass c = (
  search rules,
  (joined_own c.pass.inside.own c.other.inside.own _ _ _ _ (subst HasWorkers (ap (λ (h : Hold). h.view) (sym c.pass.view_is)) c.requires.free.0) (subst IsFree (ap (λ (h : Hold). h.view) (sym c.other.view_is)) c.requires.free.1)
      c.pass.invariant.1 c.other.invariant.1 c.absorb.ensures.rule c.learn_as.ensures.queue.1 c.learn_as.ensures.rule.1).0,
)
