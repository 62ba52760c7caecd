use Rattle.std.proofs.Common.{sym, ap, ◌∙◌, arith}
use Rattle.aos_layout.specs.Work.{all_done, all_steps}
use Rattle.aos_layout.proofs.Outcomes.{all_done_push, all_steps_push}
use Rattle.aos_layout.proofs.work.finished.Goals as goal

pub loop-task-smaller : goal.loop-task-smaller
loop-task-smaller c =
    let rows = c.args.types.now in
    let p = ap (all_steps rows) c.in-Some.ensures.items in
    let a = all_steps_push rows c.pop.new.self.items c.in-Some.task in
    let s = c.in_ok-put.ensures.steps in
    omega (arith, p, a, s)

pub loop-task-preserved : goal.loop-task-preserved
loop-task-preserved c =
    let rows = c.args.types.now in
    let ks = c.loop-task.work.kinds.items in
    c.in_ok-put.ensures.kinds ∙ sym (all_done_push rows c.pop.new.self.items c.in-Some.task ks) ∙ ap (λ z. all_done rows z ks) (sym c.in-Some.ensures.items) ∙ c.loop-task.invariant
