use Rattle.std.proofs.Common.{◌++◌, sym, ap, ◌∙◌, arith}
use Rattle.aos_layout.specs.declared.work.Task.TheVariants.{Contents}
use Rattle.aos_layout.specs.Work.{all_done, all_steps}
use Rattle.aos_layout.proofs.Outcomes.{all_done_push, all_steps_push, other_kinds, other_steps}
use Rattle.aos_layout.proofs.work.Work.put_variable.Goals as goal

pub returns-in_ok-push-2-clause-kinds : goal.returns-in_ok-push-2-clause-kinds
returns-in_ok-push-2-clause-kinds c =
    let rows = c.args.types.now in
    let s = c.args.self.now in
    ap (λ z. all_done rows z s.kinds.items) c.in_ok-push-2.ensures.items ∙ all_done_push rows s.tasks.items (Contents c.args.t) s.kinds.items ∙ ap (λ z. all_done rows s.tasks.items (s.kinds.items ++ z)) (sym (other_kinds rows c.args.t (sym c.if-is_object.ensures)))

pub returns-in_ok-push-2-clause-steps : goal.returns-in_ok-push-2-clause-steps
returns-in_ok-push-2-clause-steps c =
    let rows = c.args.types.now in
    let p = ap (all_steps rows) c.in_ok-push-2.ensures.items in
    let a = all_steps_push rows c.args.self.now.tasks.items (Contents c.args.t) in
    let v = other_steps rows c.args.t (sym c.if-is_object.ensures) in
    omega (arith, p, a, v)
