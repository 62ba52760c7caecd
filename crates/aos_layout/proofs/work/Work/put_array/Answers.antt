use Rattle.std.proofs.Common.{◌≡◌, ◌-◌, ◌++◌, length, drop, ap, ◌∙◌, arith, append_assoc}
use Rattle.aos_layout.specs.declared.work.Task.TheVariants.{Again}
use Rattle.aos_layout.specs.Work.{variable_kinds, again, all_done, all_steps}
use Rattle.aos_layout.proofs.Outcomes.{all_done_push, all_steps_push, drop_front, again_more}
use Rattle.aos_layout.proofs.work.Work.put_array.Goals as goal

pub returns-in_ok-put_variable-clause-kinds : goal.returns-in_ok-put_variable-clause-kinds
returns-in_ok-put_variable-clause-kinds c =
    let rows = c.args.types.now in
    let s = c.args.self.now in
    let ks = s.kinds.items in
    let vs = variable_kinds rows c.args.element in
    let n : c.len.result ≡ length ks = omega (arith, c.len.ensures, s.kinds.ok.0) in
    c.in_ok-put_variable.ensures.kinds
    ∙ ap (λ z. all_done rows z (ks ++ vs)) c.in_ok-push.ensures.items
    ∙ all_done_push rows s.tasks.items (Again c.len.result (c.args.length - 1)) (ks ++ vs)
    ∙ ap (λ z. all_done rows s.tasks.items ((ks ++ vs) ++ again (c.args.length - 1) z)) (ap (λ k. drop k (ks ++ vs)) n ∙ drop_front ks vs)
    ∙ ap (all_done rows s.tasks.items) (append_assoc ks vs (again (c.args.length - 1) vs) ∙ ap (λ z. ks ++ z) (again_more c.args.length vs c.if-length-gt0.true))

pub returns-in_ok-put_variable-clause-steps : goal.returns-in_ok-put_variable-clause-steps
returns-in_ok-put_variable-clause-steps c =
    let rows = c.args.types.now in
    let p = ap (all_steps rows) c.in_ok-push.ensures.items in
    let a = all_steps_push rows c.args.self.now.tasks.items (Again c.len.result (c.args.length - 1)) in
    let v = c.in_ok-put_variable.ensures.steps in
    omega (arith, p, a, v)
