use Rattle.std.proofs.Common.{◌≡◌, true, false, [], sym, ap, ◌∙◌}
use Rattle.std.specs.Prelude.{if◌then◌else◌}
use Rattle.std.specs.List.{list_all}
use Rattle.aos_code.specs.Machine.{may_evaluate}
use Rattle.aos_silent_steps.proofs.image.evaluable_code.Goals as goal

pub returns-then-is_evaluable-clause-code : goal.returns-then-is_evaluable-clause-code
returns-then-is_evaluable-clause-code c =
    let code = c.args.body.now.code.items in
    let all : list_all may_evaluate code ≡ true = sym (c.is_evaluable.ensures ∙ ap (list_all may_evaluate) c.deref.ensures.value) ∙ c.if-is_evaluable.true in
    c.as_slice.ensures.value ∙ sym (ap (λ b. if b then code else []) all)

pub returns-then-is_evaluable-clause-evaluates : goal.returns-then-is_evaluable-clause-evaluates
returns-then-is_evaluable-clause-evaluates c =
    ap (list_all may_evaluate) (c.as_slice.ensures.value ∙ sym c.deref.ensures.value) ∙ sym c.is_evaluable.ensures ∙ c.if-is_evaluable.true

pub returns-else-is_evaluable-clause-code : goal.returns-else-is_evaluable-clause-code
returns-else-is_evaluable-clause-code c =
    let code = c.args.body.now.code.items in
    let other : list_all may_evaluate code ≡ false = sym (c.is_evaluable.ensures ∙ ap (list_all may_evaluate) c.deref.ensures.value) ∙ c.if-is_evaluable.false in
    sym (ap (λ b. if b then code else []) other)
