use Rattle.std.proofs.Common.{◌≡◌, sym, ap, ◌∙◌, subst}
use Rattle.std.specs.Prelude.{IfOk}
use Rattle.aos_typed.specs.Program.{Function}
use Rattle.aos_typed.specs.Seen.{seen_list, seen_callee, seen_expr}
use Rattle.aos_typed.proofs.Seen.{function_seen}
use Rattle.aos_dispatch.specs.Sizes.{value_size}
use Rattle.aos_emit_expr.specs.Adds.{IsForm}
use Rattle.aos_emit_expr.specs.Back.{back_code}
use Rattle.aos_emit_expr.specs.Sizes.{form_size}
use Rattle.aos_emit_expr.proofs.forms.value_form.Goals as goal

pub returns-in-Function-clause-code : goal.returns-in-Function-clause-code
returns-in-Function-clause-code c =
    let x = c.in-Function in
    let same = ap (λ l. Function (seen_callee x.callee) (seen_list l)) c.deref.ensures.value ∙ sym (ap seen_expr x.is ∙ function_seen x.callee x.arguments) in
    subst (λ v. IfOk c.call_form.result (IsForm back_code c.args.scope.now v)) same c.call_form.ensures.code

pub returns-in-Function-clause-size : goal.returns-in-Function-clause-size
returns-in-Function-clause-size c =
    let x = c.in-Function in
    let same = ap (λ l. Function (seen_callee x.callee) (seen_list l)) c.deref.ensures.value ∙ sym (ap seen_expr x.is ∙ function_seen x.callee x.arguments) in
    subst (λ v. IfOk c.call_form.result (λ form. form_size form ≡ value_size v)) same c.call_form.ensures.size
