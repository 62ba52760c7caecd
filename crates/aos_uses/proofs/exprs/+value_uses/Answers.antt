use Rattle.std.proofs.Common.{◌++◌, sym, ap, ◌∙◌, rules}
use Rattle.std.proofs.lemmas.Result.{IfOk-weaker}
use Rattle.aos_typed.specs.Seen.{seen_list, seen_callee, seen_expr, seen_program}
use Rattle.aos_typed.proofs.Seen.{function_seen}
use Rattle.aos_uses.specs.Uses.{call_uses, expr_uses}
use Rattle.aos_dispatch.proofs.Sizes.{call_within}
use Rattle.aos_uses.proofs.exprs.+value_uses.Goals as goal

pub value_end-call_end-requires : goal.value_end-call_end-requires
value_end-call_end-requires t c =
    let x = c.in-Function in
    let less = call_within _ _ _ _ (ap seen_expr x.is ∙ function_seen x.callee x.arguments) c.deref.ensures.value in
    search (rules, less)

pub value_end-returns-in-Function-clause-uses : goal.value_end-returns-in-Function-clause-uses
value_end-returns-in-Function-clause-uses t c =
    let x = c.in-Function in
    let p = seen_program c.args.dispatch.now in
    let base = c.args.uses.now.items in
    IfOk-weaker c.call_end.result _ _ (λ rest e. e
    ∙ ap (λ l. base ++ call_uses p (seen_callee x.callee) (seen_list l)) c.deref.ensures.value
    ∙ sym (ap (λ y. base ++ expr_uses p y) (ap seen_expr x.is ∙ function_seen x.callee x.arguments))) c.call_end.ensures.uses
