use Rattle.std.proofs.Common.{sym, ap, ◌∙◌, rules}
use Rattle.std.proofs.lemmas.Result.{IfOk-weaker}
use Rattle.aos_typed.specs.Program.{Function}
use Rattle.aos_typed.specs.Seen.{seen_list, seen_callee, seen_expr}
use Rattle.aos_typed.proofs.Seen.{function_seen}
use Rattle.aos_sim.specs.Need.{value_need}
use Rattle.aos_dispatch.proofs.Sizes.{call_within}
use Rattle.aos_need.proofs.need.+value_need.Goals as goal

pub value_end-call_end-requires : goal.value_end-call_end-requires
value_end-call_end-requires t c =
    let x = c.in-Function in
    let less = call_within _ _ _ _ (ap seen_expr x.is ∙ function_seen x.callee x.arguments) c.deref.ensures.value in
    search (rules, less)

pub value_end-returns-in-Function-clause-need : goal.value_end-returns-in-Function-clause-need
value_end-returns-in-Function-clause-need t c =
    let x = c.in-Function in
    IfOk-weaker c.call_end.result _ _ (λ end e. e
    ∙ ap (λ l. value_need (Function (seen_callee x.callee) (seen_list l))) c.deref.ensures.value
    ∙ sym (ap value_need (ap seen_expr x.is ∙ function_seen x.callee x.arguments))) c.call_end.ensures.need
