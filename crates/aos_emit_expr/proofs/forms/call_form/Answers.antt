use Rattle.std.proofs.Common.{[], ◌∷◌, ◌++◌, ap, ◌∙◌}
use Rattle.aos_typed.specs.Seen.{seen_list, seen_callee}
use Rattle.aos_emit_expr.specs.Scope.{program_of, own_of}
use Rattle.aos_emit_expr.specs.Back.{back_arguments, back_receiver}
use Rattle.aos_emit_expr.proofs.forms.call_form.Goals as goal

pub returns-clause-code : goal.returns-clause-code
returns-clause-code c =
    let p = program_of c.args.scope.now in
    let own = own_of c.args.scope.now in
    let arguments = seen_list c.args.arguments.now in
    λ behind.
    c.receiver.ensures.code p own (back_arguments p own arguments (behind ++ c.in_ok-last.last ∷ []))
    ∙ ap (λ i. back_receiver p own (seen_callee c.args.callee.now) (back_arguments p own arguments (behind ++ i ∷ []))) c.in_ok-last.ensures
