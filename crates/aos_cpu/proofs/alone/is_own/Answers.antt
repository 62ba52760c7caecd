use Rattle.std.proofs.Common.{◌≡◌, List, drop, take, reverse, sym, ap, ◌∙◌}
use Rattle.std.specs.Prelude.{Some, Option}
use Rattle.aos_code.specs.declared.image.ProcShape.{ProcShape}
use Rattle.aos_code.specs.declared.image.ParamKind.{ParamKind}
use Rattle.aos_code.specs.Numbered.{numbered}
use Rattle.aos_code.specs.Machine.{arguments_of}
use Rattle.aos_silent_steps.specs.Acts.{behind_value, passed, question_in}
use Rattle.aos_silent_steps.specs.declared.act.Question.{Question}
use Rattle.aos_cpu.specs.Private.{copies_own, calls_own, is_own}
use Rattle.aos_cpu.proofs.Own.{last_ones}
use Rattle.aos_cpu.proofs.Passing.{own_passed}
use Rattle.aos_cpu.proofs.alone.is_own.Goals as goal

pub returns-in-Some : goal.returns-in-Some
returns-in-Some c =
    let shapes = c.args.image.now.shapes.items in
    let operands = c.args.operands.now in
    let way = c.in-Calls.way in
    let method = c.in-Some.shape.now.method in
    let ps = c.in-Some.shape.now.params.items in
    let vs = reverse (take c.in-Calls.count (reverse operands)) in
    let all : c.behind-all.result.now ≡ vs = c.behind-all.ensures ∙ ap (λ m. drop m operands) c.saturating_sub.ensures ∙ last_ones operands c.in-Calls.count in
    let over : c.behind_value.result.now ≡ behind_value way vs = c.behind_value.ensures ∙ ap (behind_value way) all in
    let shape : Some c.in-Some.shape.now ≡ numbered shapes c.in-Calls.procedure = c.in-Some.ensures ∙ ap (λ (l : List ProcShape). numbered l c.in-Calls.procedure) c.deref.ensures.value in
    c.copies_own.ensures ∙ ap (λ (ps : List ParamKind). copies_own ps c.arguments_of-args.result.now) c.deref-in-Some.ensures.value
    ∙ ap (copies_own ps) (c.arguments_of-args.ensures ∙ ap (arguments_of method) over) ∙ own_passed ps way method (behind_value way vs)
    ∙ ap (λ (f : Option ProcShape). calls_own f (passed way vs)) shape ∙ ap (λ (q : Question). is_own shapes (question_in q (reverse operands))) (sym c.in-Calls.is)
