use Rattle.std.proofs.Common.{sym, subst}
use Rattle.aos_typed.specs.Seen.{seen_program}
use Rattle.aos.specs.Told.{IsCheckOf, IsLayoutOf, IsToldBy}
use Rattle.aos.specs.Shown.{TellsText, TellsOfProgram, asks_for}
use Rattle.aos.proofs.Causes.{on_answer}
use Rattle.aos.proofs.telling.tell_program.Goals as goal

pub returns-in-Locals : goal.returns-in-Locals
returns-in-Locals c =
    let p = seen_program c.args.program.now in
    on_answer (TellsText (λ text. IsCheckOf p text)) (TellsOfProgram c.args.what p) c.tell_locals.result
    (λ a tells. record { text = tells.text; such = λ files. subst (λ w. IsToldBy (asks_for w files) p tells.text) (sym c.in-Locals.is) tells.such; is = tells.is })
    c.tell_locals.ensures

pub returns-in-Layout : goal.returns-in-Layout
returns-in-Layout c =
    let p = seen_program c.args.program.now in
    on_answer (TellsText (λ text. IsLayoutOf p text)) (TellsOfProgram c.args.what p) c.tell_layout.result
    (λ a tells. record { text = tells.text; such = λ files. subst (λ w. IsToldBy (asks_for w files) p tells.text) (sym c.in-Layout.is) tells.such; is = tells.is })
    c.tell_layout.ensures
