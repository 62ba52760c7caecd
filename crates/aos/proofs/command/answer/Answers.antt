use Rattle.std.proofs.Common.{[], Err, subst}
use Rattle.aos_report.specs.Texts.{usage_text}
use Rattle.aos_words.specs.Words.{words_of, command_of}
use Rattle.aos_words.specs.Shown.{command_in, AnswersBy}
use Rattle.aos.specs.Call.{shelf_use}
use Rattle.aos.specs.Cause.{wrong_words}
use Rattle.aos.specs.Shown.{Causes, ServesWith}
use Rattle.aos.proofs.Causes.{causes_along, answer_err, on_answer}
use Rattle.aos.proofs.command.answer.Goals as goal

pub returns-in-Ok : goal.returns-in-Ok
returns-in-Ok g c =
    let words = words_of c.args.words.now in
    let shelf = shelf_use g.F.Shelf c.args.shelf.now c.serve.new.shelf in
    on_answer (ServesWith (command_in c.in-Ok.command) shelf _) (Causes words shelf _) c.serve.result (λ a serves. serves words c.in-Ok.ensures.read) c.serve.ensures

pub returns-in_ok-usage-in-Err-Refused : goal.returns-in_ok-usage-in-Err-Refused
returns-in_ok-usage-in-Err-Refused g c =
    causes_along (words_of c.args.words.now) (shelf_use g.F.Shelf c.args.shelf.now c.args.shelf.now) c.message.result 2 [] usage_text (answer_err c.message.result 2 [] _ usage_text c.message.ensures c.in_ok-usage-in-Err-Refused.ensures)
    (wrong_words (subst (λ e. AnswersBy command_in (command_of (words_of c.args.words.now)) (Err e)) c.in-Err-Refused.field-0-is c.in-Err-Refused.ensures.read))
