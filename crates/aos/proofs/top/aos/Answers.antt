use Rattle.std.proofs.Common.{refl}
use Rattle.aos_words.specs.Words.{words_of}
use Rattle.aos.specs.Call.{shelf_use}
use Rattle.aos.proofs.Clauses.{cause_status, of_answer, of_no_memory}
use Rattle.aos.proofs.top.aos.Goals as goal

pub put_answer-requires : goal.put_answer-requires
put_answer-requires g c =
    cause_status (words_of c.args.words.now) (shelf_use g.F.Shelf c.args.shelf.now c.answer.new.shelf) c.in-Ok.ensures

pub returns-in-Ok : goal.returns-in-Ok
returns-in-Ok g c =
    of_answer _ c.in-Ok.answer c.in-Ok.ensures c.put_answer.ensures.whole c.put_answer.ensures.stopped c.put_answer.ensures.memory c.program_has_monitors.ensures
    (λ texts p comes some few. c.conditions_last.ensures p (c.law_of_typing.ensures texts p comes some few))

pub returns-in-Err : goal.returns-in-Err
returns-in-Err g c =
    of_no_memory _ refl refl refl c.program_has_monitors.ensures (λ texts p comes some few. c.conditions_last.ensures p (c.law_of_typing.ensures texts p comes some few))
