use Rattle.std.proofs.Common.{ap}
use Rattle.std.proofs.lemmas.Result.{on_ok_weaker}
use Rattle.aos_typed.specs.Seen.{seen_procedure}
use Rattle.aos_await.proofs.program.number_procedure.Goals as goal

pub returns-clause-numbers : goal.returns-clause-numbers
returns-clause-numbers c =
    let old = c.args.procedure.now in
    on_ok_weaker c.number_body.result
    (λ h. ap (λ ss. record (seen_procedure old) { body = record { is_exclusive = old.is_exclusive; statements = ss } }) h) c.number_body.ensures.numbers

pub returns-clause-next : goal.returns-clause-next
returns-clause-next c = c.number_body.ensures.next
