use Rattle.std.proofs.Common.{length, refl, sym, ap, ◌∙◌}
use Rattle.std.specs.Prelude.{slice_get}
use Rattle.std.proofs.lemmas.Option.{slice_get_read}
use Rattle.aos_code.specs.Machine.{condition_in}
use Rattle.aos_silent_steps.proofs.image.condition_of.Goals as goal

pub returns-in-Some-clause-code : goal.returns-in-Some-clause-code
returns-in-Some-clause-code c =
    let conds = c.deref.result.now in
    let found = c.in-Some.ensures.lookup in
    c.evaluable_code.ensures.code ∙ ap condition_in (sym (slice_get_read conds (length conds) c.args.condition c.in-Some.body.now refl found.3.0 found.1))
    ∙ ap (λ l. condition_in (slice_get l c.args.condition)) c.deref.ensures.value
