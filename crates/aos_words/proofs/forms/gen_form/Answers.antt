use Rattle.std.proofs.Common.{◌∙◌, ap₂}
use Rattle.std.proofs.lemmas.Result.{IfOk-weaker}
use Rattle.clap.specs.Simple.{with_rule}
use Rattle.aos_words.proofs.forms.gen_form.Goals as goal

pub returns : goal.returns
returns c =
    let one = c.in_ok-arg.ensures.shape c.option.ensures.local ∙ ap₂ with_rule c.new.ensures.app c.option.ensures.rule in
    IfOk-weaker c.arg-2.result _ _ (λ r h. h.shape c.number.ensures.local ∙ ap₂ with_rule one c.number.ensures.rule) c.arg-2.ensures
