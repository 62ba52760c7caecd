use Rattle.std.proofs.Common.{◌∷◌, ap, ◌∙◌}
use Rattle.aos_script.specs.Words.{parts_left}
use Rattle.aos_script.proofs.Cuts.{not_two}
use Rattle.aos_script.proofs.word.two_words.Goals as goal

pub returns-in-Some : goal.returns-in-Some
returns-in-Some c a b is =
    let rest = ap (λ r. c.cut.result.0.now ∷ parts_left 32 r) c.in_ok-rest.was in
    let second = ap (λ r. c.cut.result.0.now ∷ c.cut-2.result.0.now ∷ parts_left 32 r) c.in-Some.is in
    not_two 32 c.in-Some.field-0.now (c.cut.ensures ∙ rest ∙ ap (λ ls. c.cut.result.0.now ∷ ls) c.cut-2.ensures ∙ second) is
