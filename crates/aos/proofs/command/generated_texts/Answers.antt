use Rattle.std.proofs.Common.{List, Vec, Global, ℕ, [], ◌∷◌, ◌++◌, ap, ◌∙◌, sym, subst}
use Rattle.aos.specs.Shown.{AreTexts}
use Rattle.aos.proofs.Causes.{one_text}
use Rattle.aos.proofs.command.generated_texts.Goals as goal

pub returns-clause-texts : goal.returns-clause-texts
returns-clause-texts c =
    let text = c.in_ok-text.text in
    let is = c.in_ok-keep.ensures ∙ ap (λ xs. xs ++ text ∷ []) c.new-texts.ensures.items in
    subst (λ xs. AreTexts xs) (sym {A = List (Vec ℕ Global)} is) (one_text c.args.pairs text c.requires c.in_ok-text.ensures)
