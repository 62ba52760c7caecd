use Rattle.std.proofs.Common.{[], ◌∷◌, refl, ap, ◌∙◌}
use Rattle.aos.specs.Shown.{texts_of}
use Rattle.aos.proofs.Causes.{serves_pairs}
use Rattle.aos.proofs.command.run_pairs.Goals as goal

pub returns : goal.returns
returns g c =
    serves_pairs _ c.args.workers c.args.pairs _ _ c.run_texts.result refl (ap (λ n. n ∷ []) c.file_name.ensures)
    (ap texts_of c.deref.ensures.value ∙ c.in_ok-texts.ensures.made) c.run_texts.ensures
