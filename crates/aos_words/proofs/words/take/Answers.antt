use Rattle.std.proofs.Common.{◌∙◌, ap, sym, Some, None, if◌then◌else◌}
use Rattle.std.proofs.lemmas.Bool.{and_parts}
use Rattle.clap.specs.Walk.{is_empty}
use Rattle.clap.specs.Simple.{app_of, is_simple, matches_of, built}
use Rattle.clap.specs.Faults.{is_free_app}
use Rattle.aos_words.specs.Words.{words_of}
use Rattle.aos_words.proofs.words.take.Goals as goal

pub returns-in-Ok : goal.returns-in-Ok
returns-in-Ok c =
    let app = app_of c.args.form in
    let words = words_of c.args.words.now in
    let found = (c.in-Ok.ensures.matches (and_parts (is_simple app) (is_free_app (built app)) c.requires).0).0 in
    ap (λ kinds. if is_empty kinds then Some (matches_of app words) else None) (c.in-Ok.ensures.kinds c.requires) ∙ ap Some (sym found)
