use Rattle.std.proofs.Common.{[], ◌∷◌}
use Rattle.aos_words.specs.Words.{Replay, borrowed}
use Rattle.aos.specs.Report.{script_line}
use Rattle.aos.specs.Cause.{bad_script}
use Rattle.aos.specs.Shown.{texts_of, ServesTextsWith}
use Rattle.aos.proofs.Causes.{refused_script, causes_along}
use Rattle.aos.proofs.command.replay_listing.Goals as goal

pub returns-in-Err : goal.returns-in-Err
returns-in-Err g c =
    let name = c.args.name.now in
    let listing = c.args.listing.now in
    let e = c.in-Err.e in
    refused_script e listing c.refuse_script.result (ServesTextsWith (Replay name c.args.watch (borrowed c.args.files.now)) (listing ∷ texts_of c.args.texts.now) _) c.in-Err.ensures.refused
    (λ a q h. λ shelf had words asks. causes_along words shelf a 10 [] (script_line e) h (bad_script e (record { asks = asks; had = had }) q))
    c.refuse_script.ensures.memory c.refuse_script.ensures.line
