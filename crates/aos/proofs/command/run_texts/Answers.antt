use Rattle.std.proofs.Common.{subst}
use Rattle.aos_typed.specs.Seen.{seen_program}
use Rattle.aos_words.specs.Words.{borrowed}
use Rattle.aos.specs.Cause.{to_run}
use Rattle.aos.specs.Shown.{ComesOf, ShowsRun, texts_of, ServesRun}
use Rattle.aos.proofs.Causes.{ran_causes, refused_causes, on_answer}
use Rattle.aos.proofs.command.run_texts.Goals as goal

pub returns-in-Went : goal.returns-in-Went
returns-in-Went g c =
    let s = c.args.setting in
    let files = borrowed c.args.files.now in
    let texts = texts_of c.args.texts.now in
    let made = subst (λ x. ComesOf files texts x) c.in-Went.is c.in_ok-program.ensures in
    on_answer (ShowsRun s.workers s.budget s.log c.in-Went.image) (ServesRun s files texts) c.run_image.result
    (λ a run. λ words shelf probes runs. ran_causes words shelf s files texts (seen_program c.in-Went.program) c.in-Went.image a c.requires.set made.0 run runs)
    c.run_image.ensures

pub returns-in-Stopped : goal.returns-in-Stopped
returns-in-Stopped g c = λ words shelf probes runs.
    let files = borrowed c.args.files.now in
    let texts = texts_of c.args.texts.now in
    refused_causes words shelf files texts c.in-Stopped.answer (subst (λ x. ComesOf files texts x) c.in-Stopped.is c.in_ok-program.ensures) (to_run runs)
