use Rattle.std.proofs.Common.{◌∷◌, subst}
use Rattle.aos_typed.specs.Seen.{seen_program}
use Rattle.aos_words.specs.Words.{Replay, borrowed}
use Rattle.aos.specs.Cause.{to_replay}
use Rattle.aos.specs.Shown.{ComesOf, ShowsReplayOf, texts_of, ServesTextsWith}
use Rattle.aos.proofs.Causes.{ready, replay_causes, refused_causes, on_answer}
use Rattle.aos.proofs.command.replay_texts.Goals as goal

pub replay_image-requires : goal.replay_image-requires
replay_image-requires g c = ready c.args.listing.now c.args.script.now c.requires.read c.requires.runs

pub returns-in-Went : goal.returns-in-Went
returns-in-Went g c =
    let name = c.args.name.now in
    let listing = c.args.listing.now in
    let files = borrowed c.args.files.now in
    let texts = texts_of c.args.texts.now in
    let made = subst (λ x. ComesOf files texts x) c.in-Went.is c.in_ok-program.ensures in
    on_answer (ShowsReplayOf c.in-Went.image c.args.script.now c.args.watch _) (ServesTextsWith (Replay name c.args.watch files) (listing ∷ texts) _) c.replay_image.result
    (λ a run. λ shelf had words asks. replay_causes words shelf name listing c.args.watch files texts c.args.script.now (seen_program c.in-Went.program) c.in-Went.image a c.requires.read made.0 run (record { asks = asks; had = had }))
    c.replay_image.ensures

pub returns-in-Stopped : goal.returns-in-Stopped
returns-in-Stopped g c = λ shelf had words asks.
    let files = borrowed c.args.files.now in
    let texts = texts_of c.args.texts.now in
    refused_causes words shelf files texts c.in-Stopped.answer (subst (λ x. ComesOf files texts x) c.in-Stopped.is c.in_ok-program.ensures) (to_replay c.args.script.now (record { asks = asks; had = had }) c.requires.read)
