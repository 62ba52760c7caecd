use Rattle.std.proofs.Common.{subst}
use Rattle.aos_typed.specs.Seen.{seen_program}
use Rattle.aos_words.specs.Words.{borrowed}
use Rattle.aos.specs.Shown.{ComesOf, TellsOfProgram, asks_for, texts_of, ServesTexts}
use Rattle.aos.proofs.Causes.{told_causes, takes_for, refused_causes, on_answer}
use Rattle.aos.proofs.command.tell_texts.Goals as goal

pub tell_program-requires : goal.tell_program-requires
tell_program-requires c =
    let made = subst (λ x. ComesOf (borrowed c.args.files.now) (texts_of c.args.texts.now) x) c.in-Went.is c.in_ok-program.ensures in
    record { small = made.1; typed = made.0.compiled.typed; names = made.0.names }

pub returns-in-Went : goal.returns-in-Went
returns-in-Went c =
    let what = c.args.what in
    let files = borrowed c.args.files.now in
    let texts = texts_of c.args.texts.now in
    let p = seen_program c.in-Went.program in
    let made = subst (λ x. ComesOf files texts x) c.in-Went.is c.in_ok-program.ensures in
    on_answer (TellsOfProgram what p) (ServesTexts (asks_for what files) texts) c.tell_program.result
    (λ a tells. λ shelf had probes words asks. told_causes words shelf what files texts p c.in-Went.image a made.0 tells (record { asks = asks; had = had }))
    c.tell_program.ensures

pub returns-in-Stopped : goal.returns-in-Stopped
returns-in-Stopped c = λ shelf had probes words asks.
    let files = borrowed c.args.files.now in
    let texts = texts_of c.args.texts.now in
    refused_causes words shelf files texts c.in-Stopped.answer (subst (λ x. ComesOf files texts x) c.in-Stopped.is c.in_ok-program.ensures) (takes_for words shelf c.args.what files texts (record { asks = asks; had = had }))
