use Rattle.clap.specs.Matches.{found_of}
use Rattle.clap.specs.Walk.{rows_of}
use Rattle.aos_words.specs.Forms.{gen_form}
use Rattle.aos_words.specs.Shown.{command_in}
use Rattle.aos_words.specs.Words.{words_of, gen_of}
use Rattle.aos_words.proofs.Steps.{made_of}
use Rattle.aos_words.proofs.words.read_gen.Goals as goal

pub returns-in-Ok : goal.returns-in-Ok
returns-in-Ok c =
    made_of command_in gen_of gen_form _ (words_of c.args.words.now) (rows_of (found_of c.in-Ok.matches)) c.generate.result
    c.in_ok-gen_form.ensures c.in-Ok.ensures c.generate.ensures
