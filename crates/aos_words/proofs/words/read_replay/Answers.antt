use Rattle.clap.specs.Matches.{found_of}
use Rattle.clap.specs.Walk.{rows_of}
use Rattle.aos_words.specs.Forms.{replay_form}
use Rattle.aos_words.specs.Shown.{command_in}
use Rattle.aos_words.specs.Words.{words_of, replay_of}
use Rattle.aos_words.proofs.Steps.{made_of}
use Rattle.aos_words.proofs.words.read_replay.Goals as goal

pub returns-in-Ok : goal.returns-in-Ok
returns-in-Ok c =
    made_of command_in replay_of replay_form _ (words_of c.args.words.now) (rows_of (found_of c.in-Ok.matches)) c.replay.result
    c.in_ok-replay_form.ensures c.in-Ok.ensures c.replay.ensures
