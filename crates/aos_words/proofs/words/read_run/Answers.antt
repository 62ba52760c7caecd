use Rattle.clap.specs.Matches.{found_of}
use Rattle.clap.specs.Walk.{rows_of}
use Rattle.aos_words.specs.Forms.{run_form}
use Rattle.aos_words.specs.Shown.{command_in}
use Rattle.aos_words.specs.Words.{words_of, run_of}
use Rattle.aos_words.proofs.Steps.{made_of}
use Rattle.aos_words.proofs.words.read_run.Goals as goal

pub returns-in-Ok : goal.returns-in-Ok
returns-in-Ok c =
    made_of command_in run_of run_form _ (words_of c.args.words.now) (rows_of (found_of c.in-Ok.matches)) c.run.result
    c.in_ok-run_form.ensures c.in-Ok.ensures c.run.ensures
