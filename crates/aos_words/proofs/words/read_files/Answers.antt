use Rattle.clap.specs.Matches.{found_of}
use Rattle.clap.specs.Walk.{rows_of}
use Rattle.aos_words.specs.Forms.{files_form}
use Rattle.aos_words.specs.Words.{words_of, borrowed, files_of}
use Rattle.aos_words.proofs.Steps.{made_of}
use Rattle.aos_words.proofs.words.read_files.Goals as goal

pub returns-in-Ok : goal.returns-in-Ok
returns-in-Ok c =
    made_of (λ v. borrowed v.items) files_of (files_form c.args.name.now) _ (words_of c.args.words.now) (rows_of (found_of c.in-Ok.matches)) c.files.result
    c.in_ok-files_form.ensures c.in-Ok.ensures c.files.ensures
