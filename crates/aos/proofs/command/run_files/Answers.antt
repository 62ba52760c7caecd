use Rattle.std.proofs.Common.{sym, subst}
use Rattle.aos_words.specs.Words.{Run, borrowed}
use Rattle.aos.specs.Call.{shelf_use}
use Rattle.aos.specs.Wanted.{text_files}
use Rattle.aos.specs.Fetched.{Had}
use Rattle.aos.specs.Cause.{of_files}
use Rattle.aos.specs.Shown.{AreTexts, texts_of, Serves, ServesRun}
use Rattle.aos.proofs.Causes.{on_answer}
use Rattle.aos.proofs.Fetching.{all_came, one_stopped, stops_cause, are_texts}
use Rattle.aos.proofs.command.run_files.Goals as goal

pub run_texts-requires-clause-texts : goal.run_texts-requires-clause-texts
run_texts-requires-clause-texts g c = λ _. λ _.
    let shelf = shelf_use g.F.Shelf c.args.shelf.now c.fetch_files.new.shelf in
    let files = borrowed c.args.files.now in
    let had = all_came shelf (text_files files) c.in_ok-texts.field-0 c.in-Texts.texts c.in_ok-texts.ensures.fetched c.in-Texts.is in
    subst (λ xs. AreTexts xs) (sym c.deref.ensures.value) (are_texts shelf.texts files c.in-Texts.texts.items c.requires.few had)

pub returns-in-Texts : goal.returns-in-Texts
returns-in-Texts g c =
    let s = c.args.setting in
    let shelf = shelf_use g.F.Shelf c.args.shelf.now c.fetch_files.new.shelf in
    let files = borrowed c.args.files.now in
    let had = all_came shelf (text_files files) c.in_ok-texts.field-0 c.in-Texts.texts c.in_ok-texts.ensures.fetched c.in-Texts.is in
    on_answer (ServesRun s files (texts_of c.deref.result.now)) (Serves (Run s.workers s.budget s.log files) shelf) c.run_texts.result
    (λ a serves. λ probes words asks. serves words shelf probes (of_files (record { asks = asks; had = subst (λ xs. Had shelf.texts (text_files files) (texts_of xs)) (sym c.deref.ensures.value) had })))
    c.run_texts.ensures

pub returns-in-Stopped : goal.returns-in-Stopped
returns-in-Stopped g c = λ probes words asks.
    let s = c.args.setting in
    let shelf = shelf_use g.F.Shelf c.args.shelf.now c.fetch_files.new.shelf in
    let files = borrowed c.args.files.now in
    stops_cause shelf words (Run s.workers s.budget s.log files) (one_stopped shelf (text_files files) c.in_ok-texts.field-0 c.in-Stopped.answer c.in_ok-texts.ensures.fetched c.in-Stopped.is) asks
