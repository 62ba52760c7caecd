use Rattle.std.proofs.Common.{sym, subst}
use Rattle.aos_words.specs.Words.{borrowed}
use Rattle.aos.specs.Call.{shelf_use}
use Rattle.aos.specs.Wanted.{text_files}
use Rattle.aos.specs.Fetched.{Had}
use Rattle.aos.specs.Shown.{AreTexts, StopsBy, asks_for, texts_of, Serves, ServesTexts}
use Rattle.aos.proofs.Causes.{on_answer, wanted_for}
use Rattle.aos.proofs.Fetching.{all_came, one_stopped, stops_cause, are_texts}
use Rattle.aos.proofs.command.tell_files.Goals as goal

pub tell_texts-requires : goal.tell_texts-requires
tell_texts-requires g c =
    let shelf = shelf_use g.F.Shelf c.args.shelf.now c.fetch_files.new.shelf in
    let files = borrowed c.args.files.now in
    let had = all_came shelf (text_files files) c.in_ok-texts.field-0 c.in-Texts.texts c.in_ok-texts.ensures.fetched c.in-Texts.is in
    subst (λ xs. AreTexts xs) (sym c.deref.ensures.value) (are_texts shelf.texts files c.in-Texts.texts.items c.requires had)

pub returns-in-Texts : goal.returns-in-Texts
returns-in-Texts g c =
    let shelf = shelf_use g.F.Shelf c.args.shelf.now c.fetch_files.new.shelf in
    let files = borrowed c.args.files.now in
    let command = asks_for c.args.what files in
    let had = all_came shelf (text_files files) c.in_ok-texts.field-0 c.in-Texts.texts c.in_ok-texts.ensures.fetched c.in-Texts.is in
    let wanted = subst (λ ws. Had shelf.texts ws (texts_of c.deref.result.now)) (sym (wanted_for c.args.what files)) (subst (λ xs. Had shelf.texts (text_files files) (texts_of xs)) (sym c.deref.ensures.value) had) in
    on_answer (ServesTexts command (texts_of c.deref.result.now)) (Serves command shelf) c.tell_texts.result (λ a serves. serves shelf wanted) c.tell_texts.ensures

pub returns-in-Stopped : goal.returns-in-Stopped
returns-in-Stopped g c = λ probes words asks.
    let shelf = shelf_use g.F.Shelf c.args.shelf.now c.fetch_files.new.shelf in
    let files = borrowed c.args.files.now in
    let a = c.in-Stopped.answer in
    stops_cause shelf words (asks_for c.args.what files)
    (subst (λ ws. StopsBy shelf ws a.status a.out.items a.err.items) (sym (wanted_for c.args.what files))
    (one_stopped shelf (text_files files) c.in_ok-texts.field-0 a c.in_ok-texts.ensures.fetched c.in-Stopped.is)) asks
