use Rattle.std.proofs.Common.{arith, ℕ, ◌+◌, List, Vec, Global, [], ◌∷◌, Option, get_or, sym, subst, ◌∙◌, take}
use Rattle.std.proofs.lemmas.List.{get_or_default}
use Rattle.std.specs.Borrow.{Bor}
use Rattle.aos_dev.specs.Shelf.{Named}
use Rattle.aos_words.specs.Words.{borrowed}
use Rattle.aos.specs.Wanted.{text_file, text_files}
use Rattle.aos.specs.Fetched.{Had}
use Rattle.aos.specs.Shown.{IsFetched, texts_of}
use Rattle.aos.proofs.Fetching.{had_more, stops_at, stops_later, came_text, came_stopped}
use Rattle.aos.proofs.fetch.fetch_files.Goals as goal

abbrev nothing : Bor (List ℕ)
nothing = record { ref_ptr = (0, 0); now = [] }

pub returns-in-Stopped-clause-fetched : goal.returns-in-Stopped-clause-fetched
returns-in-Stopped-clause-fetched g c =
    let files = c.args.files.now in
    let k = c.loop-file.file-index in
    let file = get_or files k nothing in
    let came = c.in_ok-text.field-0 in
    let texts = g.F.Shelf.texts c.args.shelf.now in
    let old = g.F.Shelf.faults c.args.shelf.now in
    let mid = g.F.Shelf.faults c.loop-file.shelf in
    let new = g.F.Shelf.faults c.fetch_file.new.shelf in
    let fetched = subst (λ (t : Option (List Named)). IsFetched (record { texts = t; faults_before = mid; faults_after = new }) (text_file file.now) came) c.loop-file.invariant.1 c.in_ok-text.ensures.fetched in
    stops_at files (record { texts = texts; faults_before = old; faults_after = new }) k file c.loop-file.texts.items c.loop-file-test.true (get_or_default files k nothing file c.loop-file-test.true) c.loop-file.invariant.0
    (stops_later texts old mid new (text_file file.now ∷ []) c.loop-file.invariant.2
    (came_stopped (record { texts = texts; faults_before = mid; faults_after = new }) (text_file file.now) came c.in-Stopped.answer fetched c.in-Stopped.is))

pub loop-file-preserved : goal.loop-file-preserved
loop-file-preserved g c =
    let files = c.args.files.now in
    let k = c.loop-file.file-index in
    let file = get_or files k nothing in
    let came = c.in_ok-text.field-0 in
    let texts = g.F.Shelf.texts c.args.shelf.now in
    let mid = g.F.Shelf.faults c.loop-file.shelf in
    let new = g.F.Shelf.faults c.fetch_file.new.shelf in
    let fetched = subst (λ (t : Option (List Named)). IsFetched (record { texts = t; faults_before = mid; faults_after = new }) (text_file file.now) came) c.loop-file.invariant.1 c.in_ok-text.ensures.fetched in
    let one = came_text (record { texts = texts; faults_before = mid; faults_after = new }) (text_file file.now) came c.in-Text.text fetched c.in-Text.is in
    let more = had_more files texts k file c.loop-file.texts.items c.in-Text.text c.loop-file-test.true (get_or_default files k nothing file c.loop-file-test.true) c.loop-file.invariant.0 one in (
      subst (λ xs. Had texts (text_files (borrowed (take (k + 1) files))) (texts_of xs)) (sym {A = List (Vec ℕ Global)} c.in_ok-keep-in-Text.ensures) more,
      c.in_ok-text.ensures.texts ∙ c.loop-file.invariant.1,
      omega (arith, c.loop-file.invariant.2, c.in_ok-text.ensures.faults),
    )
