use Rattle.std.proofs.Common.{List, [], ◌∷◌, Option, sym, subst}
use Rattle.aos_dev.specs.Shelf.{Named}
use Rattle.aos_words.specs.Words.{Replay, borrowed}
use Rattle.aos.specs.Call.{shelf_use}
use Rattle.aos.specs.Wanted.{script_file, text_files}
use Rattle.aos.specs.Shown.{AreTexts, AreFetched}
use Rattle.aos.proofs.Fetching.{came_text, came_stopped, all_came, one_stopped, stops_before, stops_behind, stops_later, stops_cause, are_texts}
use Rattle.aos.proofs.command.replay_files.Goals as goal

pub replay_listing-requires-clause-texts : goal.replay_listing-requires-clause-texts
replay_listing-requires-clause-texts g c =
    let shelf = shelf_use g.F.Shelf c.fetch_file.new.shelf c.fetch_files.new.shelf in
    let files = borrowed c.args.files.now in
    let had = all_came shelf (text_files files) c.in_ok-texts.field-0 c.in-Texts.texts c.in_ok-texts.ensures.fetched c.in-Texts.is in
    subst (λ xs. AreTexts xs) (sym c.deref-2.ensures.value) (are_texts shelf.texts files c.in-Texts.texts.items c.requires had)

pub returns-in-Stopped : goal.returns-in-Stopped
returns-in-Stopped g c = λ words asks.
    let shelf = shelf_use g.F.Shelf c.args.shelf.now c.fetch_file.new.shelf in
    let files = borrowed c.args.files.now in
    let script = script_file c.args.name.now in
    stops_cause shelf words (Replay c.args.name.now c.args.watch files)
    (stops_before shelf (script ∷ []) (text_files files) (came_stopped shelf script c.in_ok-listing.field-0 c.in-Stopped.answer c.in_ok-listing.ensures.fetched c.in-Stopped.is)) asks

pub returns-in-Stopped-2 : goal.returns-in-Stopped-2
returns-in-Stopped-2 g c = λ words asks.
    let texts = g.F.Shelf.texts c.args.shelf.now in
    let old = g.F.Shelf.faults c.args.shelf.now in
    let mid = g.F.Shelf.faults c.fetch_file.new.shelf in
    let new = g.F.Shelf.faults c.fetch_files.new.shelf in
    let files = text_files (borrowed c.args.files.now) in
    let script = script_file c.args.name.now in
    let listing = c.in-Text.listing in
    let fetched = subst (λ (t : Option (List Named)). AreFetched (record { texts = t; faults_before = mid; faults_after = new }) files c.in_ok-texts.field-0) c.in_ok-listing.ensures.texts c.in_ok-texts.ensures.fetched in
    stops_cause (record { texts = texts; faults_before = old; faults_after = new }) words (Replay c.args.name.now c.args.watch (borrowed c.args.files.now))
    (stops_behind (record { texts = texts; faults_before = old; faults_after = new }) (script ∷ []) files (listing.items ∷ [])
    (came_text (record { texts = texts; faults_before = old; faults_after = mid }) script c.in_ok-listing.field-0 listing c.in_ok-listing.ensures.fetched c.in-Text.is)
    (stops_later texts old mid new files c.in_ok-listing.ensures.faults
    (one_stopped (record { texts = texts; faults_before = mid; faults_after = new }) files c.in_ok-texts.field-0 c.in-Stopped-2.answer fetched c.in-Stopped-2.is))) asks
