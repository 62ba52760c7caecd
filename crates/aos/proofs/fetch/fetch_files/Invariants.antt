use Rattle.std.proofs.Common.{◌≡◌, ◌≤◌, take}
use Rattle.aos_words.specs.Words.{borrowed}
use Rattle.aos.specs.Wanted.{text_files}
use Rattle.aos.specs.Fetched.{Had}
use Rattle.aos.specs.Shown.{texts_of}
use Rattle.aos.proofs.fetch.fetch_files.Given as goal

-- the files so far are had
abbrev pub invariant-loop-file : goal.invariant-loop-file
invariant-loop-file g l =
    Had (g.F.Shelf.texts l.fn.shelf) (text_files (borrowed (take l.file-index l.files))) (texts_of l.texts.items)
    × (g.F.Shelf.texts l.shelf ≡ g.F.Shelf.texts l.fn.shelf)
    × (g.F.Shelf.faults l.fn.shelf ≤ g.F.Shelf.faults l.shelf)
