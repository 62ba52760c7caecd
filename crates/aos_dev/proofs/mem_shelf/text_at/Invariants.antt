use Rattle.std.proofs.Common.{◌≡◌, map, drop}
use Rattle.aos_dev.specs.Shelf.{text_of}
use Rattle.aos_dev.specs.MemShelf.{named}
use Rattle.aos_dev.proofs.mem_shelf.text_at.Given as goal

-- no file before this one has the name
abbrev pub invariant-loop-file : goal.invariant-loop-file
invariant-loop-file l =
    text_of (map named l.files) l.name ≡ text_of (map named (drop l.file-index l.files)) l.name
