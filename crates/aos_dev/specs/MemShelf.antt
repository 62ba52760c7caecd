-- What a shelf in memory means, and which of its calls fail.
use Rattle.std.specs.Prelude.{ℕ, List, map, Contains, String, Vec, string_bytes}
use Rattle.std.specs.declared.alloc.Global.{Global}
use Rattle.aos_dev.specs.declared.mem_shelf.MemShelf.{MemShelf}
use Rattle.aos_dev.specs.Count.{next}
use Rattle.aos_dev.specs.Shelf.{Named}

-- a file as a text under its name
abbrev pub named : (String Global × Vec ℕ Global) → Named
named file = record { name = string_bytes file.0; text = file.1.items }

-- the texts of a shelf in memory
abbrev pub shelf_texts : MemShelf → List Named
shelf_texts shelf = map named shelf.files.items

-- the numbers of the calls that fail
abbrev pub shelf_fails : MemShelf → List ℕ
shelf_fails shelf = shelf.fails.items

-- the calls so far
abbrev pub shelf_calls : MemShelf → ℕ
shelf_calls shelf = shelf.calls

-- the faults so far
abbrev pub shelf_faults : MemShelf → ℕ
shelf_faults shelf = shelf.faults

-- the next call of a shelf is one that fails
abbrev pub ShelfFailsNext : MemShelf → Type 0
ShelfFailsNext shelf = Contains (shelf_fails shelf) (next (shelf_calls shelf))
