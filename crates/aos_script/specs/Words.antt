-- The lines of a text, and the words of a line.
use Rattle.std.specs.Prelude.{ℕ, ◌==◌, List, [], ◌∷◌, Option, Some, None}
use denote.Ref.{Bor}
use Rattle.std.specs.List.{slice_split}
use Rattle.std.specs.Io.BufRead.{strip_last}

-- what stands before, between and behind the places of a byte
unfoldable pub parts : ℕ → List ℕ → List (List ℕ)
parts byte text = slice_split (λ b. b == byte) text

-- Each line ends with the byte 10, which the last one may lack. (An empty text has no line.)
abbrev pub lines : List ℕ → List (List ℕ)
lines [] = []
lines (b ∷ text) = parts 10 (strip_last 10 (b ∷ text))

-- words are parted by one blank
abbrev pub words : List ℕ → List (List ℕ)
words line = parts 32 line

-- the parts of what is left, if anything is
abbrev pub parts_left : ℕ → Option (Bor (List ℕ)) → List (List ℕ)
parts_left byte None = []
parts_left byte (Some text) = parts byte text.now

abbrev pub lines_left : Option (Bor (List ℕ)) → List (List ℕ)
lines_left left = parts_left 10 left
