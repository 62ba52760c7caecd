-- Lines and columns, each counted from 1: a line ends with its byte 10, and every byte is one column.
use Rattle.std.specs.Prelude.{ℕ, ◌+◌, ◌==◌, not, List, take, count_by}
use Rattle.std.specs.List.{suffix_len}
use Rattle.aos_base.specs.declared.text.Pos.{Pos}

-- the line ends before the place
abbrev pub line_of : List ℕ → ℕ → ℕ
line_of text at = 1 + count_by (λ b. b == 10) (take at text)

-- the bytes between the last line end and the place
abbrev pub column_of : List ℕ → ℕ → ℕ
column_of text at = 1 + suffix_len (λ b. not (b == 10)) (take at text)

abbrev pub position : List ℕ → ℕ → Pos
position text at = record { line = line_of text at; col = column_of text at }
