-- The reserved words of one length.
use Rattle.std.specs.Prelude.{ℕ, List, ◌==◌, length, filter, unwrap_or}
use Rattle.aos_scan.specs.declared.token.TokenKind.{TokenKind}
use Rattle.aos_scan.specs.declared.token.TokenKind.TheVariants.{Ident}
use Rattle.aos_scan.specs.Spelling.{Row, kind_in, reserved_words}

abbrev pub words_of_length : ℕ → List Row
words_of_length n = filter (λ row. length row.spelling == n) reserved_words

-- the kind of a word of this length
abbrev pub kind_of_length : ℕ → List ℕ → TokenKind
kind_of_length n w = unwrap_or (kind_in (words_of_length n) w) Ident
