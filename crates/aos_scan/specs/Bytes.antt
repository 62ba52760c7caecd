-- Which bytes stand in blanks, names, numbers and strings (Active Oberon Language Report, section on vocabulary).
use Rattle.std.specs.Prelude.{ℕ, Bool, ◌==◌, ◌&&◌, ◌||◌, not, nat_le}
use Rattle.std.specs.Char.{is_ascii_digit, is_ascii_alphabetic}
use Rattle.aos_scan.specs.declared.run.Class.{Class}
use Rattle.aos_scan.specs.declared.run.Class.TheVariants.{Word, Decimal, Hexadecimal, Inside}

-- a tab, the two line ends, or a space
abbrev pub is_blank : ℕ → Bool
is_blank b = (b == 9 || b == 10) || (b == 13 || b == 32)

abbrev pub is_word_byte : ℕ → Bool
is_word_byte b = (is_ascii_alphabetic b || is_ascii_digit b) || b == 95

abbrev pub is_hexadecimal : ℕ → Bool
is_hexadecimal b = is_ascii_digit b || (nat_le 65 b && nat_le b 70)

abbrev pub is_quote : ℕ → Bool
is_quote b = b == 34 || b == 39

-- what may stand between two of these quotes: a tab, or a byte from 32 to 126, but not the quote
abbrev pub is_text_byte : ℕ → ℕ → Bool
is_text_byte quote b = (b == 9 || (nat_le 32 b && nat_le b 126)) && not (b == quote)

-- the bytes of a class
abbrev pub is_in : Class → ℕ → Bool
is_in Word b = is_word_byte b
is_in Decimal b = is_ascii_digit b
is_in Hexadecimal b = is_hexadecimal b
is_in (Inside quote) b = is_text_byte quote b
