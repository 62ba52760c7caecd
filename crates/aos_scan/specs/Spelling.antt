-- What the whole spelling of a token stands for (Active Oberon Language Report, section on vocabulary).
use Rattle.std.specs.Prelude.{ℕ, ◌+◌, ◌*◌, ◌-◌, Bool, ◌==◌, ◌&&◌, if◌then◌else◌, List, [], ◌∷◌, length, take, slice_index, fold, Option, Some, None, codes, unwrap_or, option_map}
use Rattle.std.specs.Char.{is_ascii_digit, is_ascii_alphabetic, digit_value}
use Rattle.std.specs.List.{list_all}
use Rattle.std.specs.Str.{bytes_eq}
use Rattle.aos_scan.specs.Bytes.{is_word_byte, is_hexadecimal, is_quote, is_text_byte}
use Rattle.aos_scan.specs.declared.token.TokenKind.{TokenKind}
use Rattle.aos_scan.specs.declared.token.TokenKind.TheVariants as kind

-- a token without its place; the value is that of a number, the code of a char, and else 0
pub record Lexeme : Type 0 where
  pub kind : TokenKind
  pub value : ℕ

-- a spelling and the kind of token that it is
pub record Row : Type 0 where
  pub spelling : List ℕ
  pub kind : TokenKind

abbrev pub kind_in : List Row → List ℕ → Option TokenKind
kind_in [] w = None
kind_in (row ∷ rows) w = if bytes_eq row.spelling w then Some row.kind else kind_in rows w

unfoldable pub reserved_words : List Row
reserved_words =
    record { spelling = codes "ARRAY"; kind = kind.KwArray }
    ∷ record { spelling = codes "AWAIT"; kind = kind.KwAwait }
    ∷ record { spelling = codes "BEGIN"; kind = kind.KwBegin }
    ∷ record { spelling = codes "BY"; kind = kind.KwBy }
    ∷ record { spelling = codes "CASE"; kind = kind.KwCase }
    ∷ record { spelling = codes "CONST"; kind = kind.KwConst }
    ∷ record { spelling = codes "DIV"; kind = kind.KwDiv }
    ∷ record { spelling = codes "DO"; kind = kind.KwDo }
    ∷ record { spelling = codes "ELSE"; kind = kind.KwElse }
    ∷ record { spelling = codes "ELSIF"; kind = kind.KwElsif }
    ∷ record { spelling = codes "END"; kind = kind.KwEnd }
    ∷ record { spelling = codes "EXIT"; kind = kind.KwExit }
    ∷ record { spelling = codes "FOR"; kind = kind.KwFor }
    ∷ record { spelling = codes "IF"; kind = kind.KwIf }
    ∷ record { spelling = codes "IMPORT"; kind = kind.KwImport }
    ∷ record { spelling = codes "IN"; kind = kind.KwIn }
    ∷ record { spelling = codes "IS"; kind = kind.KwIs }
    ∷ record { spelling = codes "LOOP"; kind = kind.KwLoop }
    ∷ record { spelling = codes "MOD"; kind = kind.KwMod }
    ∷ record { spelling = codes "MODULE"; kind = kind.KwModule }
    ∷ record { spelling = codes "NIL"; kind = kind.KwNil }
    ∷ record { spelling = codes "OBJECT"; kind = kind.KwObject }
    ∷ record { spelling = codes "OF"; kind = kind.KwOf }
    ∷ record { spelling = codes "OR"; kind = kind.KwOr }
    ∷ record { spelling = codes "POINTER"; kind = kind.KwPointer }
    ∷ record { spelling = codes "PROCEDURE"; kind = kind.KwProcedure }
    ∷ record { spelling = codes "RECORD"; kind = kind.KwRecord }
    ∷ record { spelling = codes "REPEAT"; kind = kind.KwRepeat }
    ∷ record { spelling = codes "RETURN"; kind = kind.KwReturn }
    ∷ record { spelling = codes "THEN"; kind = kind.KwThen }
    ∷ record { spelling = codes "TO"; kind = kind.KwTo }
    ∷ record { spelling = codes "TYPE"; kind = kind.KwType }
    ∷ record { spelling = codes "UNTIL"; kind = kind.KwUntil }
    ∷ record { spelling = codes "VAR"; kind = kind.KwVar }
    ∷ record { spelling = codes "WHILE"; kind = kind.KwWhile }
    ∷ record { spelling = codes "WITH"; kind = kind.KwWith }
    ∷ []

unfoldable pub symbols : List Row
symbols =
    record { spelling = codes "+"; kind = kind.Plus }
    ∷ record { spelling = codes "-"; kind = kind.Minus }
    ∷ record { spelling = codes "*"; kind = kind.Star }
    ∷ record { spelling = codes "/"; kind = kind.Slash }
    ∷ record { spelling = codes "~"; kind = kind.Tilde }
    ∷ record { spelling = codes "&"; kind = kind.Ampersand }
    ∷ record { spelling = codes "."; kind = kind.Period }
    ∷ record { spelling = codes ","; kind = kind.Comma }
    ∷ record { spelling = codes ";"; kind = kind.Semicolon }
    ∷ record { spelling = codes "|"; kind = kind.Bar }
    ∷ record { spelling = codes "("; kind = kind.OpenParen }
    ∷ record { spelling = codes "["; kind = kind.OpenBracket }
    ∷ record { spelling = codes "{"; kind = kind.OpenBrace }
    ∷ record { spelling = codes "^"; kind = kind.Caret }
    ∷ record { spelling = codes "="; kind = kind.Equals }
    ∷ record { spelling = codes "#"; kind = kind.NotEquals }
    ∷ record { spelling = codes "<"; kind = kind.Less }
    ∷ record { spelling = codes "<="; kind = kind.LessEqual }
    ∷ record { spelling = codes ">"; kind = kind.Greater }
    ∷ record { spelling = codes ">="; kind = kind.GreaterEqual }
    ∷ record { spelling = codes ":="; kind = kind.Becomes }
    ∷ record { spelling = codes ":"; kind = kind.Colon }
    ∷ record { spelling = codes ".."; kind = kind.Range }
    ∷ record { spelling = codes ")"; kind = kind.CloseParen }
    ∷ record { spelling = codes "]"; kind = kind.CloseBracket }
    ∷ record { spelling = codes "}"; kind = kind.CloseBrace }
    ∷ []

-- the number that digits stand for in a base
abbrev pub value_of : ℕ → List ℕ → ℕ
value_of base digits = fold (λ value digit. value * base + digit_value digit) 0 digits

-- all bytes but the last, and the last
abbrev pub front : List ℕ → List ℕ
front w = take (length w - 1) w

abbrev pub last : List ℕ → ℕ
last w = slice_index w (length w - 1)

-- bytes that pass the test, and then this byte
abbrev pub is_run_then : (ℕ → Bool) → ℕ → List ℕ → Bool
is_run_then test b w = list_all test (front w) && last w == b

-- a name, or a reserved word
abbrev pub word_kind : List ℕ → TokenKind
word_kind w = unwrap_or (kind_in reserved_words w) kind.Ident

abbrev pub word : List ℕ → Option Lexeme
word w = if list_all is_word_byte w then Some (record { kind = word_kind w; value = 0 }) else None

-- decimal digits, or hexadecimal digits with an H (72) for a number and an X (88) for a char
abbrev pub number : List ℕ → Option Lexeme
number w =
    if list_all is_ascii_digit w then Some (record { kind = kind.Number; value = value_of 10 w })
    else (if is_run_then is_hexadecimal 72 w then Some (record { kind = kind.Number; value = value_of 16 (front w) })
    else (if is_run_then is_hexadecimal 88 w then Some (record { kind = kind.Char; value = value_of 16 (front w) })
    else None))

-- after the quote: bytes that may stand in it, and the quote again
abbrev pub text : ℕ → List ℕ → Option Lexeme
text quote w =
    if is_run_then (is_text_byte quote) quote w then Some (record { kind = kind.Text; value = 0 }) else None

abbrev pub symbol : List ℕ → Option Lexeme
symbol w = option_map (λ k. record { kind = k; value = 0 }) (kind_in symbols w)

-- what the bytes stand for, if they are the whole spelling of a token
unfoldable pub lexeme : List ℕ → Option Lexeme
lexeme [] = None
lexeme (b ∷ w) =
    if is_ascii_alphabetic b then word (b ∷ w)
    else (if is_ascii_digit b then number (b ∷ w)
    else (if is_quote b then text b w
    else symbol (b ∷ w)))
