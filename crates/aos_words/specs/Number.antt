-- Numbers as words write them.
use Rattle.std.specs.Prelude.{ℕ, Bool, List, ◌&&◌, nat_le, length, Option, Some, None}
use Rattle.std.specs.Prelude.{if◌then◌else◌}
use Rattle.std.specs.List.{list_all}
use Rattle.std.specs.Str.Parse.{digits_value}

-- a decimal digit, from `0` to `9`
abbrev pub is_digit : ℕ → Bool
is_digit byte = nat_le 48 byte && nat_le byte 57

-- 1 to 10 decimal digits
abbrev pub is_number : List ℕ → Bool
is_number word = (nat_le 1 (length word) && nat_le (length word) 10) && list_all is_digit word

-- the number that a word writes, where it is one from least to most
abbrev pub number_in : ℕ → ℕ → List ℕ → Option ℕ
number_in least most word =
    if is_number word
    && (nat_le least (digits_value 10 word) && nat_le (digits_value 10 word) most)
    then Some (digits_value 10 word) else None
