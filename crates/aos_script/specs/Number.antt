-- Numbers as a script writes them.
use Rattle.std.specs.Prelude.{◌≡◌, ℕ, List, length, slice_index, min, ◌^◌, ◌-◌}
use Rattle.std.specs.Str.Parse.{IsNumeral, digits_value}

-- decimal digits without a leading zero, 0 itself excepted
pub record IsNumber (word : List ℕ) (n : ℕ) : Type 0 where
  pub digits : IsNumeral 10 word
  pub plain : slice_index word 0 ≡ 48 → length word ≡ 1
  pub value : digits_value 10 word ≡ n

-- the number that a word writes, or the greatest of 64 bits where it is more
pub record IsCapped (word : List ℕ) (n : ℕ) : Type 0 where
  pub exact : ℕ
  pub number : IsNumber word exact
  pub capped : n ≡ min exact (2 ^ 64 - 1)
