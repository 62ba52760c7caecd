-- The integers of each width, in two's complement (Active Oberon Language Report, section on basic types).
use Rattle.std.specs.Prelude.{ℕ, zero, ◌-◌, ◌++◌, ◌&&◌, List, [], ◌∷◌, replicate, length, ℤ, pos, negsuc, ◌≤ℤ◌, ◌*ℤ◌, ◌^◌, suc, Bool, not, int_lt, int_le, Option, Some, None, nat_le, if◌then◌else◌}
use Rattle.std.specs.Ordering.{int_eq}
use Rattle.std.specs.Int.{int_div_euclid}
use Rattle.std.specs.Fmt.{signed_decimal}
use Rattle.aos_base.specs.declared.number.Width.{Width}
use Rattle.aos_base.specs.declared.number.Width.TheVariants.{W8, W16, W32, W64}
use Rattle.aos_base.specs.declared.number.Relation.{Relation}
use Rattle.aos_base.specs.declared.number.Relation.TheVariants.{Equal, NotEqual, Less, LessEqual, Greater, GreaterEqual}

abbrev pub greatest : Width → ℕ
greatest W8 = 127
greatest W16 = 32767
greatest W32 = 2147483647
greatest W64 = 9223372036854775807

abbrev pub holds : Relation → ℤ → ℤ → Bool
holds Equal a b = int_eq a b
holds NotEqual a b = not (int_eq a b)
holds Less a b = int_lt a b
holds LessEqual a b = int_le a b
holds Greater a b = int_lt b a
holds GreaterEqual a b = int_le b a

-- an integer is one of the width
pub record IsWithin (w : Width) (z : ℤ) : Type 0 where
  pub low : negsuc (greatest w) ≤ℤ z
  pub high : z ≤ℤ pos (greatest w)

abbrev pub is_within : Width → ℤ → Bool
is_within w z = int_le (negsuc (greatest w)) z && int_le z (pos (greatest w))

-- a sum and a difference of a width, where they are in it
abbrev pub if_within : Width → ℤ → Option ℤ
if_within w z = if is_within w z then Some z else None

-- a times 2 to the power b, rounded down (Oberon-2 report, 10.3)
abbrev pub shifted : ℤ → ℤ → ℤ
shifted a (pos n) = a *ℤ pos (2 ^ n)
shifted a (negsuc n) = int_div_euclid a (pos (2 ^ suc n))

-- in decimal, with blanks before it up to this many places (Oakwood Guidelines, module Out)
abbrev pub right_justified : ℤ → ℕ → List ℕ
right_justified z places = replicate (places - length (signed_decimal z)) 32 ++ signed_decimal z

-- the lengths with which an open array is made: none is below 1
abbrev pub with_length : ℤ → Option (List ℕ) → Option (List ℕ)
with_length z None = None
with_length (pos zero) (Some ns) = None
with_length (pos (suc n)) (Some ns) = Some (suc n ∷ ns)
with_length (negsuc n) (Some ns) = None

abbrev pub array_lengths : List ℤ → Option (List ℕ)
array_lengths [] = Some []
array_lengths (z ∷ zs) = with_length z (array_lengths zs)

-- the number of places must be 0 to 255
abbrev pub places_of : ℤ → Option ℕ
places_of (pos n) = if nat_le n 255 then Some n else None
places_of (negsuc n) = None

abbrev pub justified : ℤ → Option ℕ → Option (List ℕ)
justified z None = None
justified z (Some places) = Some (right_justified z places)
