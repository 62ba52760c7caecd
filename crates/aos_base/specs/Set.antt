-- Sets of the numbers 0 to 31 (Oberon-2 report, 6.1). A set is a number below 2 to the power 32: n is in it where its bit n
-- is 1.
use Rattle.std.specs.Prelude.{ℕ, suc, ◌-◌, ◌^◌, ◌==◌, ℤ, pos, negsuc, Bool, Option, Some, None, nat_lt, if◌then◌else◌, option_and_then}
use Rattle.std.specs.Option.{option_map}
use Rattle.std.specs.Int.{bit_at}

-- an element is 0 to 31
abbrev pub element : ℤ → Option ℕ
element (pos n) = if nat_lt n 32 then Some n else None
element (negsuc n) = None

abbrev pub has : ℕ → ℕ → Bool
has set n = bit_at set n == 1

-- the elements from a up to b; none where a is greater
abbrev pub span : ℕ → ℕ → ℕ
span a b = 2 ^ suc b - 2 ^ a

abbrev pub span_of : ℤ → ℤ → Option ℕ
span_of a b = option_and_then (λ x. option_map (span x) (element b)) (element a)

abbrev pub has_of : ℕ → ℤ → Option Bool
has_of set x = option_map (has set) (element x)
