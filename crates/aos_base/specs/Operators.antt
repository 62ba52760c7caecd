-- What the operators on numbers give (Oberon-2 report, 8.2 and 10.3).
use Rattle.std.specs.Prelude.{ℕ, ◌-◌, ◌^◌, ◌&&◌, ℤ, pos, negsuc, ◌+ℤ◌, ◌-ℤ◌, ◌*ℤ◌, neg_ℤ, unsigned_abs, int_lt, int_le, Bool, true, false, Option, Some, None, nat_lt, if◌then◌else◌, bit_and, bit_or, bit_xor}
use Rattle.std.specs.Option.{option_map, option_zip}
use Rattle.std.specs.Int.{w32, int_div_euclid, int_rem_euclid, bit_not, is_in_range}
use Rattle.aos_base.specs.declared.number.Width.{Width}
use Rattle.aos_base.specs.Number.{is_within, if_within, holds, shifted}
use Rattle.aos_base.specs.Set.{span_of, has_of}
use Rattle.aos_base.specs.declared.operator.Unary.{Unary}
use Rattle.aos_base.specs.declared.operator.Unary.TheVariants.{Neg, Abs, Not, Odd, Cap, Compl, Range}
use Rattle.aos_base.specs.declared.operator.Binary.{Binary}
use Rattle.aos_base.specs.declared.operator.Binary.TheVariants.{Add, Sub, Mul, Div, Mod, Ash, Cmp, Union, Minus, Meet, Xor, SetSpan, In}
use Rattle.aos_base.specs.declared.operator.Given.{Given}
use Rattle.aos_base.specs.declared.operator.Given.TheVariants.{Number, Trap, Undefined}

-- TRUE is 1 and FALSE is 0
abbrev pub flag : Bool → ℤ
flag true = pos 1
flag false = pos 0

abbrev pub or_trap : ℕ → Option ℤ → Given
or_trap trap None = Trap trap
or_trap trap (Some z) = Number z

-- a divisor is positive
abbrev pub or_divisor : ℤ → Option ℤ → Given
or_divisor b value = if int_lt (pos 0) b then or_trap 5 value else Trap 6

-- a number from 0 to below a bound
abbrev pub natural : ℕ → ℤ → Option ℕ
natural bound (pos n) = if nat_lt n bound then Some n else None
natural bound (negsuc n) = None

-- an operator isn't defined for each number, as negation isn't for 2
abbrev pub or_undefined : {A : Type 0} → Option A → (A → Given) → Given
or_undefined None k = Undefined
or_undefined (Some x) k = k x

-- an operator of a width takes numbers of that width; how far ASH shifts may be any number
abbrev pub on_width : Width → ℤ → Given → Given
on_width w a g = if is_within w a then g else Undefined

abbrev pub on_widths : Width → ℤ → ℤ → Given → Given
on_widths w a b g = if is_within w a && is_within w b then g else Undefined

abbrev pub set_of : ℤ → Option ℕ
set_of a = natural (2 ^ 32) a

abbrev pub on_sets : (ℕ → ℕ → ℕ) → ℤ → ℤ → Given
on_sets f a b = or_undefined (option_zip (set_of a) (set_of b)) (λ p. Number (pos (f p.0 p.1)))

-- the letters from a to z are 97 to 122, and each capital is 32 before its letter
abbrev pub capital : ℕ → ℕ
capital n = if is_in_range 97 122 n then n - 32 else n

abbrev pub unary : Unary → ℤ → Given
unary (Neg w) a = on_width w a (or_trap 5 (if_within w (neg_ℤ a)))
unary (Abs w) a = on_width w a (or_trap 5 (if_within w (pos (unsigned_abs a))))
unary Not a = or_undefined (natural 2 a) (λ n. Number (pos (1 - n)))
unary Odd a = Number (int_rem_euclid a (pos 2))
unary Cap a = or_undefined (natural 256 a) (λ n. Number (pos (capital n)))
unary Compl a = or_undefined (set_of a) (λ x. Number (pos (bit_not w32 x)))
unary (Range low high) a = if int_le low a && int_le a high then Number a else Trap 14

abbrev pub binary : Binary → ℤ → ℤ → Given
binary (Add w) a b = on_widths w a b (or_trap 5 (if_within w (a +ℤ b)))
binary (Sub w) a b = on_widths w a b (or_trap 5 (if_within w (a -ℤ b)))
binary (Mul w) a b = on_widths w a b (or_trap 5 (if_within w (a *ℤ b)))
binary (Div w) a b = on_widths w a b (or_divisor b (if_within w (int_div_euclid a b)))
binary (Mod w) a b = on_widths w a b (or_divisor b (if_within w (int_rem_euclid a b)))
binary (Ash w) a b = on_width w a (or_trap 5 (if_within w (shifted a b)))
binary (Cmp relation) a b = Number (flag (holds relation a b))
binary Union a b = on_sets bit_or a b
binary Minus a b = on_sets (λ x y. bit_and x (bit_not w32 y)) a b
binary Meet a b = on_sets bit_and a b
binary Xor a b = on_sets bit_xor a b
binary SetSpan a b = or_trap 14 (option_map pos (span_of a b))
binary In a b = or_undefined (set_of b) (λ x. or_trap 14 (option_map flag (has_of x a)))
