-- A number that is told where it is of a width is the one that the operators ask for.
use Rattle.std.proofs.Common.{◌≡◌, ◌&&◌, ℤ, pos, negsuc, int_le, int_lt, Bool, true, false, ◌<ℤ◌, arith, Option, Some, None, ap, ◌∙◌, refl}
use Rattle.std.specs.Prelude.{if◌then◌else◌}
use Rattle.std.specs.Option.{SomeIff}
use Rattle.std.proofs.lemmas.Bool.{and_parts}
use Rattle.std.proofs.lemmas.Int.{ints}
use Rattle.aos_base.specs.declared.number.Width.{Width}
use Rattle.aos_base.specs.declared.operator.Given.{Given}
use Rattle.aos_base.specs.declared.operator.Given.TheVariants.{Trap, Undefined}
use Rattle.aos_base.specs.Number.{greatest, IsWithin, is_within, if_within}
use Rattle.aos_base.specs.Operators.{on_widths, or_divisor, or_trap}

is_one : (w : Width) (z : ℤ) → is_within w z ≡ true → IsWithin w z
is_one w z e =
    let q = and_parts (int_le (negsuc (greatest w)) z) (int_le z (pos (greatest w))) e in
    record { low = omega (arith, ints, q.0); high = omega (arith, ints, q.1) }

is_none : (w : Width) (z : ℤ) → is_within w z ≡ false → IsWithin w z → ⊥
is_none w z e h = by (int_le (negsuc (greatest w)) z) (int_le z (pos (greatest w))) refl refl e
  where
    by : (a b : Bool) → int_le (negsuc (greatest w)) z ≡ a → int_le z (pos (greatest w)) ≡ b → (a && b) ≡ false → ⊥
    by true true p q r = cc r
    by true false p q r = omega (arith, ints, h.high, q)
    by false b p q r = omega (arith, ints, h.low, p)

pub if_some : (w : Width) (z : ℤ) (o : Option ℤ) → SomeIff o (IsWithin w z) z → o ≡ if_within w z
if_some w z o h = by o (is_within w z) refl h
  where
    by : (o : Option ℤ) (b : Bool) → is_within w z ≡ b → SomeIff o (IsWithin w z) z → o ≡ (if b then Some z else None)
    by None true e h = absurd (h (is_one w z e))
    by None false e h = refl
    by (Some x) true e h = ap Some h.1
    by (Some x) false e h = absurd (is_none w z e h.0)

pub if_divided : (w : Width) (b z : ℤ) (o : Option ℤ) → SomeIff o ((pos 0 <ℤ b) × IsWithin w z) z → or_divisor b o ≡ or_divisor b (if_within w z)
if_divided w b z o h = by (int_lt (pos 0) b) refl
  where
    only : int_lt (pos 0) b ≡ true → (o : Option ℤ) → SomeIff o ((pos 0 <ℤ b) × IsWithin w z) z → SomeIff o (IsWithin w z) z
    only e None h = λ q. h (omega (arith, ints, e), q)
    only e (Some x) h = (h.0.1, h.1)

    by : (t : Bool) → int_lt (pos 0) b ≡ t → (if t then or_trap 5 o else Trap 6) ≡ (if t then or_trap 5 (if_within w z) else Trap 6)
    by true e = ap (or_trap 5) (if_some w z o (only e o h))
    by false e = refl

pub if_both : (w : Width) (a b : ℤ) (t : Bool) (v g r : Given) → r ≡ (if t then v else Undefined) → t ≡ (is_within w a && is_within w b) → v ≡ g → r ≡ on_widths w a b g
if_both w a b t v g r e f h = e ∙ (λ i. if f i then h i else Undefined)
