-- What an operator gives of numbers, by the kinds of operators: a number that a value of the type is given as, or a trap.
use Rattle.std.proofs.Common.{◌≡◌, ℕ, zero, suc, ◌-◌, ◌≤◌, ◌≤ℤ◌, ◌<◌, ◌%◌, ◌^◌, ℤ, pos, negsuc, int_le, Bool, true, false, ◌&&◌, Option, Some, None, if◌then◌else◌, refl, sym, subst, arith}
use Rattle.std.specs.Prelude.{nat_lt, option_map, option_and_then}
use Rattle.std.specs.Int.{int_rem_euclid}
use Rattle.std.proofs.Math.Nat.{pow-le-pow_right}
use Rattle.std.proofs.lemmas.Bool.{ltb-true, lt-ltb, and_parts}
use Rattle.std.proofs.lemmas.Nat.{pow_pos}
use Rattle.std.proofs.lemmas.Int.{ints}
use Rattle.aos_base.specs.declared.number.Width.{Width}
use Rattle.aos_base.specs.declared.operator.Unary.TheVariants.{Range}
use Rattle.aos_base.specs.declared.operator.Given.{Given}
use Rattle.aos_base.specs.declared.operator.Given.TheVariants.{Number, Trap, Undefined}
use Rattle.aos_base.specs.Number.{greatest, IsWithin, is_within, if_within}
use Rattle.aos_base.specs.Set.{element, span}
use Rattle.aos_base.specs.Operators.{flag, or_trap, natural, on_sets, unary as unary_of}
use Rattle.aos_typed.specs.declared.tree.TType.{TType}
use Rattle.aos_typed.specs.declared.tree.TType.TheVariants as type
use Rattle.aos_typed.specs.Value.{Value, number_of, Sort, Integer, Boolean, Character, Elements, value_as}
use Rattle.aos_typed.specs.WellTyped.{Includes}
use Rattle.aos_sim.proofs.Types.{IsValueOf, included}

-- what an operator gives is the number of a value of this type, or a trap of the language
abbrev pub Agrees : TType → Sort → Given → Type 0
Agrees t k (Number z) = IsValueOf t (value_as k z) × (number_of (value_as k z) ≡ z)
Agrees t k (Trap n) = n < 16
Agrees t k Undefined = ⊥

-- what is given of operands that are as an operator takes them
pub agrees_if : (t : TType) (k : Sort) (g : Given) (b : Bool) → b ≡ true → Agrees t k g → Agrees t k (if b then g else Undefined)
agrees_if t k g b e a = subst (λ c. Agrees t k (if c then g else Undefined)) (sym e) a

pub is_least : (a b : ℤ) → a ≤ℤ b → int_le a b ≡ true
is_least a b h = by (int_le a b) refl
  where
    by : (c : Bool) → int_le a b ≡ c → c ≡ true
    by true e = refl
    by false e = absurd (omega (arith, ints, e, h))

-- a value of an integer type is of its width
pub of_width : (w : Width) (v : Value) → IsValueOf (type.Integer w) v → is_within w (number_of v) ≡ true
of_width w v h = subst (λ x. is_within w (number_of x) ≡ true) (sym h.1) (λ i. is_least (negsuc (greatest w)) h.0 h.2.low i && is_least h.0 (pos (greatest w)) h.2.high i)

pub of_widths : (w : Width) (a b : Value) → IsValueOf (type.Integer w) a → IsValueOf (type.Integer w) b → (is_within w (number_of a) && is_within w (number_of b)) ≡ true
of_widths w a b g h = λ i. of_width w a g i && of_width w b h i

-- each type that has all values of another
agrees_along : (t u : TType) (k : Sort) (g : Given) → ((v : Value) → IsValueOf u v → IsValueOf t v) → Agrees u k g → Agrees t k g
agrees_along t u k (Number z) more a = (more (value_as k z) a.0, a.1)
agrees_along t u k (Trap n) more a = a
agrees_along t u k Undefined more a = a

number_within : (w : Width) (z : ℤ) (b : Bool) → is_within w z ≡ b → Agrees (type.Integer w) Integer (or_trap 5 (if b then Some z else None))
number_within w z true e = let p = and_parts (int_le (negsuc (greatest w)) z) (int_le z (pos (greatest w))) e in ((z, refl, record { low = omega (arith, ints, p.0); high = omega (arith, ints, p.1) }), refl)
number_within w z false e = omega arith

-- a number of a width, or trap 5
pub if_within_agrees : (w : Width) (t : TType) (z : ℤ) → Includes t (type.Integer w) → Agrees t Integer (or_trap 5 (if_within w z))
if_within_agrees w t z i = agrees_along t (type.Integer w) Integer (or_trap 5 (if_within w z)) (λ v. included t (type.Integer w) v i) (number_within w z _ refl)

-- what a division gives, or trap 6
pub divisor_agrees : (w : Width) (t : TType) (z : ℤ) (b : Bool) → Includes t (type.Integer w) → Agrees t Integer (if b then or_trap 5 (if_within w z) else Trap 6)
divisor_agrees w t z true i = if_within_agrees w t z i
divisor_agrees w t z false i = omega arith

bit_agrees : (n : ℕ) → n < 2 → Agrees type.Boolean Boolean (Number (pos n))
bit_agrees zero h = ((false, refl), refl)
bit_agrees (suc zero) h = ((true, refl), refl)
bit_agrees (suc (suc n)) h = absurd (omega arith)

-- the remainder by 2
pub odd_agrees : (a : ℤ) → Agrees type.Boolean Boolean (Number (int_rem_euclid a (pos 2)))
odd_agrees (pos a) = bit_agrees (a % 2) (omega arith)
odd_agrees (negsuc a) = bit_agrees (2 - 1 - a % 2) (omega arith)

pub flag_agrees : (b : Bool) → Agrees type.Boolean Boolean (Number (flag b))
flag_agrees true = ((true, refl), refl)
flag_agrees false = ((false, refl), refl)

-- whether a number is in a set, or trap 14
pub member_agrees : (o : Option Bool) → Agrees type.Boolean Boolean (or_trap 14 (option_map flag o))
member_agrees None = omega arith
member_agrees (Some b) = flag_agrees b

-- a number below the bound
pub natural_is : (bound n : ℕ) → n < bound → natural bound (pos n) ≡ Some n
natural_is bound n h = rw (lt-ltb n bound h) refl

pub capital_below : (n : ℕ) (b : Bool) → n < 256 → (if b then n - 32 else n) < 256
capital_below n true h = omega arith
capital_below n false h = h

pub set_agrees : (n : ℕ) → n < 2 ^ 32 → Agrees type.Set Elements (Number (pos n))
set_agrees n h = ((n, refl, h), refl)

-- a set of two sets
pub sets_agree : (f : ℕ → ℕ → ℕ) (a b : Value) → ((x y : ℕ) → x < 2 ^ 32 → y < 2 ^ 32 → f x y < 2 ^ 32) → IsValueOf type.Set a → IsValueOf type.Set b → Agrees type.Set Elements (on_sets f (number_of a) (number_of b))
sets_agree f a b below ha hb =
    subst (λ v. Agrees type.Set Elements (on_sets f (number_of v) (number_of b))) (sym ha.1)
    (subst (λ v. Agrees type.Set Elements (on_sets f (pos ha.0) (number_of v))) (sym hb.1)
    (rw (natural_is (2 ^ 32) ha.0 ha.2, natural_is (2 ^ 32) hb.0 hb.2) (set_agrees (f ha.0 hb.0) (below ha.0 hb.0 ha.2 hb.2))))

pub element_below : (z : ℤ) (x : ℕ) → element z ≡ Some x → x < 32
element_below (pos n) x e = by (nat_lt n 32) refl e
  where
    by : (b : Bool) → nat_lt n 32 ≡ b → (if b then Some n else None) ≡ Some x → x < 32
    by true t e' = let h : n ≡ x = cc in omega (arith, ltb-true n 32 t)
    by false t e' = absurd (cc)
element_below (negsuc n) x e = absurd (cc)

span_below : (x y : ℕ) → y < 32 → span x y < 2 ^ 32
span_below x y h =
    let le : 2 ^ suc y ≤ 2 ^ 32 = pow-le-pow_right (omega arith) {i = suc y} {j = 32} (omega arith) in
    omega (arith, pow_pos x, pow_pos (suc y))

-- the set of the elements from one to another, or trap 14
pub span_agrees : (o o' : Option ℕ) → ((y : ℕ) → o' ≡ Some y → y < 32) → Agrees type.Set Elements (or_trap 14 (option_map pos (option_and_then (λ x. option_map (span x) o') o)))
span_agrees None o' below = omega arith
span_agrees (Some x) None below = omega arith
span_agrees (Some x) (Some y) below = set_agrees (span x y) (span_below x y (below y refl))

-- a number in bounds, or trap 14
pub range_agrees : (low high z : ℤ) (w : Width) (b : Bool) → (int_le low z && int_le z high) ≡ b → IsWithin w low → IsWithin w high → Agrees (type.Integer w) Integer (if b then Number z else Trap 14)
range_agrees low high z w true e l h =
    let p = and_parts (int_le low z) (int_le z high) e in
    ((z, refl, record { low = omega (arith, ints, p.0, l.low); high = omega (arith, ints, p.1, h.high) }), refl)
range_agrees low high z w false e l h = omega arith

code_agrees : (z : ℤ) (b : Bool) → (int_le (pos 0) z && int_le z (pos 255)) ≡ b → Agrees type.Char Character (if b then Number z else Trap 14)
code_agrees (pos n) true e = let p = and_parts (int_le (pos 0) (pos n)) (int_le (pos n) (pos 255)) e in ((n, refl, omega (arith, ints, p.1)), refl)
code_agrees (negsuc n) true e = absurd (cc)
code_agrees z false e = omega arith

-- the character of a code, or trap 14
pub chr_agrees : (z : ℤ) → Agrees type.Char Character (unary_of (Range (pos 0) (pos 255)) z)
chr_agrees z = code_agrees z _ refl

pub agrees_at : (t u : TType) (k : Sort) (g : Given) → t ≡ u → Agrees u k g → Agrees t k g
agrees_at t u k g e a = subst (λ x. Agrees x k g) (sym e) a
