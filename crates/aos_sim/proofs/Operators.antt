-- Each operator gives values of the types that it is said to give, of operands of the types that it takes.
use Rattle.std.proofs.Common.{◌≡◌, ◌^◌, pos, ◌+ℤ◌, ◌-ℤ◌, int_lt, unsigned_abs, Bool, true, false, ◌&&◌, refl, sym, subst, arith}
use Rattle.std.specs.Prelude.{neg_ℤ, ◌*ℤ◌}
use Rattle.std.specs.Int.{w32, int_div_euclid, int_rem_euclid, bit_not, is_in_range}
use Rattle.std.proofs.lemmas.Nat.{and_le_l, or_of_32, xor_of_32}
use Rattle.aos_base.specs.declared.number.Width.TheVariants.{W64}
use Rattle.aos_base.specs.declared.number.Relation.{Relation}
use Rattle.aos_base.specs.declared.number.Relation.TheVariants as relation
use Rattle.aos_base.specs.declared.operator.Unary.{Unary as UnaryOperator}
use Rattle.aos_base.specs.declared.operator.Unary.TheVariants.{Neg, Abs, Not, Odd, Cap, Compl, Range}
use Rattle.aos_base.specs.declared.operator.Binary.{Binary as BinaryOperator}
use Rattle.aos_base.specs.declared.operator.Binary.TheVariants.{Add, Sub, Mul, Div, Mod, Ash, Cmp, Union, Minus, Meet, Xor, SetSpan, In}
use Rattle.aos_base.specs.Number.{is_within, holds, shifted}
use Rattle.aos_base.specs.Set.{element, has_of}
use Rattle.aos_base.specs.Operators.{flag, capital, unary as unary_of, binary as binary_of}
use Rattle.aos_typed.specs.declared.tree.TType.{TType}
use Rattle.aos_typed.specs.declared.tree.TType.TheVariants as type
use Rattle.aos_typed.specs.Value.{Value, number_of, Integer, Boolean, Character, Elements, unary_sort, binary_sort}
use Rattle.aos_typed.specs.WellTyped.{taken, is_ordered, is_basic, is_compared, Gives, Takes, GivesOfTwo}
use Rattle.aos_sim.proofs.Types.{IsValueOf}
use Rattle.aos_sim.proofs.Results.{Agrees, agrees_if, of_width, of_widths, if_within_agrees, divisor_agrees, odd_agrees, flag_agrees, member_agrees, natural_is, capital_below, set_agrees, sets_agree, element_below, span_agrees, range_agrees, agrees_at}

pub unary_agrees : (op : UnaryOperator) (t : TType) (v : Value) → IsValueOf (taken op) v → Gives op t → Agrees t (unary_sort op) (unary_of op (number_of v))
unary_agrees (Neg w) t v h g = agrees_if t Integer _ (is_within w (number_of v)) (of_width w v h) (if_within_agrees w t (neg_ℤ (number_of v)) g)
unary_agrees (Abs w) t v h g = agrees_if t Integer _ (is_within w (number_of v)) (of_width w v h) (if_within_agrees w t (pos (unsigned_abs (number_of v))) g)
unary_agrees Not t v h g =
    agrees_at t type.Boolean Boolean (unary_of Not (number_of v)) g (subst (λ x. Agrees type.Boolean Boolean (unary_of Not (number_of x))) (sym h.1) (negated h.0))
  where
    negated : (b : Bool) → Agrees type.Boolean Boolean (unary_of Not (flag b))
    negated true = ((false, refl), refl)
    negated false = ((true, refl), refl)
unary_agrees Odd t v h g = agrees_at t type.Boolean Boolean (unary_of Odd (number_of v)) g (odd_agrees (number_of v))
unary_agrees Cap t v h g =
    agrees_at t type.Char Character (unary_of Cap (number_of v)) g
    (subst (λ x. Agrees type.Char Character (unary_of Cap (number_of x))) (sym h.1)
    (rw (natural_is 256 h.0 h.2) ((capital h.0, refl, capital_below h.0 (is_in_range 97 122 h.0) h.2), refl)))
unary_agrees Compl t v h g =
    agrees_at t type.Set Elements (unary_of Compl (number_of v)) g
    (subst (λ x. Agrees type.Set Elements (unary_of Compl (number_of x))) (sym h.1)
    (rw (natural_is (2 ^ 32) h.0 h.2) (set_agrees (bit_not w32 h.0) (omega arith))))
unary_agrees (Range low high) (type.Integer w) v h g = range_agrees low high (number_of v) w _ refl g.0 g.1
unary_agrees (Range low high) type.Boolean v h g = absurd g
unary_agrees (Range low high) type.Char v h g = absurd g
unary_agrees (Range low high) type.Set v h g = absurd g
unary_agrees (Range low high) type.Any v h g = absurd g
unary_agrees (Range low high) (type.Named t) v h g = absurd g

-- Operators on two operands.

-- two values are of types that the operator takes
abbrev pub Suit : BinaryOperator → Value → Value → Type 0
Suit op a b = Takes op (λ t. IsValueOf t a) (λ t. IsValueOf t b)

ordered_basic : (t : TType) → is_ordered t ≡ true → is_basic t ≡ true
ordered_basic (type.Integer w) e = refl
ordered_basic type.Char e = refl
ordered_basic type.Boolean e = absurd (cc)
ordered_basic type.Set e = absurd (cc)
ordered_basic type.Any e = absurd (cc)
ordered_basic (type.Named t) e = absurd (cc)

-- what is compared is of a basic type
compared_basic : (r : Relation) (t : TType) → is_compared r t ≡ true → is_basic t ≡ true
compared_basic relation.Equal t e = e
compared_basic relation.NotEqual t e = e
compared_basic relation.Less t e = ordered_basic t e
compared_basic relation.LessEqual t e = ordered_basic t e
compared_basic relation.Greater t e = ordered_basic t e
compared_basic relation.GreaterEqual t e = ordered_basic t e

-- two operands are of basic types of which the operator takes all values
pub operands_suit : (op : BinaryOperator) (A B : TType → Type 0) → Takes op A B → (t : TType) × (u : TType) × A t × B u × ((a b : Value) → IsValueOf t a → IsValueOf u b → Suit op a b) × (is_basic t ≡ true) × (is_basic u ≡ true)
operands_suit (Add w) A B h = (type.Integer w, type.Integer w, h.0, h.1, (λ a b p q. (p, q)), refl, refl)
operands_suit (Sub w) A B h = (type.Integer w, type.Integer w, h.0, h.1, (λ a b p q. (p, q)), refl, refl)
operands_suit (Mul w) A B h = (type.Integer w, type.Integer w, h.0, h.1, (λ a b p q. (p, q)), refl, refl)
operands_suit (Div w) A B h = (type.Integer w, type.Integer w, h.0, h.1, (λ a b p q. (p, q)), refl, refl)
operands_suit (Mod w) A B h = (type.Integer w, type.Integer w, h.0, h.1, (λ a b p q. (p, q)), refl, refl)
operands_suit (Ash w) A B h = (type.Integer w, type.Integer W64, h.0, h.1, (λ a b p q. (p, q)), refl, refl)
operands_suit (Cmp r) A B h = (h.0, h.0, h.2, h.3, (λ a b p q. (h.0, h.1, p, q)), compared_basic r h.0 h.1, compared_basic r h.0 h.1)
operands_suit Union A B h = (type.Set, type.Set, h.0, h.1, (λ a b p q. (p, q)), refl, refl)
operands_suit Minus A B h = (type.Set, type.Set, h.0, h.1, (λ a b p q. (p, q)), refl, refl)
operands_suit Meet A B h = (type.Set, type.Set, h.0, h.1, (λ a b p q. (p, q)), refl, refl)
operands_suit Xor A B h = (type.Set, type.Set, h.0, h.1, (λ a b p q. (p, q)), refl, refl)
operands_suit SetSpan A B h = (type.Integer W64, type.Integer W64, h.0, h.1, (λ a b p q. (p, q)), refl, refl)
operands_suit In A B h = (type.Integer W64, type.Set, h.0, h.1, (λ a b p q. (p, q)), refl, refl)

pub binary_agrees : (op : BinaryOperator) (t : TType) (a b : Value) → Suit op a b → GivesOfTwo op t → Agrees t (binary_sort op) (binary_of op (number_of a) (number_of b))
binary_agrees (Add w) t a b h g = agrees_if t Integer _ (is_within w (number_of a) && is_within w (number_of b)) (of_widths w a b h.0 h.1) (if_within_agrees w t (number_of a +ℤ number_of b) g)
binary_agrees (Sub w) t a b h g = agrees_if t Integer _ (is_within w (number_of a) && is_within w (number_of b)) (of_widths w a b h.0 h.1) (if_within_agrees w t (number_of a -ℤ number_of b) g)
binary_agrees (Mul w) t a b h g = agrees_if t Integer _ (is_within w (number_of a) && is_within w (number_of b)) (of_widths w a b h.0 h.1) (if_within_agrees w t (number_of a *ℤ number_of b) g)
binary_agrees (Div w) t a b h g = agrees_if t Integer _ (is_within w (number_of a) && is_within w (number_of b)) (of_widths w a b h.0 h.1) (divisor_agrees w t (int_div_euclid (number_of a) (number_of b)) (int_lt (pos 0) (number_of b)) g)
binary_agrees (Mod w) t a b h g = agrees_if t Integer _ (is_within w (number_of a) && is_within w (number_of b)) (of_widths w a b h.0 h.1) (divisor_agrees w t (int_rem_euclid (number_of a) (number_of b)) (int_lt (pos 0) (number_of b)) g)
binary_agrees (Ash w) t a b h g = agrees_if t Integer _ (is_within w (number_of a)) (of_width w a h.0) (if_within_agrees w t (shifted (number_of a) (number_of b)) g)
binary_agrees (Cmp r) t a b h g = agrees_at t type.Boolean Boolean (binary_of (Cmp r) (number_of a) (number_of b)) g (flag_agrees (holds r (number_of a) (number_of b)))
binary_agrees Union t a b h g = agrees_at t type.Set Elements (binary_of Union (number_of a) (number_of b)) g (sets_agree _ a b or_of_32 h.0 h.1)
binary_agrees Minus t a b h g = agrees_at t type.Set Elements (binary_of Minus (number_of a) (number_of b)) g (sets_agree _ a b (λ x y p q. omega (arith, and_le_l x (bit_not w32 y))) h.0 h.1)
binary_agrees Meet t a b h g = agrees_at t type.Set Elements (binary_of Meet (number_of a) (number_of b)) g (sets_agree _ a b (λ x y p q. omega (arith, and_le_l x y)) h.0 h.1)
binary_agrees Xor t a b h g = agrees_at t type.Set Elements (binary_of Xor (number_of a) (number_of b)) g (sets_agree _ a b xor_of_32 h.0 h.1)
binary_agrees SetSpan t a b h g = agrees_at t type.Set Elements (binary_of SetSpan (number_of a) (number_of b)) g (span_agrees (element (number_of a)) (element (number_of b)) (element_below (number_of b)))
binary_agrees In t a b h g =
    agrees_at t type.Boolean Boolean (binary_of In (number_of a) (number_of b)) g
    (subst (λ x. Agrees type.Boolean Boolean (binary_of In (number_of a) (number_of x))) (sym h.1.1)
    (rw (natural_is (2 ^ 32) h.1.0 h.1.2) (member_agrees (has_of h.1.0 (number_of a)))))
