-- Literals that are of the types of their values, and classes of parts whose values are such literals.
use Rattle.std.proofs.Common.{◌≡◌, ℕ, ◌<◌, ◌^◌, ℤ, pos, negsuc, int_le, int_lt, Bool, true, false, ◌&&◌, ◌⊎◌, inl, inr, ◌==◌, nat_lt, Option, Some, None, is_some, option_map, if◌then◌else◌, refl, ltb-true, eqb-true, arith}
use Rattle.std.proofs.lemmas.Bool.{and_parts}
use Rattle.std.proofs.lemmas.Int.{ints}
use Rattle.std.specs.Prelude.{◌+ℤ◌, ◌-ℤ◌, ◌*ℤ◌, neg_ℤ, unsigned_abs}
use Rattle.std.specs.Int.{int_div_euclid, int_rem_euclid}
use Rattle.aos_base.specs.declared.number.Width.{Width}
use Rattle.aos_base.specs.declared.number.Width.TheVariants.{W8, W16, W32, W64}
use Rattle.aos_base.specs.declared.operator.Unary.{Unary as UnaryOperator}
use Rattle.aos_base.specs.declared.operator.Unary.TheVariants as one
use Rattle.aos_base.specs.declared.operator.Binary.{Binary as BinaryOperator}
use Rattle.aos_base.specs.declared.operator.Binary.TheVariants as two
use Rattle.aos_base.specs.declared.operator.Given.{Given}
use Rattle.aos_base.specs.declared.operator.Given.TheVariants.{Number, Trap, Undefined}
use Rattle.aos_base.specs.Number.{is_within, greatest, shifted, IsWithin, if_within}
use Rattle.aos_base.specs.Operators.{or_trap, natural, unary as unary_of, binary as binary_of}
use Rattle.aos_types.specs.declared.row.TypeId.{TypeId}
use Rattle.aos_typed.specs.declared.tree.Literal.{Literal}
use Rattle.aos_typed.specs.declared.tree.Literal.TheVariants as literal
use Rattle.aos_typed.specs.declared.tree.TType.{TType}
use Rattle.aos_typed.specs.declared.tree.TType.TheVariants as type
use Rattle.aos_typed.specs.Value.{Integer, Boolean, Character, Elements}
use Rattle.aos_typed.specs.WellTyped.{IsLiteral}
use Rattle.aos_symbols.specs.Env.{shortint, integer, longint, hugeint, char, set, text}
use Rattle.aos_known.specs.declared.known.Class.{Class}
use Rattle.aos_known.specs.declared.known.Class.TheVariants.{Unknown, Constant, Variable, ReadOnly, Computed, Procedure}
use Rattle.aos_operators.specs.declared.operations.Single.{Single}
use Rattle.aos_operators.specs.declared.operations.Single.TheVariants as single
use Rattle.aos_operators.specs.declared.operations.Joint.{Joint}
use Rattle.aos_operators.specs.declared.operations.Joint.TheVariants as joint
use Rattle.aos_known.specs.Known.{is_basic, is_integer, is, width_of_type, least_of, greatest_of, type_of_literal, type_as}
use Rattle.aos_operators.specs.Operations.{number, literal_given, computed_one, computed, codes_alone, single_value, joint_value, class_of_one, class_behind, class_of, greatest_value, least_value}
use Rattle.aos_known.proofs.Types.{within_wider, most_includes}

-- a literal is of the type of its value; a string constant may have more characters than one, or none
abbrev pub IsGood : Literal → Type 0
IsGood (literal.Text t) = t.first < 256
IsGood literal.Nil = Unit {0}
IsGood l = IsLiteral l (type_as (type_of_literal l))

-- a value that is such a literal
abbrev pub HasGood : Option Literal → Type 0
HasGood v = (l : Literal) × (v ≡ Some l) × IsGood l

abbrev pub MayBe : {X : Type 0} → (X → Type 0) → Option X → Type 0
MayBe P None = Unit {0}
MayBe P (Some x) = P x

-- Numbers.

within_test : (w : Width) (z : ℤ) → is_within w z ≡ true → IsWithin w z
within_test w z e =
    let q = and_parts (int_le (negsuc (greatest w)) z) (int_le z (pos (greatest w))) e in
    record { low = omega (arith, ints, q.0); high = omega (arith, ints, q.1) }

pub within_if : (w : Width) (z : ℤ) → MayBe (IsWithin w) (if_within w z)
within_if w z = by (is_within w z) refl
  where
    by : (b : Bool) → is_within w z ≡ b → MayBe (IsWithin w) (if b then Some z else None)
    by true e = within_test w z e
    by false e = tt

within_some : (w : Width) (z : ℤ) → is_some (if_within w z) ≡ true → IsWithin w z
within_some w z h = by (is_within w z) refl h
  where
    by : (b : Bool) → is_within w z ≡ b → is_some (if b then Some z else None) ≡ true → IsWithin w z
    by true e h = within_test w z e
    by false e h = absurd (cc)

-- a number of 64 bits is of the smallest type that has it
pub number_good : (z : ℤ) → IsWithin W64 z → IsGood (literal.Int z)
number_good z h = by (is_some (if_within W8 z)) (is_some (if_within W16 z)) (is_some (if_within W32 z)) refl refl refl
  where
    by : (a b c : Bool) → is_some (if_within W8 z) ≡ a → is_some (if_within W16 z) ≡ b → is_some (if_within W32 z) ≡ c →
        IsLiteral (literal.Int z) (type_as (if a then shortint else if b then integer else if c then longint else hugeint))
    by true b c p q r = within_some W8 z p
    by false true c p q r = within_some W16 z q
    by false false true p q r = within_some W32 z r
    by false false false p q r = h

-- and a good literal's value is given as a number of 64 bits
pub good_number : (l : Literal) → IsGood l → IsWithin W64 (number l)
good_number (literal.Int z) h = at (type_as (type_of_literal (literal.Int z))) h
  where
    at : (t : TType) → IsLiteral (literal.Int z) t → IsWithin W64 z
    at (type.Integer w) h = within_wider W64 w z (most_includes w) h
    at type.Boolean h = absurd h
    at type.Char h = absurd h
    at type.Set h = absurd h
    at type.Any h = absurd h
    at (type.Named o) h = absurd h
good_number (literal.Bool true) h = record { low = omega (arith, ints); high = omega (arith, ints) }
good_number (literal.Bool false) h = record { low = omega (arith, ints); high = omega (arith, ints) }
good_number (literal.Char c) h = record { low = omega (arith, ints); high = omega (arith, ints, h) }
good_number (literal.Set s) h = record { low = omega (arith, ints); high = omega (arith, ints, h) }
good_number (literal.Text t) h = record { low = omega (arith, ints); high = omega (arith, ints, h) }
good_number literal.Nil h = record { low = omega (arith, ints); high = omega (arith, ints) }
good_number literal.NoProcedure h = absurd h

-- a good literal is a value of a basic type, a string constant that is no character, or NIL
pub literal_kind : (l : Literal) → IsGood l → ((is_basic (type_of_literal l) ≡ true) × IsLiteral l (type_as (type_of_literal l))) ⊎ ((type_of_literal l ≡ text) ⊎ (l ≡ literal.Nil))
literal_kind (literal.Int z) h = inl (by (is_some (if_within W8 z)) (is_some (if_within W16 z)) (is_some (if_within W32 z)), h)
  where
    by : (a b c : Bool) → is_basic (if a then shortint else if b then integer else if c then longint else hugeint) ≡ true
    by true b c = refl
    by false true c = refl
    by false false true = refl
    by false false false = refl
literal_kind (literal.Bool b) h = inl (refl, h)
literal_kind (literal.Char c) h = inl (refl, h)
literal_kind (literal.Set s) h = inl (refl, h)
literal_kind (literal.Text t) h = by (t.length == 1) refl
  where
    by : (b : Bool) → (t.length == 1) ≡ b →
        let of = if b then char else text in ((is_basic of ≡ true) × IsLiteral (literal.Text t) (type_as of)) ⊎ ((of ≡ text) ⊎ (literal.Text t ≡ literal.Nil))
    by true e = inl (refl, (eqb-true t.length 1 e, h))
    by false e = inr (inl refl)
literal_kind literal.Nil h = inr (inr refl)
literal_kind literal.NoProcedure h = absurd h

-- Sets.

abbrev pub IsSet : Literal → Type 0
IsSet l = IsLiteral l type.Set

pub set_type : (l : Literal) → IsSet l → type_of_literal l ≡ set
set_type (literal.Int z) h = absurd h
set_type (literal.Bool b) h = absurd h
set_type (literal.Char c) h = absurd h
set_type (literal.Set s) h = refl
set_type (literal.Text t) h = absurd h
set_type literal.Nil h = absurd h
set_type literal.NoProcedure h = absurd h

pub set_good : (l : Literal) → IsSet l → IsGood l
set_good (literal.Int z) h = absurd h
set_good (literal.Bool b) h = absurd h
set_good (literal.Char c) h = absurd h
set_good (literal.Set s) h = h
set_good (literal.Text t) h = absurd h
set_good literal.Nil h = absurd h
set_good literal.NoProcedure h = absurd h

-- What operators give.

pub natural_below : (bound : ℕ) (z : ℤ) → MayBe (λ n. n < bound) (natural bound z)
natural_below bound (pos n) = by (nat_lt n bound) refl
  where
    by : (b : Bool) → nat_lt n bound ≡ b → MayBe (λ n. n < bound) (if b then Some n else None)
    by true e = ltb-true n bound e
    by false e = tt
natural_below bound (negsuc n) = tt

character_given : (g : Given) → MayBe IsGood (literal_given Character g)
character_given (Number z) = by (natural 256 z) (natural_below 256 z)
  where
    by : (o : Option ℕ) → MayBe (λ n. n < 256) o → MayBe IsGood (option_map (λ c. literal.Char c) o)
    by None h = tt
    by (Some c) h = h
character_given (Trap n) = tt
character_given Undefined = tt

pub set_given : (g : Given) → MayBe IsSet (literal_given Elements g)
set_given (Number z) = by (natural (2 ^ 32) z) (natural_below (2 ^ 32) z)
  where
    by : (o : Option ℕ) → MayBe (λ n. n < 2 ^ 32) o → MayBe IsSet (option_map (λ s. literal.Set s) o)
    by None h = tt
    by (Some s) h = h
set_given (Trap n) = tt
set_given Undefined = tt

boolean_given : (g : Given) → MayBe IsGood (literal_given Boolean g)
boolean_given (Number z) = tt
boolean_given (Trap n) = tt
boolean_given Undefined = tt

good_if : (o : Option Literal) → MayBe IsSet o → MayBe IsGood o
good_if None h = tt
good_if (Some l) h = set_good l h

set_given_good : (g : Given) → MayBe IsGood (literal_given Elements g)
set_given_good g = good_if (literal_given Elements g) (set_given g)

number_given : (z : ℤ) → MayBe IsGood (literal_given Integer (or_trap 5 (if_within W64 z)))
number_given z = by (if_within W64 z) (within_if W64 z)
  where
    by : (o : Option ℤ) → MayBe (IsWithin W64) o → MayBe IsGood (literal_given Integer (or_trap 5 o))
    by None h = tt
    by (Some n) h = number_good n h

divisor_given : (b : Bool) (z : ℤ) → MayBe IsGood (literal_given Integer (if b then or_trap 5 (if_within W64 z) else Trap 6))
divisor_given true z = number_given z
divisor_given false z = tt

range_given : (b : Bool) (z : ℤ) → IsWithin W64 z → MayBe IsGood (literal_given Integer (if b then Number z else Trap 14))
range_given true z h = number_good z h
range_given false z h = tt

-- what is given where a test holds, and nothing else is
given_if : (b : Bool) (g : Given) → MayBe IsGood (literal_given Integer g) → MayBe IsGood (literal_given Integer (if b then g else Undefined))
given_if true g h = h
given_if false g h = tt

one_good : (op : UnaryOperator) (a : Literal) → IsGood a → MayBe IsGood (computed_one op a)
one_good (one.Neg w) a h = given_if (is_within W64 (number a)) _ (number_given (neg_ℤ (number a)))
one_good (one.Abs w) a h = given_if (is_within W64 (number a)) _ (number_given (pos (unsigned_abs (number a))))
one_good one.Not a h = boolean_given (unary_of one.Not (number a))
one_good one.Odd a h = boolean_given (unary_of one.Odd (number a))
one_good one.Cap a h = character_given (unary_of one.Cap (number a))
one_good one.Compl a h = set_given_good (unary_of one.Compl (number a))
one_good (one.Range low high) a h = range_given (int_le low (number a) && int_le (number a) high) (number a) (good_number a h)

two_good : (op : BinaryOperator) (a b : Literal) → MayBe IsGood (computed op a b)
two_good (two.Add w) a b = given_if (is_within W64 (number a) && is_within W64 (number b)) _ (number_given (number a +ℤ number b))
two_good (two.Sub w) a b = given_if (is_within W64 (number a) && is_within W64 (number b)) _ (number_given (number a -ℤ number b))
two_good (two.Mul w) a b = given_if (is_within W64 (number a) && is_within W64 (number b)) _ (number_given (number a *ℤ number b))
two_good (two.Div w) a b =
    given_if (is_within W64 (number a) && is_within W64 (number b)) _ (divisor_given (int_lt (pos 0) (number b)) (int_div_euclid (number a) (number b)))
two_good (two.Mod w) a b =
    given_if (is_within W64 (number a) && is_within W64 (number b)) _ (divisor_given (int_lt (pos 0) (number b)) (int_rem_euclid (number a) (number b)))
two_good (two.Ash w) a b = given_if (is_within W64 (number a)) _ (number_given (shifted (number a) (number b)))
two_good (two.Cmp r) a b = boolean_given (binary_of (two.Cmp r) (number a) (number b))
two_good two.Union a b = set_given_good (binary_of two.Union (number a) (number b))
two_good two.Minus a b = set_given_good (binary_of two.Minus (number a) (number b))
two_good two.Meet a b = set_given_good (binary_of two.Meet (number a) (number b))
two_good two.Xor a b = set_given_good (binary_of two.Xor (number a) (number b))
two_good two.SetSpan a b = set_given_good (binary_of two.SetSpan (number a) (number b))
two_good two.In a b = boolean_given (binary_of two.In (number a) (number b))

pub single_good : (s : Single) (a : Literal) → IsGood a → MayBe IsGood (single_value s a)
single_good (single.On op) a h = one_good op a h
single_good single.Ord a h = number_good (number a) (good_number a h)
single_good single.Chr a h = character_given (unary_of codes_alone (number a))
single_good single.Element a h = two_good two.SetSpan a a
single_good single.Same a h = h

pub joint_good : (j : Joint) (a b : Literal) → IsGood a → IsGood b → MayBe IsGood (joint_value j a b)
joint_good (joint.On op) a b g h = two_good op a b
joint_good joint.And a b g h = tt
joint_good joint.Or a b g h = tt
joint_good joint.Same a b g h = tt
joint_good joint.Differ a b g h = tt
joint_good joint.SameProcedure a b g h = tt
joint_good joint.OtherProcedure a b g h = tt

-- MAX and MIN

pub greatest_good : (t : TypeId) → MayBe IsGood (greatest_value t)
greatest_good t = by (is_integer t) (is char t) (is set t)
  where
    great : (w : Width) → IsWithin W64 (greatest_of w)
    great W8 = record { low = omega (arith, ints); high = omega (arith, ints) }
    great W16 = record { low = omega (arith, ints); high = omega (arith, ints) }
    great W32 = record { low = omega (arith, ints); high = omega (arith, ints) }
    great W64 = record { low = omega (arith, ints); high = omega (arith, ints) }

    by : (a b c : Bool) → MayBe IsGood (if a then Some (literal.Int (greatest_of (width_of_type t))) else if b then Some (literal.Char 255) else if c then Some (literal.Int (pos 31)) else None)
    by true b c = number_good _ (great (width_of_type t))
    by false true c = omega arith
    by false false true = number_good (pos 31) (record { low = omega (arith, ints); high = omega (arith, ints) })
    by false false false = tt

pub least_good : (t : TypeId) → MayBe IsGood (least_value t)
least_good t = by (is_integer t) (is char t) (is set t)
  where
    least : (w : Width) → IsWithin W64 (least_of w)
    least W8 = record { low = omega (arith, ints); high = omega (arith, ints) }
    least W16 = record { low = omega (arith, ints); high = omega (arith, ints) }
    least W32 = record { low = omega (arith, ints); high = omega (arith, ints) }
    least W64 = record { low = omega (arith, ints); high = omega (arith, ints) }

    by : (a b c : Bool) → MayBe IsGood (if a then Some (literal.Int (least_of (width_of_type t))) else if b then Some (literal.Char 0) else if c then Some (literal.Int (pos 0)) else None)
    by true b c = number_good _ (least (width_of_type t))
    by false true c = omega arith
    by false false true = number_good (pos 0) (record { low = omega (arith, ints); high = omega (arith, ints) })
    by false false false = tt

-- Classes.

-- a class that is known; what holds of the value, where a constant has one
abbrev pub IsKnownClass : (Literal → Type 0) → Class → Type 0
IsKnownClass P (Constant v) = MayBe P v
IsKnownClass P Unknown = ⊥
IsKnownClass P Variable = Unit {0}
IsKnownClass P ReadOnly = Unit {0}
IsKnownClass P Computed = Unit {0}
IsKnownClass P (Procedure m n) = Unit {0}

pub class_of_one_known : (P : Literal → Type 0) (s : Single) → ((a : Literal) → IsGood a → MayBe P (single_value s a)) →
    (c : Class) → IsKnownClass IsGood c → IsKnownClass P (class_of_one s c)
class_of_one_known P s each (Constant (Some a)) h = each a h
class_of_one_known P s each (Constant None) h = tt
class_of_one_known P s each Unknown h = absurd h
class_of_one_known P s each Variable h = tt
class_of_one_known P s each ReadOnly h = tt
class_of_one_known P s each Computed h = tt
class_of_one_known P s each (Procedure m n) h = tt

-- of a second operand, where the first has no value
behind : (P : Literal → Type 0) (of_constant : Class) → IsKnownClass P of_constant → (d : Class) → IsKnownClass IsGood d → IsKnownClass P (class_behind of_constant d)
behind P c g Unknown h = absurd h
behind P c g (Constant v) h = g
behind P c g Variable h = tt
behind P c g ReadOnly h = tt
behind P c g Computed h = tt
behind P c g (Procedure m n) h = tt

pub class_of_known : (P : Literal → Type 0) (j : Joint) → ((a b : Literal) → IsGood a → IsGood b → MayBe P (joint_value j a b)) →
    (c d : Class) → IsKnownClass IsGood c → IsKnownClass IsGood d → IsKnownClass P (class_of j c d)
class_of_known P j each (Constant (Some a)) (Constant (Some b)) g h = each a b g h
class_of_known P j each (Constant (Some a)) (Constant None) g h = tt
class_of_known P j each (Constant (Some a)) Unknown g h = absurd h
class_of_known P j each (Constant (Some a)) Variable g h = tt
class_of_known P j each (Constant (Some a)) ReadOnly g h = tt
class_of_known P j each (Constant (Some a)) Computed g h = tt
class_of_known P j each (Constant (Some a)) (Procedure m n) g h = tt
class_of_known P j each (Constant None) d g h = behind P (Constant None) tt d h
class_of_known P j each Unknown d g h = absurd g
class_of_known P j each Variable d g h = tt
class_of_known P j each ReadOnly d g h = tt
class_of_known P j each Computed d g h = tt
class_of_known P j each (Procedure m n) d g h = tt
