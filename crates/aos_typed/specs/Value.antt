-- Values, and the operators on them (Oberon-2 report, section on expressions). An operator is that of the numbers which the
-- values are given as; on a value of another kind than it takes it gives some value, to which no well-typed program comes.
use Rattle.std.specs.Prelude.{ℕ, ℤ, pos, unsigned_abs, Bool, not}
use Rattle.std.specs.Ordering.{int_eq}
use Rattle.aos_base.specs.declared.operator.Unary.{Unary}
use Rattle.aos_base.specs.declared.operator.Unary.TheVariants.{Neg, Abs, Not, Odd, Cap, Compl, Range}
use Rattle.aos_base.specs.declared.operator.Binary.{Binary}
use Rattle.aos_base.specs.declared.operator.Binary.TheVariants.{Add, Sub, Mul, Div, Mod, Ash, Cmp, Union, Minus, Meet, Xor, SetSpan, In}
use Rattle.aos_base.specs.declared.operator.Given.{Given}
use Rattle.aos_base.specs.declared.operator.Given.TheVariants.{Number, Trap, Undefined}
use Rattle.aos_base.specs.Operators.{flag, unary as unary_of, binary as binary_of}
use Rattle.aos_base.specs.Question.{Tree, Val, Traps}
use Rattle.aos_typed.specs.declared.tree.Literal.{Literal}
use Rattle.aos_typed.specs.declared.tree.Literal.TheVariants as literal
use Rattle.aos_typed.specs.Location.{Location}

pub data Value : Type 0 where
  Int : (number : ℤ) → Value
  Flag : (is_true : Bool) → Value
  Char : (code : ℕ) → Value
  Set : (elements : ℕ) → Value  -- whose bits are the elements
  Object : (number : ℕ) → Value  -- by its number, from 1 in the order of making; 0 is NIL
  Callable : (procedure object : ℕ) → Value  -- a procedure by its number, and the object whose method it is, 0 for none; procedure 0 is NIL
  Place : Location → Value  -- what a parameter stands for

abbrev pub literal_value : Literal → Value
literal_value (literal.Int n) = Int n
literal_value (literal.Bool b) = Flag b
literal_value (literal.Char c) = Char c
literal_value (literal.Set s) = Set s
literal_value (literal.Text t) = Char t.first  -- of one character
literal_value literal.Nil = Object 0
literal_value literal.NoProcedure = Callable 0 0

-- the number that a value is given as; what is no number is given as none, here as 0
abbrev pub number_of : Value → ℤ
number_of (Int z) = z
number_of (Flag b) = flag b
number_of (Char c) = pos c
number_of (Set s) = pos s
number_of (Object o) = pos 0
number_of (Callable p o) = pos 0
number_of (Place s) = pos 0

-- what kind of value an operator gives
pub data Sort : Type 0 where
  Integer : Sort
  Boolean : Sort
  Character : Sort
  Elements : Sort

-- the value of a sort that is given as this number
abbrev pub value_as : Sort → ℤ → Value
value_as Integer z = Int z
value_as Boolean z = Flag (not (int_eq z (pos 0)))
value_as Character z = Char (unsigned_abs z)
value_as Elements z = Set (unsigned_abs z)

-- what an operator gives, as a value of the sort
abbrev pub given : {Q V : Type 0} → Sort → Given → Tree Q V Value
given s (Number z) = Val (value_as s z)
given s (Trap n) = Traps n 0
given s Undefined = Val (value_as s (pos 0))

abbrev pub unary_sort : Unary → Sort
unary_sort (Neg w) = Integer
unary_sort (Abs w) = Integer
unary_sort Not = Boolean
unary_sort Odd = Boolean
unary_sort Cap = Character
unary_sort Compl = Elements
unary_sort (Range low high) = Integer

abbrev pub binary_sort : Binary → Sort
binary_sort (Add w) = Integer
binary_sort (Sub w) = Integer
binary_sort (Mul w) = Integer
binary_sort (Div w) = Integer
binary_sort (Mod w) = Integer
binary_sort (Ash w) = Integer
binary_sort (Cmp relation) = Boolean
binary_sort Union = Elements
binary_sort Minus = Elements
binary_sort Meet = Elements
binary_sort Xor = Elements
binary_sort SetSpan = Elements
binary_sort In = Boolean

abbrev pub unary : {Q V : Type 0} → Unary → Value → Tree Q V Value
unary op a = given (unary_sort op) (unary_of op (number_of a))

abbrev pub binary : {Q V : Type 0} → Binary → Value → Value → Tree Q V Value
binary op a b = given (binary_sort op) (binary_of op (number_of a) (number_of b))

-- the set of one element
abbrev pub element : {Q V : Type 0} → Value → Tree Q V Value
element a = binary SetSpan a a

-- the code of a character
abbrev pub ord : Value → Value
ord a = Int (number_of a)

-- the character of a code
abbrev pub chr : {Q V : Type 0} → Value → Tree Q V Value
chr a = given Character (unary_of (Range (pos 0) (pos 255)) (number_of a))

abbrev pub is_true : Value → Bool
is_true a = not (int_eq (number_of a) (pos 0))
