-- Values of basic types, which are the same in each world, and the cells that hold them.
use Rattle.std.proofs.Common.{◌≡◌, ℕ, ◌≤◌, ◌<◌, ◌^◌, ℤ, Bool, true, refl, sym, subst, arith}
use Rattle.std.proofs.lemmas.Int.{ints}
use Rattle.aos_base.specs.declared.number.Width.{Width}
use Rattle.aos_base.specs.declared.number.Width.TheVariants.{W8, W16, W32, W64}
use Rattle.aos_base.specs.Number.{greatest, IsWithin}
use Rattle.aos_types.specs.declared.row.Basic.{Basic}
use Rattle.aos_types.specs.declared.row.Basic.TheVariants as basic
use Rattle.aos_types.specs.World.{World}
use Rattle.aos_typed.specs.declared.tree.Literal.{Literal}
use Rattle.aos_typed.specs.declared.tree.Literal.TheVariants as literal
use Rattle.aos_typed.specs.declared.tree.TType.{TType}
use Rattle.aos_typed.specs.declared.tree.TType.TheVariants as type
use Rattle.aos_typed.specs.Sort.{Sort}
use Rattle.aos_typed.specs.Value.{Value, Int, Flag, Char, Set, Object, Callable, Place, literal_value, number_of}
use Rattle.aos_typed.specs.Typing.{IsInteger, IsFlag, IsCharacter, IsSet, IsBasic}
use Rattle.aos_typed.specs.WellTyped.{includes, Includes, IsLiteral, is_basic}
use Rattle.aos_code.specs.declared.instr.Cell.TheVariants.{Num}
use Rattle.aos_sim.specs.Cells.{cell_of}

-- a value is of a basic type
abbrev pub IsValueOf : TType → Value → Type 0
IsValueOf (type.Integer w) v = (z : ℤ) × (v ≡ Int z) × IsWithin w z
IsValueOf type.Boolean v = (b : Bool) × (v ≡ Flag b)
IsValueOf type.Char v = (c : ℕ) × (v ≡ Char c) × (c < 256)
IsValueOf type.Set v = (s : ℕ) × (v ≡ Set s) × (s < 2 ^ 32)
IsValueOf type.Any v = ⊥
IsValueOf (type.Named t) v = ⊥

-- and is in a cell as the number that it is given as
pub number_cell : (w : World Sort) (t : TType) (v : Value) → IsValueOf t v → cell_of w v ≡ Num (number_of v)
number_cell w (type.Integer x) v h = subst (λ v. cell_of w v ≡ Num (number_of v)) (sym h.1) refl
number_cell w type.Boolean v h = subst (λ v. cell_of w v ≡ Num (number_of v)) (sym h.1) refl
number_cell w type.Char v h = subst (λ v. cell_of w v ≡ Num (number_of v)) (sym h.1) refl
number_cell w type.Set v h = subst (λ v. cell_of w v ≡ Num (number_of v)) (sym h.1) refl
number_cell w type.Any v h = absurd h
number_cell w (type.Named t) v h = absurd h

-- The values of the rows of basic types.

abbrev pub basic_integer : Width → Basic
basic_integer W8 = basic.ShortInt
basic_integer W16 = basic.Integer
basic_integer W32 = basic.LongInt
basic_integer W64 = basic.HugeInt

-- the row of a basic type
abbrev pub basic_of : TType → Basic
basic_of (type.Integer w) = basic_integer w
basic_of type.Boolean = basic.Boolean
basic_of type.Char = basic.Char
basic_of type.Set = basic.Set
basic_of type.Any = basic.Nil
basic_of (type.Named t) = basic.Nil

pub integer_is : (w : Width) (v : Value) → IsInteger w v → IsValueOf (type.Integer w) v
integer_is w (Int z) h = (z, refl, h)
integer_is w (Flag b) h = absurd h
integer_is w (Char c) h = absurd h
integer_is w (Set s) h = absurd h
integer_is w (Object o) h = absurd h
integer_is w (Callable p o) h = absurd h
integer_is w (Place p) h = absurd h

pub flag_is : (v : Value) → IsFlag v → IsValueOf type.Boolean v
flag_is (Int z) h = absurd h
flag_is (Flag b) h = (b, refl)
flag_is (Char c) h = absurd h
flag_is (Set s) h = absurd h
flag_is (Object o) h = absurd h
flag_is (Callable p o) h = absurd h
flag_is (Place p) h = absurd h

pub character_is : (v : Value) → IsCharacter v → IsValueOf type.Char v
character_is (Int z) h = absurd h
character_is (Flag b) h = absurd h
character_is (Char c) h = (c, refl, h)
character_is (Set s) h = absurd h
character_is (Object o) h = absurd h
character_is (Callable p o) h = absurd h
character_is (Place p) h = absurd h

pub set_is : (v : Value) → IsSet v → IsValueOf type.Set v
set_is (Int z) h = absurd h
set_is (Flag b) h = absurd h
set_is (Char c) h = absurd h
set_is (Set s) h = (s, refl, h)
set_is (Object o) h = absurd h
set_is (Callable p o) h = absurd h
set_is (Place p) h = absurd h

pub is_integer : (w : Width) (v : Value) → IsValueOf (type.Integer w) v → IsInteger w v
is_integer w v h = subst (IsInteger w) (sym h.1) h.2

pub is_character : (v : Value) → IsValueOf type.Char v → IsCharacter v
is_character v h = subst IsCharacter (sym h.1) h.2

pub from_basic : (t : TType) (v : Value) → is_basic t ≡ true → IsBasic (basic_of t) v → IsValueOf t v
from_basic (type.Integer W8) v e h = integer_is W8 v h
from_basic (type.Integer W16) v e h = integer_is W16 v h
from_basic (type.Integer W32) v e h = integer_is W32 v h
from_basic (type.Integer W64) v e h = integer_is W64 v h
from_basic type.Boolean v e h = flag_is v h
from_basic type.Char v e h = character_is v h
from_basic type.Set v e h = set_is v h
from_basic type.Any v e h = absurd (cc)
from_basic (type.Named t) v e h = absurd (cc)

pub to_basic : (t : TType) (v : Value) → IsValueOf t v → IsBasic (basic_of t) v
to_basic (type.Integer W8) v h = is_integer W8 v h
to_basic (type.Integer W16) v h = is_integer W16 v h
to_basic (type.Integer W32) v h = is_integer W32 v h
to_basic (type.Integer W64) v h = is_integer W64 v h
to_basic type.Boolean v h = subst IsFlag (sym h.1) tt
to_basic type.Char v h = is_character v h
to_basic type.Set v h = subst IsSet (sym h.1) h.2
to_basic type.Any v h = absurd h
to_basic (type.Named t) v h = absurd h

-- Types that include others.

-- a wider integer type has a greater greatest number
wider : (v w : Width) → includes (type.Integer v) (type.Integer w) ≡ true → greatest w ≤ greatest v
wider W8 W8 e = omega arith
wider W8 W16 e = absurd (cc)
wider W8 W32 e = absurd (cc)
wider W8 W64 e = absurd (cc)
wider W16 W8 e = omega arith
wider W16 W16 e = omega arith
wider W16 W32 e = absurd (cc)
wider W16 W64 e = absurd (cc)
wider W32 W8 e = omega arith
wider W32 W16 e = omega arith
wider W32 W32 e = omega arith
wider W32 W64 e = absurd (cc)
wider W64 w e = most w
  where
    most : (w : Width) → greatest w ≤ greatest W64
    most W8 = omega arith
    most W16 = omega arith
    most W32 = omega arith
    most W64 = omega arith

within_wider : (v w : Width) (z : ℤ) → greatest w ≤ greatest v → IsWithin w z → IsWithin v z
within_wider v w z le h = record { low = omega (arith, ints, h.low); high = omega (arith, ints, h.high) }

pub included : (t u : TType) (v : Value) → Includes t u → IsValueOf u v → IsValueOf t v
included (type.Integer x) (type.Integer y) v e h = (h.0, h.1, within_wider x y h.0 (wider x y e) h.2)
included (type.Integer x) type.Boolean v e h = absurd (cc)
included (type.Integer x) type.Char v e h = absurd (cc)
included (type.Integer x) type.Set v e h = absurd (cc)
included (type.Integer x) type.Any v e h = absurd (cc)
included (type.Integer x) (type.Named u) v e h = absurd (cc)
included type.Boolean (type.Integer y) v e h = absurd (cc)
included type.Boolean type.Boolean v e h = h
included type.Boolean type.Char v e h = absurd (cc)
included type.Boolean type.Set v e h = absurd (cc)
included type.Boolean type.Any v e h = absurd (cc)
included type.Boolean (type.Named u) v e h = absurd (cc)
included type.Char (type.Integer y) v e h = absurd (cc)
included type.Char type.Boolean v e h = absurd (cc)
included type.Char type.Char v e h = h
included type.Char type.Set v e h = absurd (cc)
included type.Char type.Any v e h = absurd (cc)
included type.Char (type.Named u) v e h = absurd (cc)
included type.Set (type.Integer y) v e h = absurd (cc)
included type.Set type.Boolean v e h = absurd (cc)
included type.Set type.Char v e h = absurd (cc)
included type.Set type.Set v e h = h
included type.Set type.Any v e h = absurd (cc)
included type.Set (type.Named u) v e h = absurd (cc)
included type.Any u v e h = absurd (cc)
included (type.Named t) (type.Integer y) v e h = absurd (cc)
included (type.Named t) type.Boolean v e h = absurd (cc)
included (type.Named t) type.Char v e h = absurd (cc)
included (type.Named t) type.Set v e h = absurd (cc)
included (type.Named t) type.Any v e h = absurd (cc)
included (type.Named t) (type.Named u) v e h = h

pub literal_is : (l : Literal) (t : TType) → IsLiteral l t → IsValueOf t (literal_value l)
literal_is (literal.Int n) (type.Integer w) h = (n, refl, h)
literal_is (literal.Int n) type.Boolean h = absurd h
literal_is (literal.Int n) type.Char h = absurd h
literal_is (literal.Int n) type.Set h = absurd h
literal_is (literal.Int n) type.Any h = absurd h
literal_is (literal.Int n) (type.Named t) h = absurd h
literal_is (literal.Bool b) (type.Integer w) h = absurd h
literal_is (literal.Bool b) type.Boolean h = (b, refl)
literal_is (literal.Bool b) type.Char h = absurd h
literal_is (literal.Bool b) type.Set h = absurd h
literal_is (literal.Bool b) type.Any h = absurd h
literal_is (literal.Bool b) (type.Named t) h = absurd h
literal_is (literal.Char c) (type.Integer w) h = absurd h
literal_is (literal.Char c) type.Boolean h = absurd h
literal_is (literal.Char c) type.Char h = (c, refl, h)
literal_is (literal.Char c) type.Set h = absurd h
literal_is (literal.Char c) type.Any h = absurd h
literal_is (literal.Char c) (type.Named t) h = absurd h
literal_is (literal.Set s) (type.Integer w) h = absurd h
literal_is (literal.Set s) type.Boolean h = absurd h
literal_is (literal.Set s) type.Char h = absurd h
literal_is (literal.Set s) type.Set h = (s, refl, h)
literal_is (literal.Set s) type.Any h = absurd h
literal_is (literal.Set s) (type.Named t) h = absurd h
literal_is (literal.Text c) (type.Integer w) h = absurd h
literal_is (literal.Text c) type.Boolean h = absurd h
literal_is (literal.Text c) type.Char h = (c.first, refl, h.1)
literal_is (literal.Text c) type.Set h = absurd h
literal_is (literal.Text c) type.Any h = absurd h
literal_is (literal.Text c) (type.Named t) h = absurd h
literal_is literal.Nil t h = absurd h
literal_is literal.NoProcedure t h = absurd h
