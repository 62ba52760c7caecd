-- What is known of a part of an expression: its type, and whether it is a constant, a variable, a procedure that is named, or something else. A part that
-- breaks a rule may be anything, so that no further rule is broken by it.
use Rattle.std.specs.Prelude.{ℕ, ◌-◌, ℤ, pos, negsuc, List, length, Bool, true, false, not, ◌&&◌, ◌||◌, ◌==◌, nat_lt, nat_le, Option, Some, None, is_some, if◌then◌else◌}
use Rattle.aos_base.specs.declared.text.Pos.{Pos}
use Rattle.aos_base.specs.declared.number.Width.{Width}
use Rattle.aos_base.specs.declared.number.Width.TheVariants.{W8, W16, W32, W64}
use Rattle.aos_base.specs.Number.{greatest, if_within}
use Rattle.aos_types.specs.declared.row.TypeId.{TypeId}
use Rattle.aos_typed.specs.declared.tree.Literal.{Literal}
use Rattle.aos_typed.specs.declared.tree.Literal.TheVariants as literal
use Rattle.aos_typed.specs.declared.tree.TType.{TType}
use Rattle.aos_typed.specs.declared.tree.TType.TheVariants as type
use Rattle.aos_typed.specs.Program.{Place, Expr, Lit, Read}
use Rattle.aos_symbols.specs.declared.breach.Breach.{Breach}
use Rattle.aos_symbols.specs.Breaches.{breach, breach_unless}
use Rattle.aos_symbols.specs.Judged.{Judged, judged}
use Rattle.aos_symbols.specs.Env.{shortint, integer, longint, hugeint, boolean, char, set, nil, any, text, basic_rows}
use Rattle.aos_known.specs.declared.known.Class.{Class}
use Rattle.aos_known.specs.declared.known.Class.TheVariants.{Unknown, Constant, Variable, ReadOnly, Computed, Procedure}
use Rattle.aos_known.specs.declared.known.Known.{Known}

-- an expression, and what it is in the typed program
pub record Answer : Type 0 where
  pub known : Known
  pub typed : Expr

-- what a designator is in the typed program
pub data Held : Type 0 where
  Stands : Place → Held  -- a variable
  Value : Expr → Held

-- a designator, and where the name stands that is its own
pub record Entity : Type 0 where
  pub known : Known
  pub held : Held
  pub at : Pos

-- Types.

-- a test of a type, which one that isn't known passes
abbrev pub passes : (TypeId → Bool) → Option TypeId → Bool
passes test None = true
passes test (Some t) = test t

-- the integer types stand first, each of which includes those before it
abbrev pub is_integer : TypeId → Bool
is_integer t = nat_lt t.0 4

abbrev pub is_basic : TypeId → Bool
is_basic t = nat_lt t.0 7

abbrev pub is : TypeId → TypeId → Bool
is t u = t.0 == u.0

abbrev pub is_number : Option TypeId → Bool
is_number = passes is_integer

abbrev pub is_boolean : Option TypeId → Bool
is_boolean = passes (is boolean)

abbrev pub is_char : Option TypeId → Bool
is_char = passes (is char)

abbrev pub is_set : Option TypeId → Bool
is_set = passes (is set)

-- the type of a string constant that is no character
abbrev pub is_long_text : TypeId → Bool
is_long_text = is text

-- NIL, and what ANY holds, are objects of no type that is known
abbrev pub is_of_any : TypeId → Bool
is_of_any t = is nil t || is any t

-- a value of one basic type may be assigned to a variable of another: of an integer type that includes it, or of the same type
abbrev pub fits_type : TypeId → TypeId → Bool
fits_type from to = if is_integer from && is_integer to then nat_le from.0 to.0 else is from to

abbrev pub fits : Option TypeId → Option TypeId → Bool
fits (Some from) (Some to) = fits_type from to
fits _ _ = true

-- the larger of two integer types
abbrev pub larger : Option TypeId → Option TypeId → Option TypeId
larger (Some a) (Some b) = if nat_lt a.0 b.0 then Some b else Some a
larger _ _ = None

abbrev pub width_of_type : TypeId → Width
width_of_type t = if t.0 == 0 then W8 else if t.0 == 1 then W16 else if t.0 == 2 then W32 else W64

abbrev pub width_of : Option TypeId → Width
width_of None = W64
width_of (Some t) = width_of_type t

-- the next integer type, and the one before
abbrev pub next : Option TypeId → Option TypeId
next None = None
next (Some t) = if t.0 == 0 then Some integer else if t.0 == 1 then Some longint else Some hugeint

abbrev pub previous : Option TypeId → Option TypeId
previous None = None
previous (Some t) = if t.0 == 3 then Some longint else if t.0 == 2 then Some integer else Some shortint

-- the least and the greatest integer of a width
abbrev pub least_of : Width → ℤ
least_of w = negsuc (greatest w)

abbrev pub greatest_of : Width → ℤ
greatest_of w = pos (greatest w)

-- the smallest integer type that includes a number
abbrev pub smallest : ℤ → TypeId
smallest n =
    if is_some (if_within W8 n) then shortint
    else if is_some (if_within W16 n) then integer
    else if is_some (if_within W32 n) then longint
    else hugeint

abbrev pub type_of_literal : Literal → TypeId
type_of_literal (literal.Int n) = smallest n
type_of_literal (literal.Bool b) = boolean
type_of_literal (literal.Char c) = char
type_of_literal (literal.Set s) = set
type_of_literal (literal.Text t) = if t.length == 1 then char else text
type_of_literal literal.Nil = nil
type_of_literal literal.NoProcedure = nil

-- the number of an object type among those of the program
abbrev pub object_number : TypeId → ℕ
object_number t = t.0 - length basic_rows

-- a type in the typed program; NIL is of each type whose values are objects
abbrev pub type_as : TypeId → TType
type_as t =
    if is_integer t then type.Integer (width_of_type t)
    else if is boolean t then type.Boolean
    else if is char t then type.Char
    else if is set t then type.Set
    else if is_of_any t then type.Any
    else type.Named (object_number t)

abbrev pub type_of : Option TypeId → TType
type_of None = type.Boolean
type_of (Some t) = type_as t

-- Classes.

abbrev pub is_unknown : Class → Bool
is_unknown Unknown = true
is_unknown (Constant v) = false
is_unknown Variable = false
is_unknown ReadOnly = false
is_unknown Computed = false
is_unknown (Procedure m n) = false

-- a constant expression whose computation has no value
abbrev pub is_lost : Class → Bool
is_lost (Constant None) = true
is_lost (Constant (Some v)) = false
is_lost Unknown = false
is_lost Variable = false
is_lost ReadOnly = false
is_lost Computed = false
is_lost (Procedure m n) = false

-- NIL
abbrev pub is_nil : Class → Bool
is_nil (Constant (Some literal.Nil)) = true
is_nil c = false

-- what is made of a part, and is no constant; of what may be anything it may be anything
abbrev pub value_class : Class → Class
value_class Unknown = Unknown
value_class c = Computed

-- it is refused at its first token
abbrev pub lost : Class → Pos → List Breach
lost c first = breach_unless (not (is_lost c)) 20 first

-- Parts that are known.

-- a constant is of the type of its value, which may be smaller than that of its parts, and of none that is known where it has no value,
-- as it is refused
abbrev pub known_as : Class → Option TypeId → Known
known_as (Constant (Some v)) of = record { of = Some (type_of_literal v); class = Constant (Some v) }
known_as (Constant None) of = record { of = None; class = Constant None }
known_as Unknown of = record { of = of; class = Unknown }
known_as Variable of = record { of = of; class = Variable }
known_as ReadOnly of = record { of = of; class = ReadOnly }
known_as Computed of = record { of = of; class = Computed }
known_as (Procedure m n) of = record { of = of; class = Procedure m n }

-- and stands as a literal in the typed program
abbrev pub typed_as : Class → Expr → Expr
typed_as (Constant (Some v)) e = Lit v
typed_as (Constant None) e = e
typed_as Unknown e = e
typed_as Variable e = e
typed_as ReadOnly e = e
typed_as Computed e = e
typed_as (Procedure m n) e = e

abbrev pub answered : Class → Option TypeId → Expr → Answer
answered c of e = record { known = known_as c of; typed = typed_as c e }

abbrev pub constant_answer : Literal → Answer
constant_answer v = answered (Constant (Some v)) None (Lit v)

-- NIL, beside a procedure or where one is asked for, is no procedure
abbrev pub as_procedure : Answer → Expr
as_procedure a = if is_nil a.known.class then Lit literal.NoProcedure else a.typed

-- what stands for a part that breaks a rule; it is never looked at
abbrev pub nothing : Expr
nothing = Lit (literal.Bool false)

abbrev pub unknown : Answer
unknown = answered Unknown None nothing

-- what may be anything but a variable or a constant
abbrev pub some_value : Answer
some_value = answered Computed None nothing

-- what may be anything but a constant, a variable too
abbrev pub some_variable : Answer
some_variable = answered Variable None nothing

-- a rule that is broken, by what may be anything, by what is some value, and by what is no constant
abbrev pub refused : ℕ → Pos → Judged Answer
refused rule at = judged (breach rule at) unknown

abbrev pub refused_value : ℕ → Pos → Judged Answer
refused_value rule at = judged (breach rule at) some_value

abbrev pub refused_variable : ℕ → Pos → Judged Answer
refused_variable rule at = judged (breach rule at) some_variable

-- a designator that is a value
abbrev pub entity_of : Pos → Answer → Entity
entity_of at a = record { known = a.known; held = Value a.typed; at = at }

abbrev pub read_from : Option TypeId → Held → Expr
read_from of (Stands p) = Read (type_of of) p
read_from of (Value e) = e
