-- Which values are of which sorts, in a world that knows the shape of what stands below each root and what objects were made as.
use Rattle.std.specs.Prelude.{◌≡◌, ℕ, zero, suc, pos, ◌-◌, ◌≤◌, ◌<◌, ◌^◌, List, [], length, All, true, Option, Some, None}
use Rattle.aos_base.specs.declared.number.Width.{Width}
use Rattle.aos_base.specs.declared.number.Width.TheVariants.{W8, W16, W32, W64}
use Rattle.aos_base.specs.Number.{IsWithin}
use Rattle.aos_base.specs.Rooted.{Made, by_number}
use Rattle.aos_types.specs.declared.row.Basic.{Basic}
use Rattle.aos_types.specs.declared.row.Basic.TheVariants as basic
use Rattle.aos_types.specs.declared.row.TypeId.{TypeId}
use Rattle.aos_types.specs.declared.row.TypeRow.{TypeRow}
use Rattle.aos_types.specs.declared.row.TypeRow.TheVariants as row
use Rattle.aos_types.specs.Table.{row_of}
use Rattle.aos_types.specs.Extension.{comes_to}
use Rattle.aos_types.specs.Shape.{Shape, join}
use Rattle.aos_types.specs.Content.{EachSort}
use Rattle.aos_types.specs.World.{World, shape_at}
pub use Rattle.aos_typed.specs.Numbers.{id_of_made}
use Rattle.aos_typed.specs.Formals.{HasFormals, pattern_in}
use Rattle.aos_typed.specs.Numbers.{predeclared_types}
use Rattle.aos_typed.specs.Program.{Procedure, Program}
use Rattle.aos_typed.specs.Routines.{routine_of, routines}
use Rattle.aos_typed.specs.Open.{open_dimensions, first_same}
use Rattle.aos_typed.specs.Location.{Location}
use Rattle.aos_typed.specs.Value.{Value, Int, Flag, Char, Set, Object, Callable, Place}
use Rattle.aos_typed.specs.Source.{first_in}
pub use Rattle.aos_typed.specs.CallFrame.{nested}
use Rattle.aos_typed.specs.Sort.{Sort, Plain, Variable, Alias, Elements, Length, variable_shape, object_shape}

abbrev pub IsInteger : Width → Value → Type 0
IsInteger w (Int z) = IsWithin w z
IsInteger w v = ⊥

abbrev pub IsFlag : Value → Type 0
IsFlag (Flag b) = Unit {0}
IsFlag v = ⊥

abbrev pub IsCharacter : Value → Type 0
IsCharacter (Char c) = c < 256
IsCharacter v = ⊥

abbrev pub IsSet : Value → Type 0
IsSet (Set s) = s < 2 ^ 32
IsSet v = ⊥

-- a value of a basic type; what is of the others is what it begins with
abbrev pub IsBasic : Basic → Value → Type 0
IsBasic basic.ShortInt v = IsInteger W8 v
IsBasic basic.Integer v = IsInteger W16 v
IsBasic basic.LongInt v = IsInteger W32 v
IsBasic basic.HugeInt v = IsInteger W64 v
IsBasic basic.Boolean v = IsFlag v
IsBasic basic.Char v = IsCharacter v
IsBasic basic.Set v = IsSet v
IsBasic basic.Nil v = v ≡ Object 0
IsBasic (basic.Text n) v = v ≡ Int (pos 0)

abbrev pub OnPlace : (Location → Type 0) → Value → Type 0
OnPlace P (Place p) = P p
OnPlace P v = ⊥

-- a sort whose values are no places: all that a way to a variable's parts leads to
abbrev pub IsPlain : Sort → Type 0
IsPlain (Plain t) = Unit {0}
IsPlain (Variable t) = ⊥
IsPlain (Alias t) = ⊥
IsPlain (Elements t ns) = ⊥
IsPlain (Length n) = ⊥

-- In a program.
module _ (program : Program) where
  -- an object has lengths where it is an open array, one for each open dimension, and none else
  abbrev pub HasLengths : Option TypeRow → Made → Type 0
  HasLengths (Some (row.Open t)) m =
      (length m.lengths ≡ open_dimensions program.types (id_of_made m.type)) × All (λ n. (1 ≤ n) × IsWithin W32 (pos n)) m.lengths
  HasLengths r m = m.lengths ≡ []

  -- NIL, or an object that is made so
  abbrev pub Refers : World Sort → (Made → Type 0) → ℕ → Type 0
  Refers w P zero = Unit {0}
  Refers w P (suc o) = (m : Made) × (w.made (suc o) ≡ Some m) × HasLengths (row_of program.types (id_of_made m.type)) m × P m

  abbrev pub IsReference : World Sort → (Made → Type 0) → Value → Type 0
  IsReference w P (Object o) = Refers w P o
  IsReference w P v = ⊥

  -- its type extends this one
  abbrev pub Extends : TypeId → Made → Type 0
  Extends t m = comes_to program.types (id_of_made m.type) t ≡ true

  -- what a procedure is called on: an object whose type extends the one whose method it is, and nothing where it is none
  abbrev pub IsInstance : World Sort → Option ℕ → (object : ℕ) → Type 0
  IsInstance w None o = o ≡ 0
  IsInstance w (Some t) o =
      (k : ℕ) × (m : Made) × (o ≡ suc k) × (w.made (suc k) ≡ Some m) × HasLengths (row_of program.types (id_of_made m.type)) m
      × Extends (id_of_made (suc t)) m

  -- a procedure has the formals of this one, which stands for all those that a type's values are, and is called on this object
  pub record StandsFor (w : World Sort) (pattern : Option Procedure) (number object : ℕ) : Type 0 where
    pub home : ℕ
    pub procedure : Procedure
    pub there : by_number number (routines program) ≡ Some (routine_of home procedure)
    pub formals : (q : Procedure) → pattern ≡ Some q → HasFormals program.types procedure q
    pub instance : IsInstance w procedure.of object

  -- NIL, or such a procedure
  abbrev pub IsCalledBy : World Sort → Option Procedure → (number object : ℕ) → Type 0
  IsCalledBy w pattern zero o = o ≡ 0
  IsCalledBy w pattern (suc q) o = StandsFor w pattern (suc q) o

  abbrev pub IsCallable : World Sort → Option Procedure → Value → Type 0
  IsCallable w pattern (Callable q o) = IsCalledBy w pattern q o
  IsCallable w pattern v = ⊥

  -- the procedure that stands for those of a type
  abbrev pub pattern_at : TypeId → Option Procedure
  pattern_at t = pattern_in program (row_of program.types t) (t.0 - predeclared_types)

  -- a value of a type, by the type's row; what is of a type that has no values of its own, or of which none are made so far, is what
  -- it begins with
  abbrev pub IsPlainly : World Sort → TypeId → Option TypeRow → Value → Type 0
  IsPlainly w t (Some (row.Basic b)) v = IsBasic b v
  IsPlainly w t (Some (row.Object base fields)) v = IsReference w (Extends t) v
  IsPlainly w t (Some (row.Pointer u)) v = IsReference w (Extends (first_same program.types u)) v
  IsPlainly w t (Some row.Any) v = IsReference w (λ m. Unit {0}) v
  IsPlainly w t (Some (row.Procedure formals r)) v = IsCallable w (pattern_at t) v
  IsPlainly w t r v = v ≡ first_in r

  -- the place of a record whose type, which the place names, extends this one; more may stand behind its fields
  pub record Names (w : World Sort) (t : TypeId) (p : Location) : Type 0 where
    pub extends : comes_to program.types (id_of_made p.type) t ≡ true
    pub more : Shape Sort
    pub plain : EachSort IsPlain more
    pub there : shape_at w p.root p.path ≡ Some (join (object_shape program.types (id_of_made p.type)) more)

  abbrev pub IsPlace : World Sort → Sort → Location → Type 0
  IsPlace w (Plain t) p = ⊥
  IsPlace w (Variable t) p = Names w t p
  IsPlace w (Alias t) p = shape_at w p.root p.path ≡ Some (variable_shape program.types t)
  IsPlace w (Elements t ns) p = shape_at w p.root p.path ≡ Some (nested ns (variable_shape program.types t))
  IsPlace w (Length n) p = ⊥

  -- a value is of a sort
  abbrev pub Is : World Sort → Sort → Value → Type 0
  Is w (Plain t) v = IsPlainly w t (row_of program.types t) v
  Is w (Variable t) v = OnPlace (IsPlace w (Variable t)) v
  Is w (Alias t) v = OnPlace (IsPlace w (Alias t)) v
  Is w (Elements t ns) v = OnPlace (IsPlace w (Elements t ns)) v
  Is w (Length n) v = (v ≡ Int (pos n)) × IsWithin W32 (pos n)
