-- Programs whose expressions have the types that their places ask for (Oberon-2 report, 8.2 and 9.1; Reali 2002, section on basic
-- types): each operator has operands of the types that it takes, an index is an integer, what is read and assigned is of a basic type,
-- an assigned value is of the variable's type, a whole record or array is copied to a variable of its type, what a loop tests is a
-- truth value, what AWAIT awaits is one that is found without a call, NEW makes an object of its variable's type, and no string
-- constant is written. No type contains itself, and none has more scalars than a type may have (Oberon-2 report, 6.2 and 6.3), nor have
-- the variables of a module; only parameters are of open arrays, and a function gives a scalar (Oberon-2 report, 10.1). The predeclared
-- types stand first in the table.
use Rattle.std.specs.Prelude.{◌≡◌, ◌≢◌, ◌⊎◌, ℕ, zero, suc, ℤ, pos, ◌≤◌, ◌<◌, ◌+◌, ◌==◌, ◌^◌, nat_le, int_le, List, [], ◌∷◌, ◌++◌, length, All, Bool, true, false, ◌&&◌, ◌||◌, Option, Some, None, slice_get, sum_by, is_some, option_map, option_and_then, map}
use Rattle.std.specs.List.{AllPairs, list_all, list_any}
use Rattle.std.specs.Char.{is_ascii_digit, is_ascii_alphabetic}
use Rattle.aos_base.specs.declared.limits.TheConstants.{MOST_SCALARS}
use Rattle.aos_base.specs.declared.number.Width.{Width}
use Rattle.aos_base.specs.declared.number.Width.TheVariants.{W8, W16, W32, W64}
use Rattle.aos_base.specs.declared.number.Relation.{Relation}
use Rattle.aos_base.specs.declared.number.Relation.TheVariants as relation
use Rattle.aos_base.specs.declared.operator.Unary.{Unary as UnaryOperator}
use Rattle.aos_base.specs.declared.operator.Unary.TheVariants.{Neg, Abs, Not, Odd, Cap, Compl, Range}
use Rattle.aos_base.specs.declared.operator.Binary.{Binary as BinaryOperator}
use Rattle.aos_base.specs.declared.operator.Binary.TheVariants.{Add, Sub, Mul, Div, Mod, Ash, Cmp, Union, Minus, Meet, Xor, SetSpan, In}
use Rattle.aos_base.specs.Number.{IsWithin}
use Rattle.aos_types.specs.declared.row.TypeId.{TypeId}
use Rattle.aos_types.specs.declared.row.TypeRow.{TypeRow}
use Rattle.aos_types.specs.declared.row.TypeRow.TheVariants as row
use Rattle.aos_types.specs.Table.{row_of, base_of, has_fields, is_open, is_record, is_scalar, is_object, is_procedure}
use Rattle.aos_types.specs.Extension.{comes_to}
use Rattle.aos_types.specs.Contents.{scalars, variable_scalars}
use Rattle.aos_types.specs.Chain.{NoneContainsItself}
use Rattle.aos_typed.specs.declared.tree.Literal.{Literal}
use Rattle.aos_typed.specs.declared.tree.Literal.TheVariants as literal
use Rattle.aos_typed.specs.declared.tree.TType.{TType}
use Rattle.aos_typed.specs.declared.tree.TType.TheVariants.{Integer, Boolean, Char, Set, Any, Named}
use Rattle.aos_typed.specs.Program.{Place, ModuleVar, Local, Passed, Field, Index, Of, Deref, Typed, Guarded, Rows, Known, Opened, Row, Spread, Longer, Arguments, NoMore, Scalar, Whole, Opening, Callee, Plain, Dispatched, Upper, Through, Expr, Lit, SelfRef, Read, Unary, Binary, And, Or, Element, Ord, Chr, CompareTexts, Len, LenBehind, Function, Same, Is, IsRecord, Guard, ProcedureOf, MethodOf, SameProcedure, Had, Call, Open as OutOpen, Char as OutChar, Int as OutInt, String as OutString, Ln as OutLn, Stat, Assign, Copy, PutText, If, Case, While, Repeat, Loop, Exit, For, Block, Await, Assert, Halt, Change, Perform, Return, New, Make, With, WithRecord, Out, Stats, Nothing, Then, Arms, Otherwise, Arm, Cases, NoElse, Else, OfLabels, Parameter, Procedure, Method, ObjectType, Module, Program}
use Rattle.aos_typed.specs.declared.tree.Change.{Change as Changing}
use Rattle.aos_typed.specs.declared.tree.Change.TheVariants as change
use Rattle.aos_typed.specs.declared.tree.LabelRange.{LabelRange}
use Rattle.aos_typed.specs.Meaning.{changed_type}
use Rattle.aos_typed.specs.Open.{open_dimensions, open_element, first_same}
pub use Rattle.aos_typed.specs.Fields.{with_base, fields_in, fields_by, field_types, field_type}
use Rattle.aos_typed.specs.Formals.{HasFormals, pattern_of}
use Rattle.aos_typed.specs.Methods.{initializer, put_at, slot_of, on_base, base_type, methods_of, method_in}
use Rattle.aos_typed.specs.Conditions.{HasNoCalls, HasNumbers}
use Rattle.aos_typed.specs.Routines.{self_type, result_of}
use Rattle.aos_typed.specs.Numbers.{id_of, predeclared_types, predeclared_rows}
use Rattle.aos_typed.specs.Rules.{RowsKeepRules, ModuleKeepsRules, ObjectKeepsRules}

-- Types.

abbrev pub bits : Width → ℕ
bits W8 = 8
bits W16 = 16
bits W32 = 32
bits W64 = 64

-- a type has all values of another: an integer type includes those of fewer bits, and each other type itself alone
abbrev pub includes : TType → TType → Bool
includes (Integer v) (Integer w) = nat_le (bits w) (bits v)
includes Boolean Boolean = true
includes Char Char = true
includes Set Set = true
includes (Named t) (Named u) = t == u
includes _ _ = false

abbrev pub Includes : TType → TType → Type 0
Includes t u = includes t u ≡ true

-- Types whose values are objects, or NIL.

-- the type that these are made as, or that theirs extends: where a pointer leads, or the object type itself
abbrev pub target_in : List TypeRow → TypeId → Option TypeRow → Option TypeId
target_in rows t (Some (row.Pointer u)) = Some (first_same rows u)
target_in rows t (Some (row.Object base fields)) = Some t
target_in rows t r = None

abbrev pub target : List TypeRow → TType → Option TypeId
target rows t = let k = id_of t in target_in rows k (row_of rows k)

abbrev pub is_any : TType → Bool
is_any Any = true
is_any t = false

abbrev pub is_reference : List TypeRow → TType → Bool
is_reference rows t = is_any t || is_some (target rows t)

-- a value of the second type, which is an object, fits a variable of the first: one of any object, or of one whose type the value's
-- extends
abbrev pub FitsObject : List TypeRow → TType → TType → Type 0
FitsObject rows t u =
    (is_reference rows u ≡ true)
    × ((t ≡ Any) ⊎ ((a : TypeId) × (b : TypeId) × (target rows t ≡ Some a) × (target rows u ≡ Some b) × (comes_to rows b a ≡ true)))

-- a procedure type
abbrev pub is_procedural : List TypeRow → TType → Bool
is_procedural rows t = is_procedure (row_of rows (id_of t))

-- a value of the second type, which is a procedure type, fits a variable of the first one where both have the same formals
abbrev pub FitsProcedure : Program → TType → TType → Type 0
FitsProcedure p t u =
    (q : Procedure) × (r : Procedure) × (pattern_of p t ≡ Some q) × (pattern_of p u ≡ Some r) × HasFormals p.types r q

abbrev pub Fits : Program → TType → TType → Type 0
Fits p t u = Includes t u ⊎ (FitsObject p.types t u ⊎ FitsProcedure p t u)

-- a literal is of a type
abbrev pub IsLiteral : Literal → TType → Type 0
IsLiteral (literal.Int n) (Integer w) = IsWithin w n
IsLiteral (literal.Bool b) Boolean = Unit {0}
IsLiteral (literal.Char c) Char = c < 256
IsLiteral (literal.Set s) Set = s < 2 ^ 32
IsLiteral (literal.Text c) Char = (c.length ≡ 1) × (c.first < 256)
IsLiteral _ _ = ⊥

-- all integers from the first of these to the second are of a type
abbrev pub HasRange : TType → ℤ → ℤ → Type 0
HasRange (Integer w) low high = IsWithin w low × IsWithin w high
HasRange _ low high = ⊥

-- Operators: what they take, and what they give.

abbrev pub taken : UnaryOperator → TType
taken (Neg w) = Integer w
taken (Abs w) = Integer w
taken Not = Boolean
taken Odd = Integer W64
taken Cap = Char
taken Compl = Set
taken (Range low high) = Integer W64

abbrev pub Gives : UnaryOperator → TType → Type 0
Gives (Neg w) t = Includes t (Integer w)
Gives (Abs w) t = Includes t (Integer w)
Gives Not t = t ≡ Boolean
Gives Odd t = t ≡ Boolean
Gives Cap t = t ≡ Char
Gives Compl t = t ≡ Set
Gives (Range low high) t = HasRange t low high

-- integers and characters have an order; all values of basic types are the same or differ
abbrev pub is_ordered : TType → Bool
is_ordered (Integer w) = true
is_ordered Char = true
is_ordered _ = false

abbrev pub is_basic : TType → Bool
is_basic (Named t) = false
is_basic Any = false
is_basic _ = true

abbrev pub is_compared : Relation → TType → Bool
is_compared relation.Equal t = is_basic t
is_compared relation.NotEqual t = is_basic t
is_compared _ t = is_ordered t

-- an operator takes a left operand, which is of each type of which A says so, and a right one, of which B does
abbrev pub Takes : BinaryOperator → (TType → Type 0) → (TType → Type 0) → Type 0
Takes (Add w) A B = A (Integer w) × B (Integer w)
Takes (Sub w) A B = A (Integer w) × B (Integer w)
Takes (Mul w) A B = A (Integer w) × B (Integer w)
Takes (Div w) A B = A (Integer w) × B (Integer w)
Takes (Mod w) A B = A (Integer w) × B (Integer w)
Takes (Ash w) A B = A (Integer w) × B (Integer W64)
Takes (Cmp r) A B = (t : TType) × (is_compared r t ≡ true) × A t × B t
Takes Union A B = A Set × B Set
Takes Minus A B = A Set × B Set
Takes Meet A B = A Set × B Set
Takes Xor A B = A Set × B Set
Takes SetSpan A B = A (Integer W64) × B (Integer W64)
Takes In A B = A (Integer W64) × B Set

abbrev pub GivesOfTwo : BinaryOperator → TType → Type 0
GivesOfTwo (Add w) t = Includes t (Integer w)
GivesOfTwo (Sub w) t = Includes t (Integer w)
GivesOfTwo (Mul w) t = Includes t (Integer w)
GivesOfTwo (Div w) t = Includes t (Integer w)
GivesOfTwo (Mod w) t = Includes t (Integer w)
GivesOfTwo (Ash w) t = Includes t (Integer w)
GivesOfTwo (Cmp r) t = t ≡ Boolean
GivesOfTwo Union t = t ≡ Set
GivesOfTwo Minus t = t ≡ Set
GivesOfTwo Meet t = t ≡ Set
GivesOfTwo Xor t = t ≡ Set
GivesOfTwo SetSpan t = t ≡ Set
GivesOfTwo In t = t ≡ Boolean

-- Designators.

-- an array of so many elements of this type
abbrev pub IsArray : ℕ → TypeId → Option TypeRow → Type 0
IsArray n t r = r ≡ Some (row.Array n t)

-- the length of a dimension of an array, of which the first is its own and the next that of its elements
abbrev pub dimension : List TypeRow → ℕ → Option TypeRow → Option ℕ
dimension rows zero (Some (row.Array n t)) = Some n
dimension rows (suc d) (Some (row.Array n t)) = dimension rows d (row_of rows t)
dimension rows d r = None

-- a record or an array, which is copied as a whole
abbrev pub is_whole : Option TypeRow → Bool
is_whole (Some (row.Array n t)) = true
is_whole (Some (row.Record base fields)) = true
is_whole _ = false

-- values of the type are scalars: of a basic type, objects, or procedures
abbrev pub is_value : List TypeRow → TType → Bool
is_value rows t = is_basic t || (is_reference rows t || is_procedural rows t)

-- a variable that is no part of another; a field of SELF is one, whose place is found without a trap
abbrev pub is_variable : Place → Bool
is_variable (ModuleVar m k) = true
is_variable (Local k) = true
is_variable (Passed k) = true
is_variable (Of r) = false
is_variable (Deref e t) = false
is_variable (Typed place t) = false
is_variable (Guarded place t) = false
is_variable (Field (Deref SelfRef of) t k) = true
is_variable (Field place t k) = false
is_variable (Index place n t e) = false

-- a variable of this number, counted on from the variables of a module, is the module's string constant with so many elements
pub record IsString (m : Module) (number elements : ℕ) : Type 0 where
  pub behind : ℕ
  pub is : number ≡ length m.variables + behind
  pub characters : List ℕ
  pub there : slice_get m.texts behind ≡ Some characters
  pub long : elements ≡ suc (length characters)

-- labels of 64 bits
abbrev pub AreLabels : LabelRange → Type 0
AreLabels r = IsWithin W64 r.low × IsWithin W64 r.high

-- two ranges of labels have a value together
abbrev pub meets : LabelRange → LabelRange → Bool
meets a b = (int_le a.low b.high && int_le b.low a.high) && (int_le a.low a.high && int_le b.low b.high)

-- no two have one
abbrev pub AreApart : List LabelRange → Type 0
AreApart [] = Unit {0}
AreApart (r ∷ rs) = (list_any (meets r) rs ≡ false) × AreApart rs

abbrev pub labels_of : Cases → List LabelRange
labels_of NoElse = []
labels_of (Else ss) = []
labels_of (OfLabels rs ss cases) = rs ++ labels_of cases

-- what a variable is changed by
abbrev pub amount_type : Changing → TType
amount_type (change.Add w) = Integer w
amount_type (change.Subtract w) = Integer w
amount_type change.Include = Integer W64
amount_type change.Exclude = Integer W64

-- the length of an open array's dimension: a LONGINT from 1 on
abbrev pub IsLength : ℕ → Type 0
IsLength n = (1 ≤ n) × IsWithin W32 (pos n)

-- the lengths of an array that is handed over, or asked for them, or that a text is put in with its 0X; those of an open one are
-- lengths
abbrev pub HaveLengths : Rows → Type 0
HaveLengths (Known place ns) = All IsLength ns
HaveLengths (Opened k j) = Unit {0}
HaveLengths (Row r t e) = HaveLengths r
HaveLengths (Spread e j) = Unit {0}
HaveLengths (Longer r ns) = HaveLengths r × All IsLength ns

-- Programs.

-- an array with these lengths, one dimension behind the other, and elements of this type behind them
abbrev pub IsArrayOf : List TypeRow → List ℕ → TypeId → TypeId → Type 0
IsArrayOf rows [] t of = t ≡ of
IsArrayOf rows (n ∷ ns) t of = (u : TypeId) × IsArray n u (row_of rows t) × IsArrayOf rows ns u of

module _ (p : Program) where
  -- the type of a module's variable, by the numbers of both
  abbrev pub variable_type : (home number : ℕ) → Option TType
  variable_type m k = option_and_then (λ x. option_map (λ v. v.of) (slice_get x.variables k)) (slice_get p.modules m)

  abbrev pub procedure_in : (home number : ℕ) → Option Procedure
  procedure_in m k = option_and_then (λ x. slice_get x.procedures k) (slice_get p.modules m)

  -- a string constant of a module, with so many elements
  abbrev pub IsConstantText : Place → ℕ → Type 0
  IsConstantText (ModuleVar m k) n = (x : Module) × (slice_get p.modules m ≡ Some x) × IsString x k n
  IsConstantText _ n = ⊥

  -- no string constant: a variable of a module is one that it declares
  abbrev pub IsNoConstant : Place → Type 0
  IsNoConstant (ModuleVar m k) = (t : TType) × (variable_type m k ≡ Some t)
  IsNoConstant _ = Unit {0}

  -- an array that may be written
  abbrev pub AreVariables : Rows → Type 0
  AreVariables (Known place ns) = IsNoConstant place
  AreVariables (Opened k j) = Unit {0}
  AreVariables (Row r of e) = AreVariables r
  AreVariables (Spread e j) = Unit {0}
  AreVariables (Longer r ns) = AreVariables r

  -- Parameters: of an open array, by reference, or by value.

  abbrev pub is_open_parameter : Parameter → Bool
  is_open_parameter a = is_open (row_of p.types (id_of a.of))

  abbrev pub IsOpening : Parameter → ℕ → TType → Type 0
  IsOpening a n t =
      (is_open_parameter a ≡ true) × (n ≡ open_dimensions p.types (id_of a.of)) × (open_element p.types (id_of a.of) ≡ id_of t)

  abbrev pub IsByReference : Parameter → TType → Type 0
  IsByReference a t = (is_open_parameter a ≡ false) × (a.by_reference ≡ true) × (a.of ≡ t)

  abbrev pub IsByValue : Parameter → TType → Type 0
  IsByValue a t = (is_open_parameter a ≡ false) × (a.by_reference ≡ false) × (a.of ≡ t)

  -- a procedure has the formals of a procedure type
  abbrev pub IsProcedural : TType → Procedure → Type 0
  IsProcedural t q = (r : Procedure) × (pattern_of p t ≡ Some r) × HasFormals p.types q r

  -- in the body of this procedure, or of none
  module _ (own : Option Procedure) where
    -- a parameter of the procedure, and a local, which are numbered on from the parameters
    abbrev pub IsParameter : ℕ → Parameter → Type 0
    IsParameter k a = option_and_then (λ q. slice_get q.parameters k) own ≡ Some a

    abbrev pub IsLocal : ℕ → TType → Type 0
    IsLocal k t = (q : Procedure) × (i : ℕ) × (own ≡ Some q) × (k ≡ length q.parameters + i) × (option_map (λ v. v.of) (slice_get q.locals i) ≡ Some t)

    -- the place of a record of this type that names the record's own type: what a pointer leads to, what a VAR parameter stands
    -- for, or one that is given its type
    abbrev pub NamesType : Place → TType → Type 0
    NamesType (ModuleVar m k) t = ⊥
    NamesType (Local k) t = ⊥
    NamesType (Passed k) t = is_record (row_of p.types (id_of t)) ≡ true
    NamesType (Field place of k) t = ⊥
    NamesType (Index place n of e) t = ⊥
    NamesType (Of r) t = ⊥
    NamesType (Deref e u) t = is_record (row_of p.types (id_of t)) ≡ true
    NamesType (Typed place k) t = is_record (row_of p.types (id_of t)) ≡ true
    NamesType (Guarded place k) t = is_record (row_of p.types (id_of t)) ≡ true

    -- a VAR parameter gets a variable of its type, or a record of a type that extends it, whose place names the record's own type;
    -- by value a record or an array is copied, of a record with more fields those of the parameter's type
    abbrev pub IsGiven : Parameter → Place → TType → Type 0
    IsGiven a place u =
        (IsByReference a u × (is_record (row_of p.types (id_of u)) ≡ false))
        ⊎ (((is_open_parameter a ≡ false) × (a.by_reference ≡ true) × NamesType place u × (comes_to p.types (id_of u) (id_of a.of) ≡ true))
        ⊎ (IsByValue a a.of × (is_whole (row_of p.types (id_of a.of)) ≡ true) × (comes_to p.types (id_of u) (id_of a.of) ≡ true)))

    -- a parameter that is an array of characters by value gets a string constant that is at least as long, with 0X behind its characters
    abbrev pub IsFilled : Parameter → Place → Type 0
    IsFilled a place =
        (n m : ℕ) × IsByValue a a.of × IsArray n (id_of Char) (row_of p.types (id_of a.of)) × (n ≤ m) × IsConstantText place m

    abbrev mutual
      -- a designator is of a type
      pub IsPlaceOf : Place → TType → Type 0
      IsPlaceOf (ModuleVar m k) t = variable_type m k ≡ Some t
      IsPlaceOf (Local k) t = IsLocal k t ⊎ ((a : Parameter) × IsParameter k a × IsByValue a t)
      IsPlaceOf (Passed k) t = (a : Parameter) × IsParameter k a × IsByReference a t
      IsPlaceOf (Field place of k) t =
          ((IsPlaceOf place of × (is_record (row_of p.types (id_of of)) ≡ true)) ⊎ IsObjectAt place of)
          × (field_type p.types (id_of of) k ≡ Some (id_of t))
      IsPlaceOf (Index place n of e) t = (u : TType) × IsPlaceOf place u × IsArray n (id_of of) (row_of p.types (id_of u)) × IsOf e (Integer W64) × (t ≡ of)
      IsPlaceOf (Of r) t = AreRows r 0 t × AreVariables r
      IsPlaceOf (Deref e u) t =
          (v : TType) × IsOf e v × (target p.types v ≡ Some (id_of u)) × (is_whole (row_of p.types (id_of u)) ≡ true) × (t ≡ u)
      IsPlaceOf (Typed place k) t = IsPlaceOf place (Named k) × (is_record (row_of p.types (id_of (Named k))) ≡ true) × (t ≡ Named k)
      IsPlaceOf (Guarded place k) t =
          (u : TType) × IsPlaceOf place u × NamesType place u × (is_record (row_of p.types (id_of (Named k))) ≡ true) × (t ≡ Named k)

      -- an object of this type with its fields, which is no variable but has variables
      pub IsObjectAt : Place → TType → Type 0
      IsObjectAt (Deref e u) t = IsOf e u × (is_object (row_of p.types (id_of u)) ≡ true) × (t ≡ u)
      IsObjectAt (ModuleVar m k) t = ⊥
      IsObjectAt (Local k) t = ⊥
      IsObjectAt (Passed k) t = ⊥
      IsObjectAt (Field place of k) t = ⊥
      IsObjectAt (Index place n of e) t = ⊥
      IsObjectAt (Of r) t = ⊥
      IsObjectAt (Typed place k) t = ⊥
      IsObjectAt (Guarded place k) t = ⊥

      -- an array with so many dimensions whose lengths are given, and elements of a type behind them
      pub AreRows : Rows → ℕ → TType → Type 0
      AreRows (Known place ns) n t =
          (n ≡ length ns)
          × (((u : TType) × IsPlaceOf place u × IsArrayOf p.types ns (id_of u) (id_of t))
          ⊎ ((m : ℕ) × (ns ≡ m ∷ []) × IsConstantText place m × (t ≡ Char)))
      AreRows (Opened k j) n t = (n ≡ j) × ((a : Parameter) × IsParameter k a × IsOpening a j t)
      AreRows (Row r of e) n t = AreRows r (suc n) t × IsOf e (Integer W64) × (t ≡ of)
      AreRows (Spread e j) n t =
          (n ≡ j)
          × ((v : TType) × (u : TypeId) × IsOf e v × (target p.types v ≡ Some u) × (is_open (row_of p.types u) ≡ true)
          × (j ≡ open_dimensions p.types u) × (open_element p.types u ≡ id_of t))
      AreRows (Longer r ns) n t =
          (m : ℕ) × (u : TType) × (n ≡ m + length ns) × AreRows r m u × IsArrayOf p.types ns (id_of u) (id_of t)

      -- what is handed over for these parameters; for an open array with VAR one that may be written
      pub AreArguments : Arguments → List Parameter → Type 0
      AreArguments NoMore as' = as' ≡ []
      AreArguments (Scalar e more) as' =
          (a : Parameter) × (rest : List Parameter) × (as' ≡ a ∷ rest) × IsByValue a a.of × (is_value p.types a.of ≡ true) × IsOf e a.of
          × AreArguments more rest
      AreArguments (Whole place more) as' =
          (a : Parameter) × (rest : List Parameter) × (as' ≡ a ∷ rest)
          × (((u : TType) × IsPlaceOf place u × IsGiven a place u) ⊎ IsFilled a place) × AreArguments more rest
      AreArguments (Opening r more) as' =
          (a : Parameter) × (rest : List Parameter) × (n : ℕ) × (t : TType) × (as' ≡ a ∷ rest) × IsOpening a n t × AreRows r n t
          × HaveLengths r × AreArguments more rest × (a.by_reference ≡ true → AreVariables r)

      -- what is called is a procedure with these parameters and this result: that of a module, the one that the type known of an
      -- object has in a slot, the one that SELF's type or a base of it has there, or any that a value of a procedure type stands for
      pub IsCalled : Callee → Procedure → Type 0
      IsCalled (Plain m k) q = procedure_in m k ≡ Some q
      IsCalled (Dispatched e t k) q = IsOf e (Named t) × (is_object (row_of p.types (id_of (Named t))) ≡ true) × (method_in p t k ≡ Some q)
      IsCalled (Through e t) q = IsOf e (Named t) × (pattern_of p (Named t) ≡ Some q)
      IsCalled (Upper t k) q = (s : ℕ) × (self_type own ≡ Some s) × (comes_to p.types (id_of (Named s)) (id_of (Named t)) ≡ true) × (method_in p t k ≡ Some q)

      -- each value of an expression is of a type
      pub IsOf : Expr → TType → Type 0
      IsOf (Lit l) t =
          IsLiteral l t
          ⊎ (((l ≡ literal.Nil) × (is_reference p.types t ≡ true)) ⊎ ((l ≡ literal.NoProcedure) × (is_procedural p.types t ≡ true)))
      IsOf SelfRef t = (s : ℕ) × (self_type own ≡ Some s) × (is_object (row_of p.types (id_of (Named s))) ≡ true) × Fits p t (Named s)
      IsOf (Read u place) t = IsPlaceOf place u × (is_value p.types u ≡ true) × Fits p t u
      IsOf (Unary op a) t = IsOf a (taken op) × Gives op t
      IsOf (Binary op a b) t = Takes op (IsOf a) (IsOf b) × GivesOfTwo op t
      IsOf (And a b) t = IsOf a Boolean × IsOf b Boolean × (t ≡ Boolean)
      IsOf (Or a b) t = IsOf a Boolean × IsOf b Boolean × (t ≡ Boolean)
      IsOf (Element a) t = IsOf a (Integer W64) × (t ≡ Set)
      IsOf (Ord a) t = IsOf a Char × Includes t (Integer W16)
      IsOf (Chr a) t = IsOf a (Integer W64) × (t ≡ Char)
      IsOf (CompareTexts r a b) t = AreRows a 1 Char × AreRows b 1 Char × (t ≡ Boolean)
      IsOf (Len r d) t = (n : ℕ) × (u : TType) × AreRows r n u × HaveLengths r × (d < n) × Includes t (Integer W32)
      IsOf (LenBehind r n) t = (m : ℕ) × (u : TType) × AreRows r m u × IsWithin W32 (pos n) × Includes t (Integer W32)
      IsOf (Function c more) t =
          (q : Procedure) × (u : TType) × IsCalled c q × (q.result ≡ Some u) × (is_value p.types u ≡ true)
          × Fits p t u × AreArguments more q.parameters
      IsOf (Same a b) t =
          ((u : TType) × IsOf a u × (is_reference p.types u ≡ true)) × ((u : TType) × IsOf b u × (is_reference p.types u ≡ true)) × (t ≡ Boolean)
      IsOf (Is a k) t = ((u : TType) × IsOf a u × (is_reference p.types u ≡ true)) × (k < length p.objects) × (t ≡ Boolean)
      IsOf (IsRecord place k) t =
          (u : TType) × IsPlaceOf place u × NamesType place u × (is_record (row_of p.types (id_of (Named k))) ≡ true) × (t ≡ Boolean)
      IsOf (Guard a k) t =
          ((u : TType) × IsOf a u × (is_reference p.types u ≡ true)) × (k < length p.objects)
          × ((t ≡ Any) ⊎ ((b : TypeId) × (target p.types t ≡ Some b) × (comes_to p.types (id_of (Named k)) b ≡ true)))
      IsOf (ProcedureOf m k) t = (q : Procedure) × (procedure_in m k ≡ Some q) × IsProcedural t q
      IsOf (MethodOf e j k) t =
          IsOf e (Named j) × (is_object (row_of p.types (id_of (Named j))) ≡ true) × ((q : Procedure) × (method_in p j k ≡ Some q) × IsProcedural t q)
      IsOf (SameProcedure a b) t =
          (((u : TType) × IsOf a u × (is_procedural p.types u ≡ true)) ⊎ IsNamed a)
          × (((u : TType) × IsOf b u × (is_procedural p.types u ≡ true)) ⊎ IsNamed b) × (t ≡ Boolean)
      IsOf (Had v) t = ⊥

      -- a procedure or a method that is named, or none, whatever procedure types there are
      pub IsNamed : Expr → Type 0
      IsNamed (Lit l) = l ≡ literal.NoProcedure
      IsNamed (ProcedureOf m k) = (q : Procedure) × (procedure_in m k ≡ Some q)
      IsNamed (MethodOf e j k) =
          IsOf e (Named j) × (is_object (row_of p.types (id_of (Named j))) ≡ true) × ((q : Procedure) × (method_in p j k ≡ Some q))
      IsNamed _ = ⊥

    -- values that are objects
    abbrev pub AreObjects : Expr → Type 0
    AreObjects e = (u : TType) × IsOf e u × (is_reference p.types u ≡ true)

    abbrev pub AreLengthsOf : List Expr → Type 0
    AreLengthsOf [] = Unit {0}
    AreLengthsOf (e ∷ es) = IsOf e (Integer W64) × AreLengthsOf es

    abbrev pub IsCall : Call → Type 0
    IsCall OutOpen = Unit {0}
    IsCall (OutChar e) = IsOf e Char
    IsCall (OutInt a b) = IsOf a (Integer W64) × IsOf b (Integer W64)
    IsCall (OutString r) = AreRows r 1 Char
    IsCall OutLn = Unit {0}

    -- what the initializer of a type is handed, where it has one
    abbrev pub IsInitialized : (slot : Option ℕ) → (type : ℕ) → Arguments → Type 0
    IsInitialized None t more = more ≡ NoMore
    IsInitialized (Some k) t more = (q : Procedure) × (method_in p t k ≡ Some q) × (q.result ≡ None) × AreArguments more q.parameters

    -- what a RETURN gives: nothing where the procedure is a proper one, or in a body that is no procedure's
    abbrev pub IsReturn : Option Expr → Option TType → Type 0
    IsReturn None None = Unit {0}
    IsReturn None (Some t) = ⊥
    IsReturn (Some e) None = ⊥
    IsReturn (Some e) (Some t) = IsOf e t

    -- a statement is well typed, and so is each of a sequence
    abbrev mutual
      pub IsStatement : Stat → Type 0
      IsStatement (Assign at t place e) = IsPlaceOf place t × (is_value p.types t ≡ true) × IsOf e t
      IsStatement (Copy at t to from) =
          IsPlaceOf to t × ((u : TType) × IsPlaceOf from u × (comes_to p.types (id_of u) (id_of t) ≡ true))
          × (is_whole (row_of p.types (id_of t)) ≡ true)
      IsStatement (PutText at strict from to) = AreRows from 1 Char × AreRows to 1 Char × HaveLengths to × AreVariables to
      IsStatement (If at arms) = AreArms arms
      IsStatement (Case at e cases) = (IsOf e (Integer W64) ⊎ IsOf e Char) × AreApart (labels_of cases) × AreCases cases
      IsStatement (While at e body) = IsOf e Boolean × AreStatements body
      IsStatement (Repeat at body e) = AreStatements body × IsOf e Boolean
      IsStatement (Loop at body) = AreStatements body
      IsStatement (Exit at) = Unit {0}
      IsStatement (For at w place from to step body) =
          (is_variable place ≡ true) × IsPlaceOf place (Integer w) × IsOf from (Integer w) × IsOf to (Integer w)
          × IsWithin w step × AreStatements body
      IsStatement (Block at exclusive body) = AreStatements body
      IsStatement (Await at n e) = IsOf e Boolean × HasNoCalls e
      IsStatement (Assert at e code) = IsOf e Boolean × (code < 256)
      IsStatement (Halt at code) = code < 256
      IsStatement (Change at c place e) = IsPlaceOf place (changed_type c) × IsOf e (amount_type c)
      IsStatement (Perform at c more) = (q : Procedure) × IsCalled c q × (q.result ≡ None) × AreArguments more q.parameters
      IsStatement (Return at e) = IsReturn e (result_of own)
      IsStatement (New at place t more) =
          IsPlaceOf place (Named t) × (is_object (row_of p.types (id_of (Named t))) ≡ true) × IsInitialized (initializer p t) t more
      IsStatement (Make at place t ns) =
          ((u : TType) × IsPlaceOf place u × (target p.types u ≡ Some (id_of (Named t)))) × (t < length p.objects)
          × (is_object (row_of p.types (id_of (Named t))) ≡ false) × AreLengthsOf ns × (length ns ≡ open_dimensions p.types (id_of (Named t)))
      IsStatement (With at e body) = AreObjects e × AreStatements body
      IsStatement (WithRecord at place body) = ((u : TType) × IsPlaceOf place u × NamesType place u) × AreStatements body
      IsStatement (Out at call) = IsCall call

      pub AreStatements : Stats → Type 0
      AreStatements Nothing = Unit {0}
      AreStatements (Then s ss) = IsStatement s × AreStatements ss

      pub AreArms : Arms → Type 0
      AreArms (Otherwise ss) = AreStatements ss
      AreArms (Arm e ss arms) = IsOf e Boolean × AreStatements ss × AreArms arms

      pub AreCases : Cases → Type 0
      AreCases NoElse = Unit {0}
      AreCases (Else ss) = AreStatements ss
      AreCases (OfLabels rs ss cases) = All AreLabels rs × AreStatements ss × AreCases cases

-- a module's name: a letter, and then letters, digits and `_`
abbrev pub is_in_name : ℕ → Bool
is_in_name c = (is_ascii_alphabetic c || is_ascii_digit c) || c == 95

abbrev pub is_ident : List ℕ → Bool
is_ident [] = false
is_ident (c ∷ cs) = is_ascii_alphabetic c && list_all is_in_name cs

-- Declarations.

-- No type contains itself, the base of a record is a record and that of an object type is one, and no type has more scalars than a type
-- may have.
pub record AreTypes (rows : List TypeRow) : Type 0 where
  pub none_contains_itself : NoneContainsItself rows
  pub bases : (t b : TypeId) → base_of (row_of rows t) ≡ Some b → has_fields (row_of rows b) ≡ true
  pub record_bases : (t b : TypeId) → base_of (row_of rows t) ≡ Some b → is_record (row_of rows b) ≡ is_record (row_of rows t)
  pub sizes : (t : TypeId) → scalars rows t ≤ MOST_SCALARS

-- a type that is there
abbrev pub IsType : Program → TType → Type 0
IsType p t = (id_of t).0 < length p.types

-- a variable's type is no open array
pub record IsVariableType (p : Program) (t : TType) : Type 0 where
  pub there : IsType p t
  pub closed : is_open (row_of p.types (id_of t)) ≡ false

abbrev pub IsResult : Program → Option TType → Type 0
IsResult p None = Unit {0}
IsResult p (Some t) = is_scalar (row_of p.types (id_of t)) ≡ true

pub record IsProcedure (p : Program) (x : Procedure) : Type 0 where
  pub parameters : All (λ a. IsType p a.of) x.parameters
  pub locals : All (λ v. IsVariableType p v.of) x.locals
  pub result : IsResult p x.result
  pub body : AreStatements p (Some x) x.body.statements

-- What stands beside types.

-- a method overrides another one with the same formals and the same result, an initializer an initializer
abbrev pub Overrides : Program → (method other : Procedure) → Type 0
Overrides p q r = HasFormals p.types q r × (q.is_initializer ≡ r.is_initializer)

-- an initializer is no function
abbrev pub IsMethod : Program → (type : ℕ) → Procedure → Type 0
IsMethod p t q = IsProcedure p q × (q.of ≡ Some t) × (q.is_initializer ≡ true → q.result ≡ None)

-- each of a type's methods is a new one, whose slot is the next behind those before, or overrides the one in its slot
abbrev pub AreSlots : Program → List Procedure → List Method → Type 0
AreSlots p table [] = Unit {0}
AreSlots p table (m ∷ ms) =
    ((m.slot ≡ length table) ⊎ ((r : Procedure) × (slice_get table m.slot ≡ Some r) × Overrides p m.procedure r))
    × AreSlots p (put_at table (slot_of m)) ms

-- what stands for the procedures with these formals is no body, and nothing runs it
pub record IsPattern (q : Procedure) (formals : List (Bool × TypeId)) (r : Option TypeId) : Type 0 where
  pub own : q.of ≡ None
  pub parameters : map (λ a. (a.by_reference, id_of a.of)) q.parameters ≡ formals
  pub result : option_map id_of q.result ≡ r

-- an object's body has neither parameters nor a result
pub record IsBody (t : ℕ) (q : Procedure) : Type 0 where
  pub own : q.of ≡ Some t
  pub plain : q.parameters ≡ []
  pub proper : q.result ≡ None

abbrev pub IsBeside : ℕ → Procedure → Option TypeRow → Type 0
IsBeside t q (Some (row.Procedure formals r)) = IsPattern q formals r
IsBeside t q r = IsBody t q

-- what stands beside the type of this number
pub record IsObjectType (p : Program) (t : ℕ) (o : ObjectType) : Type 0 where
  pub body : IsProcedure p o.body
  pub beside : IsBeside t o.body (row_of p.types (id_of (Named t)))
  pub bare : o.body.locals ≡ []
  pub methods : All (λ m. IsMethod p t m.procedure) o.methods
  pub slots : AreSlots p (on_base (methods_of p) (base_type p t)) o.methods
  -- what is no object type has neither a body nor methods
  pub others : (is_object (row_of p.types (id_of (Named t))) ≡ true) ⊎ ((o.has_body ≡ false) × (o.methods ≡ []))

-- of types that are numbered on from this number
abbrev pub AreObjectTypes : Program → ℕ → List ObjectType → Type 0
AreObjectTypes p t [] = Unit {0}
AreObjectTypes p t (o ∷ os) = IsObjectType p t o × AreObjectTypes p (suc t) os

-- how many scalars the variables of a module have
abbrev pub module_scalars : Program → Module → ℕ
module_scalars p m = sum_by (λ v. variable_scalars p.types (id_of v.of)) m.variables

-- A program has 1 to 64 modules, whose names are idents and differ; all statements of all bodies are well typed, the codes of string constants are
-- those of characters, what stands beside a type is of a module of the program, and all declarations are as they are to be.
pub record HasTypedParts (p : Program) : Type 0 where
  pub some : 1 ≤ length p.modules
  pub few : length p.modules ≤ 64
  pub names : All (λ m. is_ident m.name ≡ true) p.modules
  pub differ : AllPairs (λ m n. m.name ≢ n.name) p.modules
  pub bodies : All (λ m. AreStatements p None m.body.statements) p.modules
  pub objects : AreObjectTypes p 0 p.objects
  pub homes : All (λ o. o.home < length p.modules) p.objects
  pub types : AreTypes p.types
  pub texts : All (λ m. All (λ t. All (λ c. c < 256) t) m.texts) p.modules
  pub predeclared : (k : ℕ) → k < predeclared_types → slice_get p.types k ≡ slice_get predeclared_rows k
  pub beside : length p.types ≡ length p.objects + predeclared_types
  pub variables : All (λ m. All (λ v. IsVariableType p v.of) m.variables) p.modules
  pub few_scalars : All (λ m. module_scalars p m ≤ MOST_SCALARS) p.modules
  pub procedures : All (λ m. All (λ q. IsProcedure p q × (q.of ≡ None)) m.procedures) p.modules

-- What is asked of it beside types; the variables of all modules together have no more scalars than a type may have.
pub record ProgramKeepsRules (p : Program) : Type 0 where
  pub modules : All ModuleKeepsRules p.modules
  pub objects : All ObjectKeepsRules p.objects
  pub rows : RowsKeepRules p.types
  pub scalars : sum_by (module_scalars p) p.modules ≤ MOST_SCALARS

-- Its parts are well typed, whatever the numbers of its conditions, and these are numbered in their order; and it keeps the rules beside
-- types.
pub record IsWellTyped (p : Program) : Type 0 where
  pub parts : HasTypedParts p
  pub conditions : HasNumbers p
  pub rules : ProgramKeepsRules p
