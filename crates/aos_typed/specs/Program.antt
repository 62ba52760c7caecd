-- The typed program as clauses see it: trees and lists, whatever memory the code keeps it in.
-- Literals, operators and types have no parts in memory, so they are the code's own.
use Rattle.std.specs.Prelude.{ℕ, ℤ, List, Bool, Option}
use Rattle.aos_base.specs.declared.text.Pos.{Pos}
use Rattle.aos_base.specs.declared.number.Relation.{Relation}
use Rattle.aos_base.specs.declared.operator.Unary.{Unary as UnaryOperator}
use Rattle.aos_base.specs.declared.operator.Binary.{Binary as BinaryOperator}
use Rattle.aos_base.specs.declared.priority.Priority.{Priority}
use Rattle.aos_types.specs.declared.row.TypeRow.{TypeRow}
use Rattle.aos_base.specs.declared.number.Width.{Width}
use Rattle.aos_typed.specs.declared.tree.Literal.{Literal}
use Rattle.aos_typed.specs.declared.tree.Change.{Change as Changing}
use Rattle.aos_typed.specs.declared.tree.LabelRange.{LabelRange}
use Rattle.aos_typed.specs.declared.tree.TType.{TType}
use Rattle.aos_typed.specs.Value.{Value}

mutual
  -- a designator: a variable of a module, by the module's number in load order and the variable's number, on from which its string
  -- constants are numbered; a field of a record or an object, by that one's type and its number; or an element of an array, which has
  -- so many of this type, by its index
  pub data Place : Type 0 where
    ModuleVar : (home number : ℕ) → Place
    Local : (number : ℕ) → Place  -- a local of the procedure, or a parameter by value that is no open array
    Passed : (number : ℕ) → Place  -- what a VAR parameter stands for that is no open array
    Field : (whole : Place) → (of : TType) → (number : ℕ) → Place
    Index : (whole : Place) → (elements : ℕ) → (of : TType) → Expr → Place
    Of : Rows → Place  -- an element of an open array, behind all its dimensions
    Deref : Expr → (of : TType) → Place  -- the record or the array of this type that an object is, or the object with its fields
    Typed : Place → (type : ℕ) → Place  -- a record with its type, by the type's number
    Guarded : Place → (type : ℕ) → Place  -- what a VAR parameter stands for, where that is a record whose type extends this one

  -- an array with the lengths of some of its dimensions, the first ones: one whose lengths are known, an open array parameter, which
  -- has so many open dimensions, or an element of an array with open dimensions, by its index. The elements behind all dimensions
  -- that are open or given are of a type
  pub data Rows : Type 0 where
    Known : Place → List ℕ → Rows
    Opened : (number dimensions : ℕ) → Rows
    Row : Rows → (of : TType) → Expr → Rows
    Spread : Expr → (dimensions : ℕ) → Rows  -- the open array that an object is, with so many open dimensions
    Longer : Rows → List ℕ → Rows  -- with the known lengths of dimensions behind

  -- what a call hands over: a value; the place of a record or an array by value, which is copied, or of a variable for a VAR parameter;
  -- or an array for an open one
  pub data Arguments : Type 0 where
    NoMore : Arguments
    Scalar : Expr → Arguments → Arguments
    Whole : Place → Arguments → Arguments
    Opening : Rows → Arguments → Arguments

  -- what is called: a procedure of a module, by the numbers of both; the method that an object's own type has in a slot, where the
  -- object is known to be of a type; the method that a type has in a slot, called on SELF; or what a value of a procedure type stands for
  pub data Callee : Type 0 where
    Plain : (home number : ℕ) → Callee
    Dispatched : Expr → (type slot : ℕ) → Callee
    Upper : (type slot : ℕ) → Callee
    Through : Expr → (type : ℕ) → Callee

  -- a text is an array of characters with its length; a length is that of an array whose place is found before, of one of its
  -- dimensions that are open, or of one behind these
  pub data Expr : Type 0 where
    Lit : Literal → Expr
    SelfRef : Expr  -- the object whose method or body it is in
    Read : TType → Place → Expr
    Unary : UnaryOperator → Expr → Expr
    Binary : BinaryOperator → Expr → Expr → Expr
    And : Expr → Expr → Expr
    Or : Expr → Expr → Expr
    Element : Expr → Expr
    Ord : Expr → Expr
    Chr : Expr → Expr
    CompareTexts : Relation → (left right : Rows) → Expr
    Len : Rows → (dimension : ℕ) → Expr
    LenBehind : Rows → (length : ℕ) → Expr
    Function : Callee → Arguments → Expr
    Same : Expr → Expr → Expr  -- whether both are one object, or NIL
    Is : Expr → (type : ℕ) → Expr  -- whether an object's type extends this one
    IsRecord : Place → (type : ℕ) → Expr  -- whether the type of the record that a VAR parameter stands for does
    Guard : Expr → (type : ℕ) → Expr  -- an object whose type does
    ProcedureOf : (home number : ℕ) → Expr
    MethodOf : Expr → (type slot : ℕ) → Expr  -- with the object, which is known to be of a type
    SameProcedure : Expr → Expr → Expr
    Had : Value → Expr  -- a value that stands for what was read before; no text has one

-- a call of a procedure of module Out: the number, and in how many places it stands; a text, by its place and the number of elements
-- there
pub data Call : Type 0 where
  Open : Call
  Char : Expr → Call
  Int : Expr → Expr → Call
  String : Rows → Call
  Ln : Call

-- a statement with its place in the text, and a sequence of them. A text is put in an array of characters with room for so many; a
-- strict one must fit
mutual
  pub data Stat : Type 0 where
    Assign : Pos → TType → Place → Expr → Stat
    Copy : Pos → TType → (to from : Place) → Stat
    PutText : Pos → (strict : Bool) → (from to : Rows) → Stat
    If : Pos → Arms → Stat
    Case : Pos → Expr → Cases → Stat
    While : Pos → Expr → Stats → Stat
    Repeat : Pos → Stats → Expr → Stat
    Loop : Pos → Stats → Stat
    Exit : Pos → Stat
    For : Pos → Width → Place → (from to : Expr) → (step : ℤ) → Stats → Stat
    Block : Pos → (exclusive : Bool) → Stats → Stat  -- an exclusive one is a region of its body's lock
    Await : Pos → (number : ℕ) → Expr → Stat  -- a condition, with its number among those of the program
    Assert : Pos → Expr → (code : ℕ) → Stat
    Halt : Pos → (code : ℕ) → Stat
    Change : Pos → Changing → Place → Expr → Stat
    Perform : Pos → Callee → Arguments → Stat
    Return : Pos → Option Expr → Stat
    New : Pos → Place → (type : ℕ) → Arguments → Stat
    Make : Pos → Place → (type : ℕ) → (lengths : List Expr) → Stat
    With : Pos → Expr → Stats → Stat
    WithRecord : Pos → Place → Stats → Stat
    Out : Pos → Call → Stat

  pub data Stats : Type 0 where
    Nothing : Stats
    Then : Stat → Stats → Stats

  -- the arms of IF: those with a test, and the statements that are carried out where no test holds
  pub data Arms : Type 0 where
    Otherwise : Stats → Arms
    Arm : Expr → Stats → Arms → Arms

  -- the arms of CASE: those with labels, and ELSE, if there is one
  pub data Cases : Type 0 where
    NoElse : Cases
    Else : Stats → Cases
    OfLabels : List LabelRange → Stats → Cases → Cases

-- names are lists of bytes
pub record Variable : Type 0 where
  pub name : List ℕ
  pub of : TType

-- a parameter, by reference where VAR stands before it; the type of an open array parameter is an open array
pub record Parameter : Type 0 where
  pub name : List ℕ
  pub by_reference : Bool
  pub of : TType

-- what is carried out: statements, all of which are a region where the body is exclusive
pub record Body : Type 0 where
  pub is_exclusive : Bool
  pub statements : Stats

-- a procedure, with the place of its name, 0:0 where it has none, and its body; a proper one has no result. A method or an object's
-- body is of a type, by the type's number in the program; and a method may be an initializer
pub record Procedure : Type 0 where
  pub name : List ℕ
  pub at : Pos
  pub of : Option ℕ
  pub is_initializer : Bool
  pub parameters : List Parameter
  pub locals : List Variable
  pub result : Option TType
  pub body : Body

-- a method, with its slot: that of the method which it overrides, or else the next one
pub record Method : Type 0 where
  pub slot : ℕ
  pub procedure : Procedure

-- what stands beside a type: its name, which is empty where it has none, with its place, 0:0 then, the names of the fields that a type
-- with a name declares itself, the number of its module, the body of its objects, where it has one, which an activity of the object's own
-- carries out where it is active, and at which priority, and its own methods. The body of a procedure type is none: it has the type's
-- formals, and stands for all procedures that have them
pub record ObjectType : Type 0 where
  pub name : List ℕ
  pub at : Pos
  pub fields : List (List ℕ)
  pub home : ℕ
  pub has_body : Bool
  pub is_active : Bool
  pub priority : Priority
  pub body : Procedure
  pub methods : List Method

-- a module, with its string constants by the codes of their characters
pub record Module : Type 0 where
  pub name : List ℕ
  pub variables : List Variable
  pub texts : List (List ℕ)
  pub procedures : List Procedure
  pub body : Body

-- the modules in load order, the table of all types, of which the predeclared ones stand first, and what stands beside those
-- behind them
pub record Program : Type 0 where
  pub modules : List Module
  pub types : List TypeRow
  pub objects : List ObjectType
