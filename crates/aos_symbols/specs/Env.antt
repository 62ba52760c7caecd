-- What a name stands for at a place of a module (Active Oberon Language Report, Reali 2002, section on declarations and scope
-- rules): the scopes of the place's path are searched, the innermost first, then what is predeclared. A name of another module
-- is seen where it has an export mark.
use Rattle.std.specs.Prelude.{ℕ, ◌+◌, List, [], ◌∷◌, ◌++◌, length, Bool, true, false, ◌==◌, ◌||◌, ◌&&◌, nat_lt, codes, Option, Some, None, is_some, option_map, option_and_then, if◌then◌else◌, slice_get}
use Rattle.std.specs.Option.{option_or}
use Rattle.std.specs.Str.{bytes_eq}
use Rattle.std.specs.Map.{lookup as lookup_in}
use Rattle.aos_base.specs.declared.text.Pos.{Pos}
use Rattle.aos_tree.specs.declared.name.Name.{Name}
use Rattle.aos_types.specs.declared.row.TypeId.{TypeId}
use Rattle.aos_types.specs.declared.row.TypeRow.{TypeRow}
use Rattle.aos_typed.specs.declared.tree.Literal.{Literal}
use Rattle.aos_typed.specs.declared.tree.TextConstant.{TextConstant}
use Rattle.aos_typed.specs.Numbers.{predeclared_rows}
use Rattle.aos_symbols.specs.declared.scope.Meaning.{Meaning}
use Rattle.aos_symbols.specs.declared.scope.Meaning.TheVariants as means
use Rattle.aos_symbols.specs.declared.scope.Entry.{Entry}
use Rattle.aos_symbols.specs.declared.scope.Constant.{Constant}
use Rattle.aos_symbols.specs.declared.scope.Function.TheVariants as function
use Rattle.aos_symbols.specs.declared.scope.Routine.TheVariants as routine
use Rattle.aos_symbols.specs.declared.env.Open.{Open}
use Rattle.aos_symbols.specs.declared.env.Symbol.{Symbol}
use Rattle.aos_symbols.specs.declared.env.Narrowed.{Narrowed}
use Rattle.aos_symbols.specs.declared.env.Lookup.{Lookup}
use Rattle.aos_symbols.specs.declared.env.Lookup.TheVariants.{Unknown, NotExported, Found}
use Rattle.aos_symbols.specs.declared.env.Env.{Env}
use Rattle.aos_symbols.specs.Spelling.{word}
use Rattle.aos_symbols.specs.Scope.{Scope, find}
use Rattle.aos_types.specs.declared.signature.Signature.{Signature}
use Rattle.aos_symbols.specs.Home.{Home, signature_in, string_number, string_in, character}

-- the types that stand first in each table; those that modules declare come behind them
abbrev pub basic_rows : List TypeRow
basic_rows = predeclared_rows

abbrev pub shortint : TypeId
shortint = record { 0 = 0 }

abbrev pub integer : TypeId
integer = record { 0 = 1 }

abbrev pub longint : TypeId
longint = record { 0 = 2 }

abbrev pub hugeint : TypeId
hugeint = record { 0 = 3 }

abbrev pub boolean : TypeId
boolean = record { 0 = 4 }

abbrev pub char : TypeId
char = record { 0 = 5 }

abbrev pub set : TypeId
set = record { 0 = 6 }

-- the type of NIL, which no name stands for
abbrev pub nil : TypeId
nil = record { 0 = 7 }

abbrev pub any : TypeId
any = record { 0 = 8 }

-- the type of the string constants but those of one character, whose lengths stand beside them
abbrev pub text : TypeId
text = record { 0 = 9 }

-- what a procedure that is named as a value has in the place of a type's number: the number behind those of all types, so that no
-- variable has it, and no row
abbrev pub procedure : Env → TypeId
procedure e = record { 0 = length e.types }

-- what the module with a number has declared
abbrev pub home : Env → ℕ → Option Home
home e m = if m == e.number then Some e.here else slice_get e.before m

abbrev pub scope : Env → Open → Option Scope
scope e o = option_and_then (λ h. slice_get h.scopes o.scope) (home e o.home)

-- a module's own scope
abbrev pub own : ℕ → Open
own m = record { home = m; scope = 0 }

abbrev pub declared_at : Open → Entry → Symbol
declared_at o x = record { at = o; mark = x.mark; means = x.means }

abbrev pub in_scope : Env → Open → List ℕ → Option Symbol
in_scope e o w = option_map (declared_at o) (option_and_then (λ s. find s w) (scope e o))

-- in the first scope that has the word
abbrev pub in_path : Env → List Open → List ℕ → Option Symbol
in_path e [] w = None
in_path e (o ∷ os) w = option_or (in_scope e o w) (in_path e os w)

abbrev pub is_import : Meaning → Bool
is_import (means.Module m) = true
is_import means.Out = true
is_import (means.Constant k) = false
is_import (means.Type of) = false
is_import (means.Variable k) = false
is_import (means.Procedure k) = false
is_import (means.Truth b) = false
is_import (means.Function f) = false
is_import (means.Routine r) = false
is_import means.Proper = false
is_import means.Itself = false
is_import means.Other = false

-- a name of another module has a mark
abbrev pub if_seen : Env → Symbol → Lookup
if_seen e s = if s.at.home == e.number || is_some s.mark then Found s else NotExported

-- the predeclared names
abbrev pub predeclared : List (List ℕ × Meaning)
predeclared =
    (codes "SHORTINT", means.Type (Some shortint)) ∷ (codes "INTEGER", means.Type (Some integer))
    ∷ (codes "LONGINT", means.Type (Some longint)) ∷ (codes "HUGEINT", means.Type (Some hugeint))
    ∷ (codes "BOOLEAN", means.Type (Some boolean)) ∷ (codes "CHAR", means.Type (Some char))
    ∷ (codes "SET", means.Type (Some set)) ∷ (codes "ANY", means.Type (Some any))
    ∷ (codes "FALSE", means.Truth false) ∷ (codes "TRUE", means.Truth true)
    ∷ (codes "ABS", means.Function function.Abs) ∷ (codes "ASH", means.Function function.Ash)
    ∷ (codes "CAP", means.Function function.Cap) ∷ (codes "CHR", means.Function function.Chr)
    ∷ (codes "LONG", means.Function function.Long) ∷ (codes "MAX", means.Function function.Max)
    ∷ (codes "MIN", means.Function function.Min) ∷ (codes "ODD", means.Function function.Odd)
    ∷ (codes "ORD", means.Function function.Ord) ∷ (codes "SHORT", means.Function function.Short)
    ∷ (codes "LEN", means.Function function.Len)
    ∷ (codes "ASSERT", means.Routine routine.Assert) ∷ (codes "COPY", means.Routine routine.Copy)
    ∷ (codes "DEC", means.Routine routine.Dec) ∷ (codes "EXCL", means.Routine routine.Excl)
    ∷ (codes "HALT", means.Routine routine.Halt) ∷ (codes "INC", means.Routine routine.Inc)
    ∷ (codes "INCL", means.Routine routine.Incl) ∷ (codes "NEW", means.Routine routine.New)
    ∷ (codes "SELF", means.Itself) ∷ []

abbrev pub predeclared_meaning : List ℕ → Option Meaning
predeclared_meaning w = lookup_in (λ k. bytes_eq k w) predeclared

-- a predeclared name lies in no scope
abbrev pub predeclared_symbol : Env → Option Meaning → Lookup
predeclared_symbol e None = Unknown
predeclared_symbol e (Some m) = Found (record { at = own e.number; mark = None; means = m })

abbrev pub looked_up : Env → List ℕ → Option Symbol → Lookup
looked_up e w None = predeclared_symbol e (predeclared_meaning w)
looked_up e w (Some s) = if_seen e s

-- a plain name
abbrev pub lookup : Env → Name → Lookup
lookup e n = let w = word e.here.text n in looked_up e w (in_path e e.path w)

-- what a module imports is no name of it
abbrev pub if_declared : Env → Option Symbol → Lookup
if_declared e None = Unknown
if_declared e (Some s) = if is_import s.means then Unknown else if_seen e s

-- a name of the module with a number
abbrev pub member : Env → ℕ → Name → Lookup
member e m n = if_declared e (in_scope e (own m) (word e.here.text n))

abbrev pub joined : {A : Type 0} → Option (Option A) → Option A
joined None = None
joined (Some a) = a

-- the type of the variable with a number of a scope, where it is known
abbrev pub variable_type : Env → Open → ℕ → Option TypeId
variable_type e o k = joined (option_and_then (λ s. slice_get s.variables k) (scope e o))

-- a place of a text is before another
abbrev pub precedes : Pos → Pos → Bool
precedes a b = if a.line == b.line then nat_lt a.col b.col else nat_lt a.line b.line

-- A constant is used only behind its declaration: the value of the constant with a number of a scope, as a name that stands
-- here has it. There is nothing where it is declared later, and no value where its declaration breaks a rule.
abbrev pub constant : Env → Open → ℕ → Pos → Option (Option Literal)
constant e o k at = declared (option_and_then (λ s. slice_get s.constants k) (scope e o))
  where
    declared : Option Constant → Option (Option Literal)
    declared None = None
    declared (Some c) = if (o.home == e.number) && precedes at c.at then None else Some c.value

-- String constants: a module's stand behind its variables, of which it has so many.

abbrev pub variable_count : Env → ℕ → ℕ
variable_count e m = by (scope e (own m))
  where
    by : Option Scope → ℕ
    by None = 0
    by (Some s) = length s.variables

-- the number of a string constant among the variables
abbrev pub string_place : Env → TextConstant → ℕ
string_place e t = variable_count e t.home + t.number

-- its module's text has a string constant
abbrev pub has_string : Env → TextConstant → Bool
has_string e t = is_some (option_and_then (λ h. slice_get h.strings t.number) (home e t.home))

-- the bytes of a string constant
abbrev pub characters : Env → TextConstant → List ℕ
characters e t = by (home e t.home)
  where
    by : Option Home → List ℕ
    by None = []
    by (Some h) = string_in h t.number

-- the string constant that begins here with its quote, where the module has one there
abbrev pub text_constant : Env → (start : ℕ) → Option TextConstant
text_constant e start = option_map of_number (string_number e.here start)
  where
    first : List ℕ → ℕ
    first [] = 0
    first (b ∷ bs) = character b

    of_number : ℕ → TextConstant
    of_number k =
        let bytes = string_in e.here k in
        record { home = e.number; number = k; length = length bytes; first = first bytes }

-- the row of a type that is known
abbrev pub row_of : Env → Option TypeId → Option TypeRow
row_of e None = None
row_of e (Some t) = slice_get e.types t.0

-- the innermost scope at this place, by its number in the module
abbrev pub innermost : List Open → ℕ
innermost [] = 0
innermost (o ∷ os) = o.scope

-- the signature of the procedure in which this place stands; a body has none
abbrev pub own_signature : Env → Option Signature
own_signature e = signature_in e.here (innermost e.path)

-- the signature of a procedure of a module, where its heading is met
abbrev pub signature : Env → (home number : ℕ) → Option Signature
signature e m k = option_and_then (λ h. slice_get h.signatures k) (home e m)

-- at a place within the scope with a number
abbrev pub within : Env → ℕ → Env
within e k = record e { path = record { home = e.number; scope = k } ∷ e.path }

-- and back at a place with this path
abbrev pub back_at : List Open → Env → Env
back_at path e = record e { path = path }

-- within a WITH that narrows a variable
abbrev pub narrowing : Env → Narrowed → Env
narrowing e v = record e { narrowed = e.narrowed ++ v ∷ [] }
