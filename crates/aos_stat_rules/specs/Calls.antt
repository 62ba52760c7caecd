-- The third pass: calls as statements, by what is known of their parts. NEW takes a pointer or an object variable, with the arguments of
-- the object's initializer. A call that isn't built is refused at its first token.
use Rattle.std.specs.Prelude.{ℕ, ◌-◌, ◌||◌, take, List, [], ◌∷◌, ◌++◌, length, Bool, true, false, not, ◌&&◌, Option, Some, None, is_some, if◌then◌else◌, ◌==◌}
use Rattle.std.specs.Option.{is_none, unwrap_or}
use Rattle.aos_base.specs.Operators.{natural}
use Rattle.aos_base.specs.declared.text.Pos.{Pos}
use Rattle.aos_tree.specs.declared.expr.Expr.{Expr as TreeExpr}
use Rattle.aos_tree.specs.declared.expr.Selector.{Selector, items-the_row-Expr}
use Rattle.aos_tree.specs.declared.expr.Selector.TheVariants as s
use Rattle.aos_typed.specs.Program.{Call, Expr as Typed, Stat, PutText, Change, Out}
use Rattle.aos_typed.specs.declared.tree.TextConstant.{TextConstant}
use Rattle.aos_typed.specs.declared.tree.Literal.{Literal}
use Rattle.aos_typed.specs.declared.tree.Literal.TheVariants as literal
use Rattle.aos_typed.specs.declared.tree.Change.{Change as Changing}
use Rattle.aos_typed.specs.declared.tree.Change.TheVariants as change
use Rattle.aos_symbols.specs.declared.breach.Breach.{Breach}
use Rattle.aos_symbols.specs.declared.scope.Meaning.{Meaning}
use Rattle.aos_symbols.specs.declared.scope.Meaning.TheVariants as means
use Rattle.aos_symbols.specs.declared.scope.Routine.{Routine}
use Rattle.aos_symbols.specs.declared.scope.Routine.TheVariants as routine
use Rattle.aos_symbols.specs.declared.env.Lookup.{Lookup}
use Rattle.aos_symbols.specs.declared.env.Lookup.TheVariants.{Unknown as NoName, NotExported, Found}
use Rattle.aos_members.specs.declared.objects.Method.{Method}
use Rattle.aos_symbols.specs.declared.env.Env.{Env}
use Rattle.aos_symbols.specs.Breaches.{breach, breach_unless}
use Rattle.aos_symbols.specs.Judged.{Judged, judged, kept, bind}
use Rattle.aos_members.specs.Members as members
use Rattle.aos_types.specs.declared.row.TypeId.{TypeId}
use Rattle.aos_typed.specs.Open.{open_dimensions}
use Rattle.aos_known.specs.declared.known.Class.{Class}
use Rattle.aos_known.specs.declared.known.Class.TheVariants.{Unknown, Constant, Variable, ReadOnly}
use Rattle.aos_known.specs.Known.{Answer, Entity, passes, is_number, is_set, fits, width_of}
use Rattle.aos_known.specs.Places.{place_of}
use Rattle.aos_values.specs.Assignable as assignable
use Rattle.aos_values.specs.Arrays.{is_characters, is_opening, text_rows, array_rows, text_for, has_room}
use Rattle.aos_designators.specs.Designators as desig
use Rattle.aos_designators.specs.Designators.{written}
use Rattle.aos_bound.specs.Methods.{Part, entity_of_part}

-- a statement that breaks a rule is none
abbrev pub refused : ℕ → Pos → Judged (Option Stat)
refused rule at = judged (breach rule at) None

abbrev pub not_yet : Pos → Judged (Option Stat)
not_yet at = refused 99 at

-- a procedure of Out that has no arguments
abbrev pub plain_call : Call → Pos → List TreeExpr → Judged (Option Stat)
plain_call c at [] = kept (Some (Out at c))
plain_call c at xs = refused 34 at

-- a call that gives no value has nothing behind it
abbrev pub ended : Pos → List Selector → Judged (Option Stat) → Judged (Option Stat)
ended first [] j = j
ended first (s.Field p n ∷ more) j = bind j (λ x. judged (breach 42 p) x)
ended first (s.Index' p shape row ∷ more) j = bind j (λ x. judged (breach 42 p) x)
ended first (s.Follow p ∷ more) j = bind j (λ x. judged (breach 42 p) x)
ended first (s.Paren' p shape row ∷ more) j = bind j (λ x. judged (breach 36 first) x)

-- the arguments of a call, and what stands behind it: a call without parentheses has none
abbrev pub arguments : List Selector → List TreeExpr
arguments (s.Paren' p shape row ∷ more) = items-the_row-Expr _ row
arguments _ = []

abbrev pub behind_arguments : List Selector → List Selector
behind_arguments (s.Paren' p shape row ∷ more) = more
behind_arguments xs = xs

-- a selector that is no bracket stands behind the name of a procedure, which has no parts
abbrev pub is_selected : List Selector → Bool
is_selected [] = false
is_selected (s.Paren' p shape row ∷ more) = false
is_selected (s.Field p n ∷ more) = true
is_selected (s.Index' p shape row ∷ more) = true
is_selected (s.Follow p ∷ more) = true

-- and behind the name of a procedure of Out
abbrev pub is_selected_behind : List Selector → Bool
is_selected_behind (s.Field p n ∷ more) = is_selected more
is_selected_behind _ = false

-- more than a bracket stands behind the name of a procedure, so that a call of it is a part of a designator
abbrev pub goes_on : List Selector → Bool
goes_on (s.Paren' p shape row ∷ more) = not (length more == 0)
goes_on xs = is_selected xs

-- all selectors but the last one
abbrev pub before_last : List Selector → List Selector
before_last xs = take (length xs - 1) xs

-- NEW stands at the first place, its argument, a pointer or an object variable that may be written, at the second.

abbrev pub is_made : Env → Option TypeId → Bool
is_made e = passes (λ t. desig.is_pointer_type e t || desig.is_object_type e t)

abbrev pub new_breaches : Env → Pos → Pos → Option TypeId → Class → List Breach
new_breaches e at first of c = breach_unless (is_made e of) 47 at ++ written c first

-- of what isn't a variable nothing more is asked
abbrev pub is_no_variable : Class → Bool
is_no_variable Unknown = false
is_no_variable Variable = false
is_no_variable ReadOnly = false
is_no_variable c = true

-- there is a length for each open dimension of the array that a pointer leads to, and none elsewhere
abbrev pub lengths_wanted : Env → TypeId → ℕ
lengths_wanted e t = by (desig.pointed e t)
  where
    by : Option TypeId → ℕ
    by None = 0
    by (Some u) = open_dimensions e.types u

abbrev pub count_breaches : Env → Pos → Option TypeId → ℕ → List Breach
count_breaches e at None n = []
count_breaches e at (Some t) n = breach_unless (not (is_made e (Some t)) || lengths_wanted e t == n) 34 at

abbrev pub made_type : Env → Option TypeId → ℕ
made_type e None = 0
made_type e (Some t) = desig.made_number e t

-- it makes an object, and not what a pointer leads to
abbrev pub makes_object : Env → Option TypeId → Bool
makes_object e None = false
makes_object e (Some t) = desig.is_object_type e t

-- the initializer of a type, where it has one
abbrev pub initializer_of : Env → Option TypeId → Option Method
initializer_of e None = None
initializer_of e (Some t) = members.initializer e t

-- a length is an integer; in NEW of what isn't known it may be something else
abbrev pub may_be_length : (made length : Option TypeId) → Bool
may_be_length None length = true
may_be_length (Some t) length = is_number length

-- what is no procedure isn't called
abbrev pub no_call : Pos → Option TypeId → Judged (Option Stat)
no_call at None = kept None
no_call at (Some of) = refused 36 at

-- what a predeclared function or the name of a type gives is a value
abbrev pub gives_value : Meaning → Bool
gives_value (means.Function f) = true
gives_value (means.Type of) = is_some of
gives_value m = false

abbrev pub is_value_called : Lookup → Bool
is_value_called NoName = false
is_value_called NotExported = false
is_value_called (Found x) = gives_value x.means

-- INC, DEC, INCL and EXCL of a variable, by a value or by 1: the variable is of an integer type, or a set
abbrev pub changing : Routine → Option TypeId → Changing
changing routine.Dec of = change.Subtract (width_of of)
changing routine.Incl of = change.Include
changing routine.Excl of = change.Exclude
changing r of = change.Add (width_of of)

abbrev pub is_changed_set : Routine → Bool
is_changed_set routine.Incl = true
is_changed_set routine.Excl = true
is_changed_set r = false

-- what a variable is changed by: an element of any integer type, or a number that fits the variable
abbrev pub is_amount : Routine → Option TypeId → Option TypeId → Bool
is_amount r of by = is_number by && (is_changed_set r || fits by of)

-- what it changes is of an integer type, or a set
abbrev pub is_changed : Routine → Option TypeId → Bool
is_changed r of = if is_changed_set r then is_set of else is_number of

abbrev pub changed_breaches : Routine → Pos → Entity → List Breach
changed_breaches r first a = written a.known.class first ++ breach_unless (is_changed r a.known.of) 35 first

abbrev pub changed_by : Routine → Pos → Entity → Typed → Stat
changed_by r at a by = Change at (changing r a.known.of) (place_of a.held) by

-- the code of a trap: a constant 0 to 255
abbrev pub code_of : Option Literal → Option ℕ
code_of (Some (literal.Int n)) = natural 256 n
code_of v = None

abbrev pub is_code : Class → Bool
is_code Unknown = true
is_code (Constant v) = is_none v || is_some (code_of v)
is_code c = false

abbrev pub code_in : Class → ℕ
code_in (Constant v) = unwrap_or (code_of v) 0
code_in c = 0

module _ (e : Env) where
  -- the string constant that is stored in an array of characters
  abbrev pub text_to : Entity → Answer → Option TextConstant
  text_to a v = text_for e a.known v.known.class

  -- a string constant fits where there is room for its 0X; no other value fits an open array, but one that may be anything
  abbrev pub value_fits : Entity → Answer → Option TextConstant → Bool
  value_fits a v (Some t) = has_room e a.known.of t
  value_fits a v None =
      assignable.is_assignable e v.known a.known.of && (is_none v.known.of || not (is_opening e a.known.of))

  -- the text of a part is put in an array of characters
  abbrev pub put_text : Pos → Bool → Answer → Entity → Stat
  put_text at strict v a = PutText at strict (text_rows e v) (array_rows e 1 a.known.of (place_of a.held))

  -- COPY, whose second argument is an array of characters that is a variable
  abbrev pub copied : Pos → Answer → Pos → Entity → Judged (Option Stat)
  copied at v second a =
      judged (written a.known.class second ++ breach_unless (passes (λ t. is_characters e a.known) a.known.of) 35 second)
      (Some (put_text at false v a))

  -- of a variable or a value
  abbrev pub called_entity : (first : Pos) → Judged Part → Judged (Option Stat)
  called_entity first j = bind (bind j (entity_of_part e)) (λ a. no_call first a.known.of)
