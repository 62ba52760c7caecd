-- The arguments of a call: one for each parameter of the procedure (Oberon-2 report, 10.1 and appendix A).
use Rattle.std.specs.Prelude.{ℕ, zero, suc, List, [], ◌∷◌, ◌++◌, length, Bool, true, false, ◌&&◌, ◌||◌, nat_lt, Option, Some, None, is_some, option_and_then, if◌then◌else◌, not}
use Rattle.std.specs.Option.{is_none}
use Rattle.aos_base.specs.declared.limits.TheConstants.{MOST_SCALARS}
use Rattle.aos_base.specs.declared.text.Pos.{Pos}
use Rattle.aos_types.specs.declared.row.TypeId.{TypeId}
use Rattle.aos_types.specs.declared.row.TypeRow.{TypeRow}
use Rattle.aos_types.specs.declared.row.TypeRow.TheVariants as row
use Rattle.aos_types.specs.Table.{row_of}
use Rattle.aos_types.specs.Extension.{extends}
use Rattle.aos_types.specs.declared.signature.Parameter.{Parameter}
use Rattle.aos_typed.specs.declared.tree.TextConstant.{TextConstant}
use Rattle.aos_typed.specs.Open.{open_dimensions, open_element}
use Rattle.aos_typed.specs.Program.{Place, Rows, Arguments, NoMore, Scalar as ScalarFor, Whole as WholeFor, Opening as OpeningFor, Passed, Deref, Typed, Guarded, Expr}
use Rattle.aos_symbols.specs.declared.breach.Breach.{Breach}
use Rattle.aos_symbols.specs.declared.env.Env.{Env}
use Rattle.aos_symbols.specs.Breaches.{breach}
use Rattle.aos_symbols.specs.Judged.{Judged, judged}
use Rattle.aos_symbols.specs.Env as env
use Rattle.aos_known.specs.declared.known.Class.{Class}
use Rattle.aos_known.specs.declared.known.Class.TheVariants.{Unknown, Constant, Variable, ReadOnly, Computed, Procedure}
use Rattle.aos_known.specs.declared.known.Known.{Known}
use Rattle.aos_known.specs.Known.{Answer, is, passes, object_number}
use Rattle.aos_known.specs.Kinds.{has_parts, is_opened, is_record_type, is_value}
use Rattle.aos_known.specs.Places.{place_in}
use Rattle.aos_values.specs.Assignable.{is_assignable, typed_for}
use Rattle.aos_values.specs.Arrays.{is_array, is_characters, string_in, text_for, has_room, rows_in}
use Rattle.aos_arguments.specs.Filled.{filled_index, filled_place}

-- The rule that an argument breaks, if it breaks one.

abbrev pub broken_unless : ℕ → Bool → Option ℕ
broken_unless rule true = None
broken_unless rule false = Some rule

-- the first of two rules
abbrev pub or_else : Option ℕ → Option ℕ → Option ℕ
or_else None second = second
or_else (Some rule) second = Some rule

-- by reference: a variable, which may be written
abbrev pub variable_rule : (is_designator : Bool) → Class → Option ℕ
variable_rule false c = Some 32
variable_rule true Unknown = None
variable_rule true Variable = None
variable_rule true ReadOnly = Some 33
variable_rule true (Constant v) = Some 32
variable_rule true Computed = Some 32
variable_rule true (Procedure m n) = Some 32

-- the type of an array's elements, and the type behind so many dimensions
abbrev pub element_in : Option TypeRow → Option TypeId
element_in (Some (row.Array m u)) = Some u
element_in (Some (row.Open u)) = Some u
element_in r = None

abbrev pub behind_dimensions : List TypeRow → ℕ → TypeId → Option TypeId
behind_dimensions rows zero t = Some t
behind_dimensions rows (suc n) t = option_and_then (λ u. behind_dimensions rows n u) (element_in (row_of rows t))

-- an array agrees with an open array parameter where behind as many dimensions as are open in the parameter stand elements of the
-- parameter's
abbrev pub agrees : Env → (parameter array : TypeId) → Bool
agrees e t u = is_array e (Some u) && by (behind_dimensions e.types (open_dimensions e.types t) u)
  where
    by : Option TypeId → Bool
    by None = false
    by (Some of) = is (open_element e.types t) of

abbrev pub array_rule : Env → TypeId → Option TypeId → Option ℕ
array_rule e t None = None
array_rule e t (Some u) = broken_unless 35 (agrees e t u)

-- what is known of a variable
abbrev pub variable_of : TypeId → Known
variable_of t = record { of = Some t; class = Variable }

-- a string constant is meant for an open array of characters; one that is as long as no array may be isn't built
abbrev pub string_rule : Env → TypeId → TextConstant → Option ℕ
string_rule e t s =
    or_else (broken_unless 35 (is_characters e (variable_of t))) (broken_unless 99 (nat_lt (length (env.characters e s)) MOST_SCALARS))

abbrev pub open_rule : Env → TypeId → Known → Option ℕ
open_rule e t k = by (string_in e k.class)
  where
    by : Option TextConstant → Option ℕ
    by (Some s) = string_rule e t s
    by None = array_rule e t k.of

-- a value fits the parameter as in an assignment, and a string constant an array of characters that has room for it; each string constant
-- stands in the module's text or has a name in a module before it
abbrev pub value_rule : Env → TypeId → Known → Option ℕ
value_rule e t k = by (text_for e (variable_of t) k.class)
  where
    by : Option TextConstant → Option ℕ
    by (Some s) = or_else (broken_unless 35 (has_room e (Some t) s)) (broken_unless 99 (is_some (filled_index e s)))
    by None = or_else (broken_unless 35 (is_assignable e k (Some t))) (broken_unless 99 (is_value e t || has_parts e t))

-- by reference the types are the same, or are records of which the argument's extends the parameter's
abbrev pub is_referable : Env → TypeId → Option TypeId → Bool
is_referable e t of = passes (λ u. is t u || (is_record_type e t && extends e.types u t)) of

abbrev pub type_rule : Env → Parameter → Known → Option ℕ
type_rule e p k = by p.of
  where
    by : Option TypeId → Option ℕ
    by None = None
    by (Some t) =
        if is_opened e t then open_rule e t k
        else if p.by_reference then broken_unless 35 (is_referable e t k.of)
        else value_rule e t k

abbrev pub reference_rule : Parameter → (is_designator : Bool) → Class → Option ℕ
reference_rule p is_designator c = if p.by_reference then variable_rule is_designator c else None

abbrev pub argument_rule : Env → Parameter → (is_designator : Bool) → Known → Option ℕ
argument_rule e p is_designator k = or_else (reference_rule p is_designator k.class) (type_rule e p k)

-- A record for a VAR parameter: its place names the record's own type.

abbrev pub names_type : Place → Bool
names_type (Passed k) = true
names_type (Deref x t) = true
names_type (Typed q t) = true
names_type (Guarded q t) = true
names_type p = false

abbrev pub with_type : Env → Option TypeId → Place → Place
with_type e None p = p
with_type e (Some t) p = if is_record_type e t && not (names_type p) then Typed p (object_number t) else p

-- What an argument is in the typed program.

pub data Given : Type 0 where
  Scalar : Expr → Given
  Whole : Place → Given
  Opening : Rows → Given

abbrev pub given_as : Given → Arguments → Arguments
given_as (Scalar x) more = ScalarFor x more
given_as (Whole place) more = WholeFor place more
given_as (Opening r) more = OpeningFor r more

abbrev pub listed : List Given → Arguments
listed [] = NoMore
listed (g ∷ gs) = given_as g (listed gs)

-- a scalar by value is evaluated; a record or an array is found, a string constant where it has 0X behind it, and a variable by
-- reference, the place of a record with the record's own type
abbrev pub given_unopened : Env → (by_reference : Bool) → TypeId → Answer → Given
given_unopened e true t a = Whole (with_type e a.known.of (place_in a.typed))
given_unopened e false t a = by (text_for e (variable_of t) a.known.class)
  where
    by : Option TextConstant → Given
    by (Some s) = Whole (filled_place e s)
    by None = if has_parts e t then Whole (place_in a.typed) else Scalar (typed_for e (Some t) a)

abbrev pub given : Env → Parameter → Answer → Given
given e p a = by p.of
  where
    by : Option TypeId → Given
    by None = Scalar a.typed
    by (Some t) =
        if is_opened e t then Opening (rows_in e (open_dimensions e.types t) a) else given_unopened e p.by_reference t a

-- arguments so far, and whether each keeps the rules of the call
pub record Handing : Type 0 where
  pub are_kept : Bool
  pub given : List Given

abbrev pub nothing_handed : Bool → Handing
nothing_handed are_kept = record { are_kept = are_kept; given = [] }

abbrev pub breach_of : Option ℕ → Pos → List Breach
breach_of None at = []
breach_of (Some rule) at = breach rule at

-- one more argument, which begins here
abbrev pub handed : Env → Handing → Parameter → (is_designator : Bool) → Pos → Answer → Judged Handing
handed e h p is_designator at a =
    let rule = argument_rule e p is_designator a.known in
    judged (breach_of rule at) (record { are_kept = h.are_kept && is_none rule; given = h.given ++ given e p a ∷ [] })
