-- Arrays: the lengths of their dimensions, of which the first ones may be open, and texts. An array of characters is a text, and so
-- is a string constant (Oberon-2 report, 8.2.4 and 10.3).
use Rattle.std.specs.Prelude.{ℕ, zero, suc, ◌^◌, ◌-◌, List, [], ◌∷◌, length, Bool, true, false, not, ◌&&◌, ◌||◌, ◌==◌, nat_lt, Option, Some, None, is_some, if◌then◌else◌}
use Rattle.std.specs.Option.{is_none, unwrap_or}
use Rattle.aos_base.specs.Operators.{natural}
use Rattle.aos_types.specs.declared.row.TypeId.{TypeId}
use Rattle.aos_types.specs.declared.row.TypeRow.{TypeRow}
use Rattle.aos_types.specs.declared.row.TypeRow.TheVariants as row
use Rattle.aos_types.specs.Table.{row_of}
use Rattle.aos_typed.specs.declared.tree.Literal.TheVariants as literal
use Rattle.aos_typed.specs.declared.tree.TextConstant.{TextConstant}
use Rattle.aos_typed.specs.Open.{open_dimensions, open_element}
use Rattle.aos_typed.specs.Program.{Place, ModuleVar, Rows, Known as KnownRows, Longer}
use Rattle.aos_typed.specs.WellTyped.{dimension}
use Rattle.aos_symbols.specs.declared.env.Env.{Env}
use Rattle.aos_symbols.specs.Env as env
use Rattle.aos_known.specs.declared.known.Class.{Class}
use Rattle.aos_known.specs.declared.known.Class.TheVariants.{Constant}
use Rattle.aos_known.specs.declared.known.Known.{Known}
use Rattle.aos_known.specs.Known.{Answer, is_basic, is_char}
use Rattle.aos_known.specs.Kinds.{is_opened}
use Rattle.aos_known.specs.Places.{place_in, rows_of}

-- The lengths of arrays.

-- a type that is an array's, or may be
abbrev pub is_array : Env → Option TypeId → Bool
is_array e of = of_row of (env.row_of e of)
  where
    of_row : Option TypeId → Option TypeRow → Bool
    of_row None r = true
    of_row (Some t) (Some (row.Array n u)) = not (is_basic t)
    of_row (Some t) (Some (row.Open u)) = not (is_basic t)
    of_row (Some t) r = false

-- the length of a dimension that isn't open
abbrev pub length_of : Env → Option TypeId → ℕ → Option ℕ
length_of e of d = dimension e.types d (env.row_of e of)

abbrev pub is_opening : Env → Option TypeId → Bool
is_opening e None = false
is_opening e (Some t) = is_opened e t

-- a fixed array: its length, and the type of its elements
abbrev pub array_in : Option TypeRow → Option (ℕ × TypeId)
array_in (Some (row.Array n t)) = Some (n, t)
array_in r = None

-- the lengths of the first dimensions of a fixed array, so many of them
abbrev pub lengths_from : List TypeRow → ℕ → Option TypeRow → List ℕ
lengths_from rows zero r = []
lengths_from rows (suc n) (Some (row.Array m t)) = m ∷ lengths_from rows n (row_of rows t)
lengths_from rows (suc n) r = []

-- an open array: the lengths of its open dimensions are found with it, and those of dimensions behind these are known
abbrev pub open_rows : Env → ℕ → TypeId → Place → Rows
open_rows e n t place =
    Longer (rows_of place) (lengths_from e.types (n - open_dimensions e.types t) (env.row_of e (Some (open_element e.types t))))

-- an array of a type at a place, with the lengths of its first dimensions
abbrev pub array_rows : Env → ℕ → Option TypeId → Place → Rows
array_rows e n None place = KnownRows place []
array_rows e n (Some t) place =
    if is_opened e t then open_rows e n t place else KnownRows place (lengths_from e.types n (env.row_of e (Some t)))

-- the number of a dimension
abbrev pub number_in : Class → Option ℕ
number_in (Constant (Some (literal.Int n))) = natural (2 ^ 32) n
number_in c = None

-- Texts: an array of characters is one, and so is a string constant.

abbrev pub is_characters : Env → Known → Bool
is_characters e k = by k.of
  where
    of_row : Option TypeRow → Bool
    of_row (Some (row.Array n t)) = t.0 == env.char.0
    of_row (Some (row.Open t)) = t.0 == env.char.0
    of_row r = false

    by : Option TypeId → Bool
    by None = false
    by (Some t) = not (is_basic t) && of_row (env.row_of e (Some t))

abbrev pub string_in : Env → Class → Option TextConstant
string_in e (Constant (Some (literal.Text t))) = if env.has_string e t then Some t else None
string_in e c = None

abbrev pub is_text : Env → Known → Bool
is_text e k = is_characters e k || is_some (string_in e k.class)

-- a text that is no character
abbrev pub is_only_text : Env → Known → Bool
is_only_text e k = is_text e k && not (is_char k.of)

abbrev pub may_be_text : Env → Known → Bool
may_be_text e k = is_none k.of || is_text e k

-- two texts are compared as such where one of them is no character
abbrev pub are_texts : Env → Known → Known → Bool
are_texts e a b = (may_be_text e a && may_be_text e b) && (is_only_text e a || is_only_text e b)

-- a string constant as an array: its 0X stands behind its characters
abbrev pub string_rows : Env → TextConstant → Rows
string_rows e t = KnownRows (ModuleVar t.home (env.string_place e t)) (suc (length (env.characters e t)) ∷ [])

-- a part as an array, with the lengths of its first dimensions
abbrev pub rows_in : Env → ℕ → Answer → Rows
rows_in e n a = by (string_in e a.known.class)
  where
    by : Option TextConstant → Rows
    by (Some t) = string_rows e t
    by None = array_rows e n a.known.of (place_in a.typed)

-- the array of a text, with its length
abbrev pub text_rows : Env → Answer → Rows
text_rows e a = rows_in e 1 a

-- an array of characters has room for a string constant and its 0X, or is open
abbrev pub has_room : Env → Option TypeId → TextConstant → Bool
has_room e of t = is_opening e of || nat_lt (length (env.characters e t)) (unwrap_or (length_of e of 0) 0)

-- the string constant that is meant for an array of characters
abbrev pub text_for : Env → Known → Class → Option TextConstant
text_for e array c = if is_characters e array then string_in e c else None
