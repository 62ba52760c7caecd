-- Fit: whether a value of one type may be assigned to a variable of another (Oberon-2 report, appendix A, assignment
-- compatible; Reali 2002, object types and procedure types).
use Rattle.std.specs.Prelude.{ℕ, ◌==◌, ◌&&◌, ◌||◌, not, nat_lt, nat_le, List, length, Bool, true, false, Option, Some, None, is_some}
use Rattle.std.specs.List.{list_all, zip}
use Rattle.aos_types.specs.declared.row.TypeId.{TypeId}
use Rattle.aos_types.specs.declared.row.Basic.{Basic}
use Rattle.aos_types.specs.declared.row.Basic.TheVariants as basic
use Rattle.aos_types.specs.declared.row.TypeRow.{TypeRow}
use Rattle.aos_types.specs.declared.row.TypeRow.TheVariants as row
use Rattle.aos_types.specs.Table.{row_of, is_char, on_both}
use Rattle.aos_types.specs.Extension.{extends}
use Rattle.aos_types.specs.Sameness.{same}

-- how many bits an integer type has
abbrev pub bits : Basic → Option ℕ
bits basic.ShortInt = Some 8
bits basic.Integer = Some 16
bits basic.LongInt = Some 32
bits basic.HugeInt = Some 64
bits _ = None

-- an integer type includes those of fewer bits
abbrev pub is_within : Option ℕ → Option ℕ → Bool
is_within (Some m) (Some n) = nat_le m n
is_within _ _ = false

abbrev pub bits_of : TypeRow → Option ℕ
bits_of (row.Basic b) = bits b
bits_of _ = None

-- how many characters the string constant of this type has
abbrev pub text_of : TypeRow → Option ℕ
text_of (row.Basic (basic.Text n)) = Some n
text_of _ = None

abbrev pub is_nil : TypeRow → Bool
is_nil (row.Basic basic.Nil) = true
is_nil _ = false

abbrev pub is_reference : TypeRow → Bool
is_reference (row.Pointer t) = true
is_reference (row.Object base fields) = true
is_reference _ = false

-- whether a text of so many characters, with the 0X behind it, has room in an array
abbrev pub has_room : ℕ → Option ℕ → Bool
has_room m None = false
has_room m (Some n) = nat_lt n m

abbrev pub is_one_character : Option ℕ → Bool
is_one_character None = false
is_one_character (Some n) = n == 1

-- a string constant of one character is a CHAR, too
abbrev pub fits_basic : TypeRow → Basic → Bool
fits_basic from basic.Char = is_one_character (text_of from)
fits_basic from to = is_within (bits_of from) (bits to)

abbrev pub same_kind : Bool → Bool → Bool
same_kind true b = b
same_kind false b = not b

-- two formal parameters agree where their kinds and types are the same
abbrev pub same_formal : List TypeRow → (Bool × TypeId) → (Bool × TypeId) → Bool
same_formal rows f g = same_kind f.0 g.0 && same rows f.1 g.1

abbrev pub same_formals : List TypeRow → List (Bool × TypeId) → List (Bool × TypeId) → Bool
same_formals rows fs gs = (length fs == length gs) && list_all (λ p. same_formal rows p.0 p.1) (zip fs gs)

abbrev pub same_result : List TypeRow → Option TypeId → Option TypeId → Bool
same_result rows None None = true
same_result rows r s = on_both (same rows) r s

-- whether a procedure type has the formal parameters and the result of another
abbrev pub same_heading : List TypeRow → TypeRow → TypeRow → Bool
same_heading rows (row.Procedure fs r) (row.Procedure gs s) = same_formals rows fs gs && same_result rows r s
same_heading rows _ _ = false

-- what fits by the row of the variable's type alone
abbrev pub fits_row : List TypeRow → TypeRow → TypeRow → Bool
fits_row rows from (row.Basic to) = fits_basic from to
fits_row rows from (row.Array m t) = is_char (row_of rows t) && has_room m (text_of from)
fits_row rows from (row.Open t) = is_char (row_of rows t) && is_some (text_of from)
fits_row rows from (row.Record base fields) = false
fits_row rows from (row.Pointer t) = is_nil from
fits_row rows from (row.Object base fields) = is_nil from
fits_row rows from (row.Procedure fs r) = is_nil from || same_heading rows from (row.Procedure fs r)
fits_row rows from row.Any = is_nil from || is_reference from

abbrev pub fits_rows : List TypeRow → Option TypeRow → Option TypeRow → Bool
fits_rows rows (Some from) (Some to) = fits_row rows from to
fits_rows rows _ _ = false

abbrev pub fits : List TypeRow → TypeId → TypeId → Bool
fits rows from to = same rows from to || extends rows from to || fits_rows rows (row_of rows from) (row_of rows to)
