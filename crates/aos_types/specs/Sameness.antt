-- Sameness (Oberon-2 report, appendix A, same types): types are the same where they come from one declaration, and two open
-- arrays are the same where their elements are. The predeclared types have one declaration each, whatever row they stand in.
use Rattle.std.specs.Prelude.{ℕ, zero, suc, ◌==◌, ◌||◌, List, length, Bool, true, false, Option, Some, None}
use Rattle.aos_types.specs.declared.row.TypeId.{TypeId}
use Rattle.aos_types.specs.declared.row.Basic.{Basic}
use Rattle.aos_types.specs.declared.row.Basic.TheVariants as basic
use Rattle.aos_types.specs.declared.row.TypeRow.{TypeRow}
use Rattle.aos_types.specs.declared.row.TypeRow.TheVariants as row
use Rattle.aos_types.specs.Table.{row_of, on_both}

-- the basic types in a row; a string constant's by its length behind all others
abbrev pub place : Basic → ℕ
place basic.ShortInt = 0
place basic.Integer = 1
place basic.LongInt = 2
place basic.HugeInt = 3
place basic.Boolean = 4
place basic.Char = 5
place basic.Set = 6
place basic.Nil = 7
place (basic.Text n) = suc (suc (suc (suc (suc (suc (suc (suc n)))))))

abbrev pub are_predeclared : Option TypeRow → Option TypeRow → Bool
are_predeclared (Some (row.Basic a)) (Some (row.Basic b)) = place a == place b
are_predeclared (Some row.Any) (Some row.Any) = true
are_predeclared _ _ = false

-- whether both come from one declaration
abbrev pub are_one : List TypeRow → TypeId → TypeId → Bool
are_one rows a b = (a.0 == b.0) || are_predeclared (row_of rows a) (row_of rows b)

-- the type of an open array's elements
abbrev pub element_of : Option TypeRow → Option TypeId
element_of (Some (row.Open t)) = Some t
element_of _ = None

-- whether they are the same within so many open dimensions
abbrev pub same_by : ℕ → List TypeRow → TypeId → TypeId → Bool
same_by zero rows a b = are_one rows a b
same_by (suc n) rows a b = are_one rows a b || on_both (same_by n rows) (element_of (row_of rows a)) (element_of (row_of rows b))

-- whether they are the same. An open array that doesn't contain itself has fewer dimensions than there are types
abbrev pub same : List TypeRow → TypeId → TypeId → Bool
same rows a b = same_by (length rows) rows a b
