-- Marks, by the numbers of types, that say of which types objects may be made.
use Rattle.std.specs.Prelude.{◌≡◌, ◌<◌, ℕ, List, Bool, true, false, ◌||◌, length, take, slice_get, Option, Some}
use Rattle.std.specs.List.{list_any}
use Rattle.aos_types.specs.declared.row.TypeId.{TypeId}
use Rattle.aos_types.specs.declared.row.TypeRow.{TypeRow}
use Rattle.aos_types.specs.declared.row.TypeRow.TheVariants as row
use Rattle.aos_types.specs.Table.{row_of, is_object}
use Rattle.aos_layout.specs.Layout.{leads_to, is_made}

-- a type with such a row is the same as no other: it is neither predeclared nor an open array
abbrev pub is_alone : Option TypeRow → Bool
is_alone (Some (row.Basic b)) = false
is_alone (Some row.Any) = false
is_alone (Some (row.Open of)) = false
is_alone _ = true

-- the object types are marked, and those to which the pointers among so many types lead
pub record AreMarks (rows : List TypeRow) (count : ℕ) (marks : List Bool) : Type 0 where
  pub long : length marks ≡ length rows
  pub say : (t : TypeId) → t.0 < length rows → slice_get marks t.0 ≡ Some (is_object (row_of rows t) || list_any (leads_to rows t) (take count rows))

-- the types of which objects may be made are marked
pub record AreMade (rows : List TypeRow) (marks : List Bool) : Type 0 where
  pub long : length marks ≡ length rows
  pub say : (t : TypeId) → t.0 < length rows → slice_get marks t.0 ≡ Some (is_made rows t)
