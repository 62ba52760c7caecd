-- The limit of scalars of a type, and which types are the first past it: a type of which a part is past it keeps it.
use Rattle.std.specs.Prelude.{ℕ, nat_lt, List, Option, Bool, not, ◌&&◌}
use Rattle.std.specs.List.{list_any}
use Rattle.aos_base.specs.declared.limits.TheConstants.{MOST_SCALARS}
use Rattle.aos_types.specs.declared.row.TypeId.{TypeId}
use Rattle.aos_types.specs.declared.row.TypeRow.{TypeRow}
use Rattle.aos_types.specs.Table.{row_of}
use Rattle.aos_types.specs.Contents.{scalars}
use Rattle.aos_types.specs.Chain.{parts_of}
use Rattle.aos_types.specs.Count.{made}

abbrev pub is_past : List TypeRow → TypeId → Bool
is_past rows t = nat_lt MOST_SCALARS (scalars rows t)

abbrev pub is_first_past : List TypeRow → TypeId → Bool
is_first_past rows t = is_past rows t && not (list_any (is_past rows) (parts_of rows (row_of rows t)))

-- whether a type is past it by the counts that are kept
abbrev pub count_past : List (Option ℕ) → TypeId → Bool
count_past counts t = nat_lt MOST_SCALARS (made counts t)
