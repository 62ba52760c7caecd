-- Counts of scalars that are kept beside the rows, each up to one more than a type may have: a count that isn't made yet is None.
use Rattle.std.specs.Prelude.{◌≡◌, ℕ, ◌+◌, ◌*◌, ◌^◌, ◌<◌, ◌≤◌, min, List, [], ◌∷◌, ◌++◌, length, take, sum_by, Bool, true, false, if◌then◌else◌, Option, Some, None, slice_get}
use Rattle.std.specs.List.{find, flat_map}
use Rattle.aos_base.specs.declared.limits.TheConstants.{MOST_SCALARS}
use Rattle.aos_types.specs.declared.row.TypeId.{TypeId}
use Rattle.aos_types.specs.declared.row.TypeRow.{TypeRow}
use Rattle.aos_types.specs.declared.row.TypeRow.TheVariants as row
use Rattle.aos_types.specs.Table.{row_of, is_object}
use Rattle.aos_types.specs.Contents.{at_most}
use Rattle.aos_types.specs.Chain.{held, parts_of, base_list, IsOneOf, ContainsItself, NoneContainsItself}

abbrev pub capped : ℕ → ℕ
capped n = min n (MOST_SCALARS + 1)

abbrev pub count_of : Option (Option ℕ) → ℕ
count_of (Some (Some n)) = n
count_of (Some None) = 0
count_of None = 0

abbrev pub is_missing : Option (Option ℕ) → Bool
is_missing (Some None) = true
is_missing (Some (Some n)) = false
is_missing None = false

-- a count that isn't past what a type may have
abbrev pub within_limit : Option ℕ → Option ℕ
within_limit None = None
within_limit (Some n) = at_most MOST_SCALARS n

-- the count of an element, a field or a variable, where those of types are these
abbrev pub of_variable : (TypeId → ℕ) → List TypeRow → TypeId → ℕ
of_variable counts rows t = (if is_object (row_of rows t) then 1 else counts t)

abbrev pub of_base : (TypeId → ℕ) → Option TypeId → ℕ
of_base counts None = 0
of_base counts (Some b) = counts b

-- the count of a row, where those of its parts are these
abbrev pub of_row : (TypeId → ℕ) → List TypeRow → Option TypeRow → ℕ
of_row counts rows None = 0
of_row counts rows (Some (row.Basic b)) = 1
of_row counts rows (Some (row.Array n of)) = n * of_variable counts rows of
of_row counts rows (Some (row.Open of)) = 0
of_row counts rows (Some (row.Record base fields)) = of_base counts base + sum_by (of_variable counts rows) fields
of_row counts rows (Some (row.Pointer to)) = 1
of_row counts rows (Some (row.Object base fields)) = of_base counts base + sum_by (of_variable counts rows) fields
of_row counts rows (Some (row.Procedure formals r)) = 1
of_row counts rows (Some row.Any) = 1

-- the counts that are made, by the types' numbers
abbrev pub made : List (Option ℕ) → TypeId → ℕ
made counts t = count_of (slice_get counts t.0)

-- the first of some types whose count isn't made
abbrev pub first_missing : List (Option ℕ) → List TypeId → Option TypeId
first_missing counts ts = find (λ p. is_missing (slice_get counts p.0)) ts

-- the first part of a type whose count isn't made
abbrev pub missing_part : List TypeRow → List (Option ℕ) → TypeId → Option TypeId
missing_part rows counts t = first_missing counts (parts_of rows (row_of rows t))

-- the types of the own fields of a record or an object
abbrev pub fields_of : Option TypeRow → List TypeId
fields_of (Some (row.Record base fields)) = fields
fields_of (Some (row.Object base fields)) = fields
fields_of _ = []

-- the first so many fields have their counts
abbrev pub AreSeen : List TypeRow → List (Option ℕ) → List TypeId → ℕ → Type 0
AreSeen rows counts fields n = first_missing counts (flat_map (held rows) (take n fields)) ≡ None

-- each count that is made is that of the type's row, whose parts have theirs
pub record IsMade (rows : List TypeRow) (counts : List (Option ℕ)) (t : TypeId) (n : ℕ) : Type 0 where
  pub parts : missing_part rows counts t ≡ None
  pub is : n ≡ capped (of_row (made counts) rows (row_of rows t))

abbrev pub AreMade : List TypeRow → List (Option ℕ) → Type 0
AreMade rows counts = (t : TypeId) (n : ℕ) → slice_get counts t.0 ≡ Some (Some n) → IsMade rows counts t n

-- no type whose count is made contains itself
abbrev pub AreFree : List TypeRow → List (Option ℕ) → Type 0
AreFree rows counts = (t : TypeId) (n : ℕ) → slice_get counts t.0 ≡ Some (Some n) → ContainsItself rows t → ⊥

-- the first so many types have their counts, where no type contains itself
pub record AreSettled (rows : List TypeRow) (counts : List (Option ℕ)) (n : ℕ) : Type 0 where
  pub made : AreMade rows counts
  pub whole : (t : TypeId) → t.0 < n → is_missing (slice_get counts t.0) ≡ false

-- the types that a row names as elements or fields, and its base
abbrev pub named_in : TypeRow → List TypeId
named_in (row.Array n of) = of ∷ []
named_in (row.Open of) = of ∷ []
named_in (row.Record base fields) = base_list base ++ fields
named_in (row.Object base fields) = base_list base ++ fields
named_in _ = []

-- each type that a row names so is below this number
abbrev pub AreBelow : ℕ → TypeRow → Type 0
AreBelow n r = (p : TypeId) → IsOneOf p (named_in r) → p.0 < n

-- what is kept of a table: a count for each row, room for a walk over all of them, and a number above all types that are named
pub record IsTable (rows : List TypeRow) (counts : List (Option ℕ)) (room above : ℕ) : Type 0 where
  pub few : length rows ≤ 2 ^ 32
  pub long : length counts ≡ length rows
  pub fits : length rows < room
  pub below : (k : ℕ) (r : TypeRow) → slice_get rows k ≡ Some r → AreBelow above r
  pub settled : NoneContainsItself rows → AreSettled rows counts (length rows)
