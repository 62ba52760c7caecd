-- The fields of records and object types: those of the base stand before a type's own (Oberon-2 report, 6.3; Reali 2002, section on
-- object types).
use Rattle.std.specs.Prelude.{ℕ, zero, suc, nat_lt, List, [], ◌++◌, length, Option, Some, None, slice_get, if◌then◌else◌}
use Rattle.aos_types.specs.declared.row.TypeId.{TypeId}
use Rattle.aos_types.specs.declared.row.TypeRow.{TypeRow}
use Rattle.aos_types.specs.declared.row.TypeRow.TheVariants as row
use Rattle.aos_types.specs.Table.{row_of, base_of, is_object}
use Rattle.aos_typed.specs.Location.{Declared, Field}

-- the types of the fields, its base's first; a type has fewer bases than there are types
abbrev pub with_base : (TypeId → List TypeId) → Option TypeId → List TypeId → List TypeId
with_base f None fields = fields
with_base f (Some b) fields = f b ++ fields

abbrev pub fields_in : (TypeId → List TypeId) → Option TypeRow → List TypeId
fields_in f (Some (row.Record base fields)) = with_base f base fields
fields_in f (Some (row.Object base fields)) = with_base f base fields
fields_in f r = []

abbrev pub fields_by : ℕ → List TypeRow → TypeId → List TypeId
fields_by zero rows t = fields_in (λ b. []) (row_of rows t)
fields_by (suc n) rows t = fields_in (λ b. fields_by n rows b) (row_of rows t)

abbrev pub field_types : List TypeRow → TypeId → List TypeId
field_types rows t = fields_by (length rows) rows t

abbrev pub field_type : List TypeRow → TypeId → ℕ → Option TypeId
field_type rows t k = slice_get (field_types rows t) k

-- the type that declares a field, which is the type itself or, at most so many bases on, one of its bases
abbrev pub declarer_in : ℕ → List TypeRow → TypeId → ℕ → TypeId
declarer_in zero rows t k = t
declarer_in (suc n) rows t k = by (λ b. declarer_in n rows b k) (base_of (row_of rows t))
  where
    by : (TypeId → TypeId) → Option TypeId → TypeId
    by rest None = t
    by rest (Some b) = if nat_lt k (length (field_types rows b)) then rest b else t

abbrev pub declarer : List TypeRow → TypeId → ℕ → TypeId
declarer rows t k = declarer_in (length rows) rows t k

-- the variable that a field is: one of its own where an object has it, and of a record a part of what the record is
abbrev pub declared_as : List TypeRow → TypeId → ℕ → Declared → Declared
declared_as rows t k of = if is_object (row_of rows t) then Field (declarer rows t k).0 k else of
