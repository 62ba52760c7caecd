-- What a type is made of: the table unfolded to shapes, and how many scalars a type has. A record or an object has its base's
-- fields before its own; what is of an object type is one scalar. An open array has no contents until it is made.
use Rattle.std.specs.Prelude.{ℕ, zero, suc, nat_le, if◌then◌else◌, List, length, map, Option, Some, None}
use Rattle.aos_types.specs.declared.row.TypeId.{TypeId}
use Rattle.aos_types.specs.declared.row.TypeRow.{TypeRow}
use Rattle.aos_types.specs.declared.row.TypeRow.TheVariants as row
use Rattle.aos_types.specs.Table.{row_of, is_object}
use Rattle.aos_types.specs.Shape as shape
use Rattle.aos_types.specs.Shape.{Shape, size}

-- the shape of an element, a field or a variable, where the contents of types are these
abbrev pub of_variable : (TypeId → Shape TypeId) → List TypeRow → TypeId → Shape TypeId
of_variable contents rows t = (if is_object (row_of rows t) then shape.One t else contents t)

abbrev pub of_base : (TypeId → Shape TypeId) → Option TypeId → Shape TypeId
of_base contents None = shape.Nothing
of_base contents (Some b) = contents b

-- the contents of a type, where those of its parts are these
abbrev pub with_parts : (TypeId → Shape TypeId) → List TypeRow → TypeId → Option TypeRow → Shape TypeId
with_parts contents rows t None = shape.Nothing
with_parts contents rows t (Some (row.Basic b)) = shape.One t
with_parts contents rows t (Some (row.Array n of)) = shape.repeated n (of_variable contents rows of)
with_parts contents rows t (Some (row.Open of)) = shape.Nothing
with_parts contents rows t (Some (row.Record base fields)) =
    shape.join (of_base contents base) (shape.row (map (of_variable contents rows) fields))
with_parts contents rows t (Some (row.Pointer to)) = shape.One t
with_parts contents rows t (Some (row.Object base fields)) =
    shape.join (of_base contents base) (shape.row (map (of_variable contents rows) fields))
with_parts contents rows t (Some (row.Procedure formals r)) = shape.One t
with_parts contents rows t (Some row.Any) = shape.One t

-- the contents of a type, unfolded so many times
abbrev pub unfolded : ℕ → List TypeRow → TypeId → Shape TypeId
unfolded zero rows t = shape.Nothing
unfolded (suc n) rows t = with_parts (unfolded n rows) rows t (row_of rows t)

-- as often as is enough where no type contains itself
abbrev pub levels : List TypeRow → ℕ
levels rows = suc (length rows)

-- the contents of a type; of an object type, those of an object
abbrev pub contents : List TypeRow → TypeId → Shape TypeId
contents rows t = unfolded (levels rows) rows t

-- how many scalars a type has; an object type, how many an object of it has
abbrev pub scalars : List TypeRow → TypeId → ℕ
scalars rows t = size (contents rows t)

-- a number that isn't above another
abbrev pub at_most : ℕ → ℕ → Option ℕ
at_most most n = (if nat_le n most then Some n else None)

-- how many scalars a variable, an element or a field of a type has
abbrev pub variable_scalars : List TypeRow → TypeId → ℕ
variable_scalars rows t = size (of_variable (contents rows) rows t)
