-- How the parts of a type are found. A type's own parts, the fields that it declares or its elements, stand behind those of its
-- base; a scalar is its own one part.
use Rattle.std.specs.Prelude.{ℕ, suc, List, map, Option, Some, None}
use Rattle.aos_types.specs.declared.row.TypeId.{TypeId}
use Rattle.aos_types.specs.declared.row.TypeRow.{TypeRow}
use Rattle.aos_types.specs.declared.row.TypeRow.TheVariants as row
use Rattle.aos_types.specs.Table.{row_of, base_of}
use Rattle.aos_types.specs.Shape as shape
use Rattle.aos_types.specs.Shape.{Shape, One, Nothing, Pair}
use Rattle.aos_types.specs.Contents.{contents, of_variable, of_base}

-- how many parts a row has; a scalar is a row of its own
abbrev pub width : {S : Type 0} → Shape S → ℕ
width (One k) = 1
width Nothing = 0
width (Pair a b) = suc (width b)

-- the shape of an element, a field or a variable
abbrev pub variable : List TypeRow → TypeId → Shape TypeId
variable rows t = of_variable (contents rows) rows t

-- the own fields of a row, one behind the other
abbrev pub fields : List TypeRow → List TypeId → Shape TypeId
fields rows ts = shape.row (map (variable rows) ts)

-- the own parts of a type
abbrev pub own_by : List TypeRow → TypeId → Option TypeRow → Shape TypeId
own_by rows t None = Nothing
own_by rows t (Some (row.Basic b)) = Pair (One t) Nothing
own_by rows t (Some (row.Array n of)) = shape.repeated n (variable rows of)
own_by rows t (Some (row.Open of)) = Nothing
own_by rows t (Some (row.Record base ts)) = fields rows ts
own_by rows t (Some (row.Pointer to)) = Pair (One t) Nothing
own_by rows t (Some (row.Object base ts)) = fields rows ts
own_by rows t (Some (row.Procedure formals r)) = Pair (One t) Nothing
own_by rows t (Some row.Any) = Pair (One t) Nothing

abbrev pub own : List TypeRow → TypeId → Shape TypeId
own rows t = own_by rows t (row_of rows t)

-- what stands before a type's own parts
abbrev pub front : List TypeRow → TypeId → Shape TypeId
front rows t = of_base (contents rows) (base_of (row_of rows t))

-- all parts of a type, where it is a scalar too
abbrev pub parts : List TypeRow → TypeId → Shape TypeId
parts rows t = shape.join (contents rows t) Nothing
