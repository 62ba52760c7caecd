-- The table of types: its rows, and what a row leads to.
use Rattle.std.specs.Prelude.{List, Bool, true, false, Option, Some, None, slice_get}
use Rattle.aos_types.specs.declared.row.TypeId.{TypeId}
use Rattle.aos_types.specs.declared.row.Basic.TheVariants as basic
use Rattle.aos_types.specs.declared.row.TypeRow.{TypeRow}
use Rattle.aos_types.specs.declared.row.TypeRow.TheVariants as row

-- the row of a type that was added
abbrev pub row_of : List TypeRow → TypeId → Option TypeRow
row_of rows t = slice_get rows t.0

abbrev pub is_record : Option TypeRow → Bool
is_record (Some (row.Record base fields)) = true
is_record _ = false

abbrev pub is_object : Option TypeRow → Bool
is_object (Some (row.Object base fields)) = true
is_object _ = false

abbrev pub has_fields : Option TypeRow → Bool
has_fields (Some (row.Record base fields)) = true
has_fields (Some (row.Object base fields)) = true
has_fields _ = false

abbrev pub is_pointer : Option TypeRow → Bool
is_pointer (Some (row.Pointer t)) = true
is_pointer _ = false

abbrev pub is_procedure : Option TypeRow → Bool
is_procedure (Some (row.Procedure formals r)) = true
is_procedure _ = false

abbrev pub is_open : Option TypeRow → Bool
is_open (Some (row.Open t)) = true
is_open _ = false

-- a value of the type is one scalar
abbrev pub is_scalar : Option TypeRow → Bool
is_scalar (Some (row.Basic b)) = true
is_scalar (Some (row.Pointer t)) = true
is_scalar (Some (row.Object base fields)) = true
is_scalar (Some (row.Procedure formals r)) = true
is_scalar (Some row.Any) = true
is_scalar _ = false

abbrev pub is_char : Option TypeRow → Bool
is_char (Some (row.Basic basic.Char)) = true
is_char _ = false

-- the base of a record or an object type
abbrev pub base_of : Option TypeRow → Option TypeId
base_of (Some (row.Record base fields)) = base
base_of (Some (row.Object base fields)) = base
base_of _ = None

-- a test of two types that there may be
abbrev pub on_both : (TypeId → TypeId → Bool) → Option TypeId → Option TypeId → Bool
on_both f (Some a) (Some b) = f a b
on_both f _ _ = false
