-- Where scalars lie: each has a cell, those of a type in order of declaration from 0, the base's first, and those of an array
-- element by element.
use Rattle.std.specs.Prelude.{ℕ, suc, ◌-◌, List, [], ◌++◌, length, Bool, false, ◌||◌, ◌==◌, map, Option, Some, None, if◌then◌else◌}
use Rattle.std.specs.List.{list_any}
use Rattle.aos_types.specs.declared.row.Basic.TheVariants as basic
use Rattle.aos_types.specs.declared.row.TypeId.{TypeId}
use Rattle.aos_types.specs.declared.row.TypeRow.{TypeRow}
use Rattle.aos_types.specs.declared.row.TypeRow.TheVariants as row
use Rattle.aos_types.specs.Table.{row_of, is_open, is_object}
use Rattle.aos_types.specs.Shape.{Shape, One, repeated, row as row_of_shapes}
pub use Rattle.aos_types.specs.Shape.{leaves, shaped}
use Rattle.aos_types.specs.Contents.{contents, of_variable}
use Rattle.aos_code.specs.declared.instr.Kind.{Kind}
use Rattle.aos_code.specs.declared.instr.Kind.TheVariants.{N, R, C}
use Rattle.aos_typed.specs.Program.{Variable, Module}
use Rattle.aos_typed.specs.Numbers.{id_of, predeclared_types}
use Rattle.aos_typed.specs.Open.{open_element, first_same}

-- the kind of a scalar's cell: a number's, a reference's, which NIL is, or a procedure value's
abbrev pub kind_in : Option TypeRow → Kind
kind_in (Some (row.Basic basic.Nil)) = R
kind_in (Some (row.Pointer to)) = R
kind_in (Some (row.Object base fields)) = R
kind_in (Some row.Any) = R
kind_in (Some (row.Procedure formals r)) = C
kind_in _ = N

abbrev pub kind_of : List TypeRow → TypeId → Kind
kind_of rows t = kind_in (row_of rows t)

-- the kinds of a type's cells; of an object type, of those of an object
abbrev pub kinds : List TypeRow → TypeId → List Kind
kinds rows t = map (kind_of rows) (leaves (contents rows t))

-- the cells of a variable, an element or a field of a type
abbrev pub cells : List TypeRow → TypeId → Shape Kind
cells rows t = shaped (kind_of rows) (of_variable (contents rows) rows t)

-- the kinds of the cells of a type's objects; of an open array, those of an element's
abbrev pub type_kinds : List TypeRow → TypeId → List Kind
type_kinds rows t =
    if is_open (row_of rows t)
    then map (kind_of rows) (leaves (of_variable (contents rows) rows (open_element rows t)))
    else kinds rows t

-- a pointer that leads to objects of this type, or of one that is the same
abbrev pub leads_to : List TypeRow → TypeId → TypeRow → Bool
leads_to rows t (row.Pointer u) = (first_same rows u).0 == t.0
leads_to rows t _ = false

-- objects of the type may be made: it is an object type, or a pointer leads to it
abbrev pub is_made : List TypeRow → TypeId → Bool
is_made rows t = is_object (row_of rows t) || list_any (leads_to rows t) rows

-- what an image has of a type: the kinds of its objects' cells where there may be such objects, and else none
abbrev pub made_kinds : List TypeRow → TypeId → List Kind
made_kinds rows t = if is_made rows t then type_kinds rows t else []

-- the number of a type's base among the types that a program names, from 1 on, and 0 for none
abbrev pub base_number : Option TypeId → ℕ
base_number None = 0
base_number (Some b) = suc b.0 - predeclared_types

-- the cells of variables, one behind the other
abbrev pub variable_cells : List TypeRow → List Variable → List (Shape Kind)
variable_cells rows vs = map (λ v. cells rows (id_of v.of)) vs

-- the cells of a string constant: one for each character, and one for the 0X behind them
abbrev pub text_cells : List ℕ → Shape Kind
text_cells cs = repeated (suc (length cs)) (One N)

-- the cells of a module's variables, and those of its string constants behind them: the variable with number k is part k
abbrev pub block_parts : List TypeRow → Module → List (Shape Kind)
block_parts rows m = variable_cells rows m.variables ++ map text_cells m.texts

abbrev pub block : List TypeRow → Module → Shape Kind
block rows m = row_of_shapes (block_parts rows m)
