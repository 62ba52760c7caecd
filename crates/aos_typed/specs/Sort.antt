-- What a scalar of a store is: a variable's, by its type, or what a parameter's cell stands for.
use Rattle.std.specs.Prelude.{ℕ, List}
use Rattle.aos_types.specs.declared.row.TypeId.{TypeId}
use Rattle.aos_types.specs.declared.row.TypeRow.{TypeRow}
use Rattle.aos_types.specs.Shape.{Shape, shaped}
use Rattle.aos_types.specs.Contents.{contents, of_variable}

pub data Sort : Type 0 where
  Plain : TypeId → Sort
  Variable : TypeId → Sort  -- the place of a record whose type extends this one
  Alias : TypeId → Sort  -- the place of a variable of exactly this type
  Elements : TypeId → List ℕ → Sort  -- the place of rows of these lengths, whose elements are of the type
  Length : ℕ → Sort  -- this number

-- what a variable of a type holds
abbrev pub variable_shape : List TypeRow → TypeId → Shape Sort
variable_shape rows t = shaped Plain (of_variable (contents rows) rows t)

-- what an object of a type has, a record or a fixed array among these
abbrev pub object_shape : List TypeRow → TypeId → Shape Sort
object_shape rows t = shaped Plain (contents rows t)
