-- The kinds of types, by their rows in the table, what the objects of a type are made as, and which types may be tested for which.
use Rattle.std.specs.Prelude.{ℕ, Bool, true, not, ◌&&◌, ◌||◌, Option, Some, None, if◌then◌else◌}
use Rattle.aos_types.specs.declared.row.TypeId.{TypeId}
use Rattle.aos_types.specs.declared.row.TypeRow.{TypeRow}
use Rattle.aos_types.specs.declared.row.TypeRow.TheVariants as row
use Rattle.aos_types.specs.Table.{is_open, is_record, is_pointer, is_object, is_procedure}
use Rattle.aos_types.specs.Extension.{extends}
use Rattle.aos_typed.specs.WellTyped.{is_whole}
use Rattle.aos_typed.specs.Open.{first_same}
use Rattle.aos_symbols.specs.declared.env.Env.{Env}
use Rattle.aos_symbols.specs.Env as env
use Rattle.aos_known.specs.Known.{passes, is, is_basic, is_of_any, is_long_text, object_number}

-- Types: a basic type, that of string constants, one of records or arrays, which have parts, an open array, a procedure type, that of
-- procedures that are named, or one whose values are objects: a pointer, an object type, ANY and that of NIL. What is of the others
-- isn't built.

abbrev pub has_parts : Env → TypeId → Bool
has_parts e t = not (is_basic t) && is_whole (env.row_of e (Some t))

abbrev pub is_opened : Env → TypeId → Bool
is_opened e t = not (is_basic t) && is_open (env.row_of e (Some t))

abbrev pub is_record_type : Env → TypeId → Bool
is_record_type e t = not (is_basic t) && is_record (env.row_of e (Some t))

abbrev pub is_pointer_type : Env → TypeId → Bool
is_pointer_type e t = not (is_basic t) && is_pointer (env.row_of e (Some t))

abbrev pub is_object_type : Env → TypeId → Bool
is_object_type e t = not (is_basic t) && is_object (env.row_of e (Some t))

abbrev pub is_reference : Env → TypeId → Bool
is_reference e t = is_of_any t || (is_pointer_type e t || is_object_type e t)

abbrev pub is_procedural : Env → TypeId → Bool
is_procedural e t = not (is_basic t) && is_procedure (env.row_of e (Some t))

-- values of the type are scalars
abbrev pub is_value : Env → TypeId → Bool
is_value e t = is_basic t || (is_reference e t || is_procedural e t)

abbrev pub is_built : Env → TypeId → Bool
is_built e t = (is_value e t || (is_long_text t || is (env.procedure e) t)) || (has_parts e t || is_opened e t)

-- what a pointer leads to
abbrev pub pointed_in : Option TypeRow → Option TypeId
pointed_in (Some (row.Pointer u)) = Some u
pointed_in r = None

abbrev pub pointed : Env → TypeId → Option TypeId
pointed e t = if is_basic t then None else pointed_in (env.row_of e (Some t))

-- the type as which the objects of a pointer type or an object type are made, and its number in the program
abbrev pub made_as : Env → TypeId → TypeId
made_as e t = by (pointed e t)
  where
    by : Option TypeId → TypeId
    by None = t
    by (Some u) = first_same e.types u

abbrev pub made_number : Env → TypeId → ℕ
made_number e t = object_number (made_as e t)

-- Type tests, of an object, or of the record that a VAR parameter stands for.

abbrev pub has_dynamic_type : Env → (is_parameter : Bool) → TypeId → Bool
has_dynamic_type e is_parameter t = is_reference e t || (is_record_type e t && is_parameter)

-- each pointer type and each object type extends ANY
abbrev pub is_extension : Env → (of t : TypeId) → Bool
is_extension e of t =
    if is_of_any of then is_pointer_type e t || is_object_type e t else extends e.types t of

-- what is of a type may be tested for another one; a type that isn't known may be any
abbrev pub may_test : Env → (is_parameter : Bool) → (of t : Option TypeId) → Bool
may_test e is_parameter None t = true
may_test e is_parameter (Some of) t = has_dynamic_type e is_parameter of && passes (is_extension e of) t
