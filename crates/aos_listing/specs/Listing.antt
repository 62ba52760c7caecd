-- How a program is laid out, line by line: the modules in load order, and of each its variables, its types with their fields and
-- methods, and its procedures with the methods of its types, each of these in the order of the text.
use Rattle.std.specs.Prelude.{ℕ, suc, ◌+◌, ◌*◌, nat_le, Bool, true, false, if◌then◌else◌, List, [], ◌∷◌, ◌++◌, map, codes, Option, Some, None}
use Rattle.std.specs.List.{flat_map, zip}
use Rattle.aos_base.specs.declared.text.Pos.{Pos}
use Rattle.aos_types.specs.declared.row.TypeId.{TypeId}
use Rattle.aos_types.specs.declared.row.TypeRow.{TypeRow}
use Rattle.aos_types.specs.declared.row.TypeRow.TheVariants as row
use Rattle.aos_types.specs.Table.{row_of}
use Rattle.aos_types.specs.Contents.{scalars}
use Rattle.aos_types.specs.Shape.{Shape, size, row as row_of_shapes}
use Rattle.aos_code.specs.declared.instr.Kind.{Kind}
use Rattle.aos_code.specs.Lines.{Line}
use Rattle.aos_typed.specs.declared.tree.TType.TheVariants.{Named}
use Rattle.aos_typed.specs.Numbers.{id_of}
use Rattle.aos_typed.specs.Program.{Variable, Procedure, Method, ObjectType, Module, Program}
use Rattle.aos_layout.specs.Layout.{cells, variable_cells}
use Rattle.aos_layout.specs.Frame.{frame}
use Rattle.aos_layout.specs.TypeParts.{front}

abbrev pub line : (word : ℕ) → (name : List ℕ) → (at cells : ℕ) → Line
line word name at cells = record { word = word; name = name; at = at; cells = cells }

-- Variables and fields.

-- a name, and the cells of what has it
abbrev pub Part : Type 0
Part = List ℕ × Shape Kind

-- one behind the other, of which the first begins at this cell
abbrev pub part_lines : (word at : ℕ) → List Part → List Line
part_lines word at [] = []
part_lines word at (p ∷ ps) = line word p.0 at (size p.1) ∷ part_lines word (at + size p.1) ps

abbrev pub variable_part : List TypeRow → Variable → Part
variable_part rows v = (v.name, cells rows (id_of v.of))

-- Modules.

abbrev pub module_lines : List TypeRow → Module → List Line
module_lines rows m =
    line 0 m.name 0 (size (row_of_shapes (variable_cells rows m.variables))) ∷ part_lines 1 0 (map (variable_part rows) m.variables)

-- Types: records and object types that have a name.

-- the types of the fields that a type declares itself
abbrev pub own_fields : Option TypeRow → Option (List TypeId)
own_fields (Some (row.Record base ts)) = Some ts
own_fields (Some (row.Object base ts)) = Some ts
own_fields _ = None

-- they begin behind those of its base
abbrev pub field_lines : List TypeRow → TypeId → (names : List (List ℕ)) → List TypeId → List Line
field_lines rows t names ts = part_lines 3 (size (front rows t)) (zip names (map (cells rows) ts))

abbrev pub method_line : Method → Line
method_line m = line 4 m.procedure.name m.slot 0

abbrev pub fielded_lines : List TypeRow → TypeId → ObjectType → Option (List TypeId) → List Line
fielded_lines rows t o None = []
fielded_lines rows t o (Some ts) = line 2 o.name 0 (scalars rows t) ∷ (field_lines rows t o.fields ts ++ map method_line o.methods)

abbrev pub is_named : List ℕ → Bool
is_named [] = false
is_named (c ∷ cs) = true

-- what stands beside the type with this number in the program
abbrev pub type_lines : List TypeRow → (type : ℕ) → ObjectType → List Line
type_lines rows k o =
    let t = id_of (Named k) in
    if is_named o.name then fielded_lines rows t o (own_fields (row_of rows t)) else []

-- Procedures and methods.

abbrev pub procedure_line : List TypeRow → (name : List ℕ) → Procedure → Line
procedure_line rows name q = line 5 name 0 (size (frame rows q))

-- a method's name has that of its type before it, which may have none
abbrev pub method_name : (type method : List ℕ) → List ℕ
method_name o q = o ++ codes "." ++ q

-- All of a program.

-- what lines are of: a module, by its number; what stands beside a type, by the type's number; a procedure, by its module's number; and a
-- method, with what stands beside its type
pub data Entry : Type 0 where
  OfModule : (number : ℕ) → Module → Entry
  OfType : (number : ℕ) → ObjectType → Entry
  OfProcedure : (home : ℕ) → Procedure → Entry
  OfMethod : ObjectType → Procedure → Entry

abbrev pub entry_lines : List TypeRow → Entry → List Line
entry_lines rows (OfModule n m) = module_lines rows m
entry_lines rows (OfType k o) = type_lines rows k o
entry_lines rows (OfProcedure n q) = procedure_line rows q.name q ∷ []
entry_lines rows (OfMethod o q) = procedure_line rows (method_name o.name q.name) q ∷ []

-- what a module has, and a type
abbrev pub module_entries : (number : ℕ) → Module → List Entry
module_entries n m = OfModule n m ∷ map (OfProcedure n) m.procedures

abbrev pub type_entries : (number : ℕ) → ObjectType → List Entry
type_entries k o = OfType k o ∷ map (λ m. OfMethod o m.procedure) o.methods

-- what each has, by its number, of which the first is this one
abbrev pub numbered : {A : Type 0} → (ℕ → A → List Entry) → ℕ → List A → List Entry
numbered f k [] = []
numbered f k (x ∷ xs) = f k x ++ numbered f (suc k) xs

abbrev pub entries : Program → List Entry
entries p = numbered module_entries 0 p.modules ++ numbered type_entries 0 p.objects

-- where lines stand: in one of a module's three groups, and there by the line and the column of a name, each of which has 32 bits
abbrev pub place : (home group : ℕ) → Pos → ℕ
place home group at = ((home * 4 + group) * 4294967296 + at.line) * 4294967296 + at.col

abbrev pub place_of : Entry → ℕ
place_of (OfModule n m) = place n 0 (record { line = 0; col = 0 })
place_of (OfType k o) = place o.home 1 o.at
place_of (OfProcedure n q) = place n 2 q.at
place_of (OfMethod o q) = place o.home 2 q.at

-- in the order of a number that each has; of equal ones the first comes first
abbrev pub put_by : {X : Type 0} → (X → ℕ) → X → List X → List X
put_by key x [] = x ∷ []
put_by key x (y ∷ ys) = if nat_le (key x) (key y) then x ∷ y ∷ ys else y ∷ put_by key x ys

abbrev pub in_order : {X : Type 0} → (X → ℕ) → List X → List X
in_order key [] = []
in_order key (x ∷ xs) = put_by key x (in_order key xs)

abbrev pub listing : Program → List Line
listing p = flat_map (entry_lines p.types) (in_order place_of (entries p))
