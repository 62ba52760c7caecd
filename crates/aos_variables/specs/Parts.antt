-- What the typed program has of names, fields, variables and parameters.
use Rattle.std.specs.Prelude.{ℕ, suc, List, [], length, map, Option, Some, None, if◌then◌else◌}
use Rattle.std.specs.List.{flat_map}
use Rattle.std.specs.Str.Lossy.{utf8_lossy}
use Rattle.aos_tree.specs.declared.name.Name.{Name}
use Rattle.aos_tree.specs.declared.decl.Decl.{items-the_row-Decl}
use Rattle.aos_tree.specs.declared.decl.Def.{Def}
use Rattle.aos_tree.specs.declared.decl.Fields.{Fields}
use Rattle.aos_tree.specs.declared.decl.Fields.TheVariants as fields
use Rattle.aos_tree.specs.declared.decl.TypeExpr.{TypeExpr, items-the_row-Fields}
use Rattle.aos_tree.specs.declared.decl.TypeExpr.TheVariants as type
use Rattle.aos_tree.specs.declared.module.Module.{Module as Tree}
use Rattle.aos_types.specs.declared.row.TypeId.{TypeId}
use Rattle.aos_typed.specs.declared.tree.TType.{TType}
use Rattle.aos_typed.specs.Program.{Variable, Parameter}
use Rattle.aos_types.specs.declared.signature.Parameter.{Parameter as Formal}
use Rattle.aos_types.specs.declared.signature.Gives.{Gives}
use Rattle.aos_types.specs.declared.signature.Gives.TheVariants as gives
use Rattle.aos_symbols.specs.Spelling.{word}
use Rattle.aos_symbols.specs.Declarations.{type_defs, single_variables}
use Rattle.aos_symbols.specs.Scope.{Scope}
use Rattle.aos_known.specs.Known.{type_of}
use Rattle.aos_unnamed.specs.Unnamed.{is_given}

-- a name as the typed program has it: none where it was given, else its bytes, which are those of ASCII letters, digits and _
abbrev pub shown : List ℕ → List ℕ
shown word = if is_given word then [] else word

abbrev pub spelling : List ℕ → Name → List ℕ
spelling text n = utf8_lossy (shown (word text n))

-- The fields that a type declares itself, in the order of the text, and their names.

abbrev pub defs_in : Fields → List Def
defs_in fields.Empty = []
defs_in (fields.Of' defs of) = defs

abbrev pub field_defs : TypeExpr → List Def
field_defs (type.Record' p base shape row) = flat_map defs_in (items-the_row-Fields _ row)
field_defs (type.Object' p base shape row body end) = single_variables (items-the_row-Decl _ row)
field_defs t = []

abbrev pub def_spelling : List ℕ → Def → List ℕ
def_spelling text d = spelling text d.name

abbrev pub field_spellings : List ℕ → TypeExpr → List (List ℕ)
field_spellings text t = map (def_spelling text) (field_defs t)

-- Variables, parameters and results, by their types.

abbrev pub variables_of : Option Scope → List (Option TypeId)
variables_of None = []
variables_of (Some s) = s.variables

abbrev pub variable_of : List ℕ → Def × Option TypeId → Variable
variable_of text p = record { name = spelling text p.0.name; of = type_of p.1 }

abbrev pub parameter_of : List ℕ → Name × Formal → Parameter
parameter_of text p = record { name = spelling text p.0; by_reference = p.1.by_reference; of = type_of p.1.of }

abbrev pub result_of : Gives → Option TType
result_of gives.Nothing = None
result_of (gives.Value of) = Some (type_of of)

-- the scope of a module's first procedure
abbrev pub first_scope : Tree → ℕ
first_scope m = suc (length (type_defs m.decls))
