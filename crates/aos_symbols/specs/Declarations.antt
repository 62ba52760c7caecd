-- The names that declarations declare, in the order of the text.
use Rattle.std.specs.Prelude.{List, [], ◌∷◌, ◌++◌, map, Option, Some, None}
use Rattle.std.specs.List.{flat_map}
use Rattle.std.specs.Borrow.{Bor}
use Rattle.aos_base.specs.declared.text.Pos.{Pos}
use Rattle.aos_tree.specs.declared.name.Name.{Name}
use Rattle.aos_tree.specs.declared.decl.Def.{Def}
use Rattle.aos_tree.specs.declared.decl.TypeDef.{TypeDef}
use Rattle.aos_tree.specs.declared.decl.VarDef.{VarDef}
use Rattle.aos_tree.specs.declared.decl.TypeExpr.{TypeExpr}
use Rattle.aos_tree.specs.declared.decl.TypeExpr.TheVariants as type
use Rattle.aos_tree.specs.declared.decl.Formals.{Formals}
use Rattle.aos_tree.specs.declared.decl.Proc.{Proc}
use Rattle.aos_tree.specs.declared.decl.Decl.{Decl, items-the_row-TypeDef, items-the_row-VarDef, items-the_row-Decl}
use Rattle.aos_tree.specs.declared.decl.Decl.TheVariants.{Consts, Types', Vars', Proc'}
use Rattle.aos_tree.specs.declared.stat.Block.{Block}

abbrev pub def_names : List Def → List Name
def_names ds = map (λ d. d.name) ds

-- the constants, the types, the variables and the procedures that a declaration defines
abbrev pub constants_in : Decl → List Def
constants_in (Consts p cs) = map (λ c. c.def) cs
constants_in (Types' p shape row) = []
constants_in (Vars' p shape row) = []
constants_in (Proc' o shape row) = []

abbrev pub types_in : Decl → List TypeDef
types_in (Types' p shape row) = items-the_row-TypeDef _ row
types_in (Consts p cs) = []
types_in (Vars' p shape row) = []
types_in (Proc' o shape row) = []

abbrev pub seen_types : List (Bor TypeDef) → List TypeDef
seen_types ds = map (λ d. d.now) ds

abbrev pub variables_in : Decl → List VarDef
variables_in (Vars' p shape row) = items-the_row-VarDef _ row
variables_in (Consts p cs) = []
variables_in (Types' p shape row) = []
variables_in (Proc' o shape row) = []

abbrev pub procedures_in : Decl → List Def
procedures_in (Proc' o shape row) = o.def ∷ []
procedures_in (Consts p cs) = []
procedures_in (Types' p shape row) = []
procedures_in (Vars' p shape row) = []

abbrev pub constant_defs : List Decl → List Def
constant_defs ds = flat_map constants_in ds

abbrev pub type_defs : List Decl → List TypeDef
type_defs ds = flat_map types_in ds

abbrev pub variable_defs : List Decl → List VarDef
variable_defs ds = flat_map variables_in ds

abbrev pub procedure_defs : List Decl → List Def
procedure_defs ds = flat_map procedures_in ds

-- each variable by itself
abbrev pub singles_in : Decl → List Def
singles_in (Vars' p shape row) = flat_map (λ v. v.defs) (items-the_row-VarDef _ row)
singles_in (Consts p cs) = []
singles_in (Types' p shape row) = []
singles_in (Proc' o shape row) = []

abbrev pub single_variables : List Decl → List Def
single_variables ds = flat_map singles_in ds

-- all names of a declaration, in the order of the text
abbrev pub names_in : Decl → List Name
names_in (Consts p cs) = map (λ c. c.def.name) cs
names_in (Types' p shape row) = map (λ d. d.def.name) (items-the_row-TypeDef _ row)
names_in (Vars' p shape row) = flat_map (λ v. def_names v.defs) (items-the_row-VarDef _ row)
names_in (Proc' o shape row) = o.def.name ∷ []

abbrev pub declared_names : List Decl → List Name
declared_names ds = flat_map names_in ds

-- A procedure: where it stands, the place of `&` where that is before its name, its heading, and what it declares.
pub record Procedure : Type 0 where
  pub at : Pos
  pub initializer : Option Pos
  pub name : Name
  pub formals : Option Formals
  pub decls : List Decl
  pub body : Option Block

abbrev pub procedure_of : Proc → Procedure
procedure_of p =
    record { at = p.outline.pos; initializer = p.outline.initializer; name = p.outline.def.name; formals = p.outline.formals; decls = p.decls; body = p.outline.body }

-- procedures that are borrowed
abbrev pub seen_procedures : List (Bor Proc) → List Procedure
seen_procedures ps = map (λ p. procedure_of p.now) ps

abbrev pub whole_procedures_in : Decl → List Procedure
whole_procedures_in (Proc' o shape row) =
    record { at = o.pos; initializer = o.initializer; name = o.def.name; formals = o.formals; decls = items-the_row-Decl _ row; body = o.body } ∷ []
whole_procedures_in (Consts p cs) = []
whole_procedures_in (Types' p shape row) = []
whole_procedures_in (Vars' p shape row) = []

abbrev pub procedures : List Decl → List Procedure
procedures ds = flat_map whole_procedures_in ds

abbrev pub formal_names : Option Formals → List Name
formal_names None = []
formal_names (Some f) = flat_map (λ s. s.names) f.sections

-- what is declared in an object type
abbrev pub inner_decls : TypeExpr → List Decl
inner_decls (type.Object' p base shape row body end) = items-the_row-Decl _ row
inner_decls (type.Named q) = []
inner_decls (type.Array' p lengths shape row) = []
inner_decls (type.Record' p base shape row) = []
inner_decls (type.Pointer' p shape row) = []
inner_decls (type.Proc p flag formals) = []

-- a module's procedures, and behind them the methods of the object types that its declarations name
abbrev pub methods_in : TypeDef → List Procedure
methods_in d = procedures (inner_decls d.value)

abbrev pub all_procedures : List Decl → List Procedure
all_procedures ds = procedures ds ++ flat_map methods_in (type_defs ds)

-- the types that procedures declare
abbrev pub local_types : List Procedure → List TypeDef
local_types ps = flat_map (λ p. type_defs p.decls) ps

-- the types that object types among these definitions declare
abbrev pub inner_types : List TypeDef → List TypeDef
inner_types ds = flat_map (λ d. type_defs (inner_decls d.value)) ds

-- what is declared within a module's declarations, in the order of the scopes behind the module's own: in each type that it defines, and
-- in each of its procedures and methods
abbrev pub inner_parts : List Decl → List (List Decl)
inner_parts ds = map (λ d. inner_decls d.value) (type_defs ds) ++ map (λ p. p.decls) (all_procedures ds)

-- declarations that are borrowed
abbrev pub seen_parts : List (Bor (List Decl)) → List (List Decl)
seen_parts bs = map (λ b. b.now) bs

-- the types that all of these parts define
abbrev pub types_of : List (List Decl) → List TypeDef
types_of dss = flat_map type_defs dss

-- the types that a module's declarations define: its own, and behind them those that are defined within these
abbrev pub all_type_defs : List Decl → List TypeDef
all_type_defs ds = type_defs ds ++ types_of (inner_parts ds)
