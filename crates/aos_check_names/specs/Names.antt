-- The first pass: rules 12 and 13, over the whole tree (Active Oberon Language Report, Reali 2002, section on declarations
-- and scope rules).
use Rattle.std.specs.Prelude.{ℕ, List, [], ◌∷◌, ◌++◌, codes, map, ◌||◌, not, Option, Some, None}
use Rattle.std.specs.List.{flat_map, list_any}
use Rattle.aos_tree.specs.declared.name.Name.{Name}
use Rattle.aos_tree.specs.declared.decl.Decl.{Decl, Row_of-TypeDef, end_of-TypeDef, more_of-TypeDef, Row_of-VarDef, end_of-VarDef, more_of-VarDef, Row_of-Decl, end_of-Decl, more_of-Decl, items-the_row-Decl}
use Rattle.aos_tree.specs.declared.decl.Decl.TheVariants as decl
use Rattle.aos_tree.specs.declared.decl.TypeExpr.{TypeExpr, Row_of-TypeExpr, end_of-TypeExpr, more_of-TypeExpr, Row_of-Fields, end_of-Fields, more_of-Fields, items-the_row-Fields}
use Rattle.aos_tree.specs.declared.decl.TypeExpr.TheVariants as type
use Rattle.aos_tree.specs.declared.decl.Fields.{Fields}
use Rattle.aos_tree.specs.declared.decl.Fields.TheVariants as fields
use Rattle.aos_tree.specs.declared.module.Module.{Module}
use Rattle.aos_symbols.specs.declared.breach.Breach.{Breach}
use Rattle.aos_symbols.specs.Breaches.{breach, breach_unless}
use Rattle.aos_symbols.specs.Spelling.{is_word, are_same}
use Rattle.aos_symbols.specs.Declarations.{def_names, declared_names, formal_names}

abbrev pub field_names : Fields → List Name
field_names fields.Empty = []
field_names (fields.Of' defs of) = def_names defs

-- the names of a module's own scope: its imports and what it declares
abbrev pub module_names : Module → List Name
module_names m = map (λ i. i.name) m.imports ++ declared_names m.decls

module _ (text : List ℕ) where
  -- rule 13 at a name, where these stand before it in its scope
  abbrev pub declared_again : List Name → Name → List Breach
  declared_again before n = breach_unless (not (is_word text (codes "SELF") n || list_any (are_same text n) before)) 13 n.pos

  abbrev pub twice_after : List Name → List Name → List Breach
  twice_after before [] = []
  twice_after before (n ∷ ns) = declared_again before n ++ twice_after (before ++ n ∷ []) ns

  -- rule 13 in one scope
  abbrev pub twice : List Name → List Breach
  twice ns = twice_after [] ns

  -- rule 12 at an end name
  abbrev pub other_end : Name → Name → List Breach
  other_end name end = breach_unless (are_same text name end) 12 end.pos

  -- an object may end without its name, and must where it has none
  abbrev pub object_end : Option Name → Option Name → List Breach
  object_end name None = []
  object_end (Some name) (Some end) = other_end name end
  object_end None (Some end) = breach 12 end.pos

  -- the scopes within declarations and types; a type that a declaration names has a name
  abbrev mutual
    pub within_decl : Decl → List Breach
    within_decl (decl.Consts p cs) = []
    within_decl (decl.Types' p shape row) = within_types row
    within_decl (decl.Vars' p shape row) = within_variables row
    within_decl (decl.Proc' o shape row) =
        other_end o.def.name o.end ++ twice (formal_names o.formals ++ declared_names (items-the_row-Decl _ row)) ++ within_decls row

    pub within_decls : {m : _} → Row_of-Decl m → List Breach
    within_decls end_of-Decl = []
    within_decls (more_of-Decl d ds) = within_decl d ++ within_decls ds

    pub within_types : {m : _} → Row_of-TypeDef m → List Breach
    within_types end_of-TypeDef = []
    within_types (more_of-TypeDef def of ds) = within_type (Some def.name) of ++ within_types ds

    pub within_variables : {m : _} → Row_of-VarDef m → List Breach
    within_variables end_of-VarDef = []
    within_variables (more_of-VarDef defs of ds) = within_type None of ++ within_variables ds

    pub within_type : Option Name → TypeExpr → List Breach
    within_type name (type.Named q) = []
    within_type name (type.Array' p lengths shape row) = within_held row
    within_type name (type.Record' p base shape row) = twice (flat_map field_names (items-the_row-Fields _ row)) ++ within_fields row
    within_type name (type.Pointer' p shape row) = within_held row
    within_type name (type.Proc p flag formals) = twice (formal_names formals)
    within_type name (type.Object' p base shape row body end) =
        twice (declared_names (items-the_row-Decl _ row)) ++ within_decls row ++ object_end name end

    -- the type that an array or a pointer leads to
    pub within_held : {m : _} → Row_of-TypeExpr m → List Breach
    within_held end_of-TypeExpr = []
    within_held (more_of-TypeExpr t ts) = within_type None t ++ within_held ts

    pub within_fields : {m : _} → Row_of-Fields m → List Breach
    within_fields end_of-Fields = []
    within_fields (more_of-Fields f fs) = within_field f ++ within_fields fs

    pub within_field : Fields → List Breach
    within_field fields.Empty = []
    within_field (fields.Of' defs of) = within_type None of

  -- the module's own name is in no scope, but isn't SELF
  abbrev pub name_breaches : Module → List Breach
  name_breaches m =
      declared_again [] m.name ++ twice (module_names m) ++ flat_map within_decl m.decls ++ other_end m.name m.end
