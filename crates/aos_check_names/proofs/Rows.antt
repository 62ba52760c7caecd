-- What stands in a row of a tree, read as a list.
use Rattle.std.proofs.Common.{◌≡◌, ℕ, refl, ap, ◌∙◌, List, ◌++◌, Option, Some, None, append-nil}
use denote.Hole.Carrier.{hidden}
use Rattle.std.specs.List.{flat_map}
use Rattle.aos_base.specs.declared.text.Pos.{Pos}
use Rattle.aos_tree.specs.declared.name.Name.{Name}
use Rattle.aos_tree.specs.declared.name.Qualident.{Qualident}
use Rattle.aos_tree.specs.declared.stat.Block.{Block}
use Rattle.aos_tree.specs.declared.expr.Expr.{Expr}
use Rattle.aos_tree.specs.declared.decl.TypeDef.{TypeDef}
use Rattle.aos_tree.specs.declared.decl.VarDef.{VarDef}
use Rattle.aos_tree.specs.declared.decl.Proc.{Proc}
use Rattle.aos_tree.specs.declared.decl.Fields.{Fields}
use Rattle.aos_tree.specs.declared.decl.Decl.{Decl, Row_of-TypeDef, end_of-TypeDef, more_of-TypeDef, items-the_row-TypeDef, items_hidden-the_row-TypeDef-0, Row_of-VarDef, end_of-VarDef, more_of-VarDef, items-the_row-VarDef, items_hidden-the_row-VarDef-1, Row_of-Decl, end_of-Decl, more_of-Decl, items-the_row-Decl, items_hidden-the_row-Decl-2}
use Rattle.aos_tree.specs.declared.decl.Decl.TheVariants as decl
use Rattle.aos_tree.specs.declared.decl.Decl.TheBlock.{hidden-the_row-TypeDef-0, hidden-the_row-VarDef-1, hidden-the_row-Decl-2, hidden-the_row-TypeExpr-3, shape-the_row-TypeExpr-3, hidden-the_row-Fields-4}
use Rattle.aos_tree.specs.declared.decl.TypeExpr.{TypeExpr, Row_of-Fields, end_of-Fields, more_of-Fields, items-the_row-Fields, items_hidden-the_row-Fields-4}
use Rattle.aos_tree.specs.declared.decl.TypeExpr.TheVariants as type
use Rattle.aos_check_names.specs.Names.{within_decl, within_decls, within_type, within_types, within_variables, within_field, within_fields, within_held, other_end, object_end, twice, field_names}
use Rattle.aos_symbols.specs.Declarations.{declared_names, formal_names}

module _ (text : List ℕ) where
  decls_row : (n : _) (r : Row_of-Decl n) → within_decls text r ≡ flat_map (within_decl text) (items-the_row-Decl n r)
  decls_row _ end_of-Decl = refl
  decls_row _ (more_of-Decl d ds) = ap (λ z. within_decl text d ++ z) (decls_row _ ds)

  types_row : (n : _) (r : Row_of-TypeDef n) → within_types text r ≡ flat_map (λ d. within_type text (Some d.def.name) d.value) (items-the_row-TypeDef n r)
  types_row _ end_of-TypeDef = refl
  types_row _ (more_of-TypeDef d of ds) = ap (λ z. within_type text (Some d.name) of ++ z) (types_row _ ds)

  variables_row : (n : _) (r : Row_of-VarDef n) → within_variables text r ≡ flat_map (λ v. within_type text None v.of) (items-the_row-VarDef n r)
  variables_row _ end_of-VarDef = refl
  variables_row _ (more_of-VarDef d of ds) = ap (λ z. within_type text None of ++ z) (variables_row _ ds)

  fields_row : (n : _) (r : Row_of-Fields n) → within_fields text r ≡ flat_map (within_field text) (items-the_row-Fields n r)
  fields_row _ end_of-Fields = refl
  fields_row _ (more_of-Fields f fs) = ap (λ z. within_field text f ++ z) (fields_row _ fs)

  held : (t : TypeExpr) → within_held text (hidden-the_row-TypeExpr-3 t) ≡ within_type text None t
  unfolding hidden-the_row-TypeExpr-3 shape-the_row-TypeExpr-3 hidden
  held t = append-nil (within_type text None t)

  pub within_decl_types : (p : Pos) (defs : List TypeDef) →
      within_decl text (decl.Types p defs) ≡ flat_map (λ d. within_type text (Some d.def.name) d.value) defs
  within_decl_types p defs =
      types_row _ (hidden-the_row-TypeDef-0 defs) ∙ ap (λ z. flat_map (λ d. within_type text (Some d.def.name) d.value) z) (items_hidden-the_row-TypeDef-0 defs)

  pub within_decl_vars : (p : Pos) (defs : List VarDef) →
      within_decl text (decl.Vars p defs) ≡ flat_map (λ v. within_type text None v.of) defs
  within_decl_vars p defs =
      variables_row _ (hidden-the_row-VarDef-1 defs) ∙ ap (λ z. flat_map (λ v. within_type text None v.of) z) (items_hidden-the_row-VarDef-1 defs)

  pub within_decl_proc : (a : Proc) → within_decl text (decl.Proc a) ≡
      other_end text a.outline.def.name a.outline.end ++ twice text (formal_names a.outline.formals ++ declared_names a.decls) ++ flat_map (within_decl text) a.decls
  within_decl_proc a =
      ap (λ z. other_end text a.outline.def.name a.outline.end ++ twice text (formal_names a.outline.formals ++ declared_names (items-the_row-Decl _ (hidden-the_row-Decl-2 a.decls))) ++ z) (decls_row _ (hidden-the_row-Decl-2 a.decls))
      ∙ ap (λ z. other_end text a.outline.def.name a.outline.end ++ twice text (formal_names a.outline.formals ++ declared_names z) ++ flat_map (within_decl text) z) (items_hidden-the_row-Decl-2 a.decls)

  pub within_type_array : (name : Option Name) (p : Pos) (ls : List Expr) (t : TypeExpr) →
      within_type text name (type.Array p ls t) ≡ within_type text None t
  within_type_array name p ls t = held t

  pub within_type_pointer : (name : Option Name) (p : Pos) (t : TypeExpr) → within_type text name (type.Pointer p t) ≡ within_type text None t
  within_type_pointer name p t = held t

  pub within_type_record : (name : Option Name) (p : Pos) (base : Option Qualident) (fs : List Fields) →
      within_type text name (type.Record p base fs) ≡ twice text (flat_map field_names fs) ++ flat_map (within_field text) fs
  within_type_record name p base fs =
      ap (λ z. twice text (flat_map field_names (items-the_row-Fields _ (hidden-the_row-Fields-4 fs))) ++ z) (fields_row _ (hidden-the_row-Fields-4 fs))
      ∙ ap (λ z. twice text (flat_map field_names z) ++ flat_map (within_field text) z) (items_hidden-the_row-Fields-4 fs)

  pub within_type_object : (name : Option Name) (p : Pos) (base : Option Qualident) (ds : List Decl) (body : Option Block) (end : Option Name) →
      within_type text name (type.Object p base ds body end)
      ≡ twice text (declared_names ds) ++ flat_map (within_decl text) ds ++ object_end text name end
  within_type_object name p base ds body end =
      ap (λ z. twice text (declared_names (items-the_row-Decl _ (hidden-the_row-Decl-2 ds))) ++ z ++ object_end text name end) (decls_row _ (hidden-the_row-Decl-2 ds))
      ∙ ap (λ z. twice text (declared_names z) ++ flat_map (within_decl text) z ++ object_end text name end) (items_hidden-the_row-Decl-2 ds)
