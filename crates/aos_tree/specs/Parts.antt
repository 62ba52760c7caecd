-- Declarations and types, put together of their parts.
use Rattle.aos_tree.specs.declared.decl.Decl.{Decl}
use Rattle.aos_tree.specs.declared.decl.Decl.TheVariants as decl
use Rattle.aos_tree.specs.declared.decl.DeclParts.{DeclParts}
use Rattle.aos_tree.specs.declared.decl.DeclParts.TheVariants as decl_parts
use Rattle.aos_tree.specs.declared.decl.TypeExpr.{TypeExpr}
use Rattle.aos_tree.specs.declared.decl.TypeExpr.TheVariants as type
use Rattle.aos_tree.specs.declared.decl.TypeParts.{TypeParts}
use Rattle.aos_tree.specs.declared.decl.TypeParts.TheVariants as type_parts

abbrev pub decl_of : DeclParts → Decl
decl_of (decl_parts.Consts p defs) = decl.Consts p defs
decl_of (decl_parts.Types p defs) = decl.Types p defs
decl_of (decl_parts.Vars p defs) = decl.Vars p defs
decl_of (decl_parts.Proc a) = decl.Proc a

abbrev pub type_of : TypeParts → TypeExpr
type_of (type_parts.Named q) = type.Named q
type_of (type_parts.Array p lengths t) = type.Array p lengths t
type_of (type_parts.Record p base fields) = type.Record p base fields
type_of (type_parts.Pointer p t) = type.Pointer p t
type_of (type_parts.Proc p flag formals) = type.Proc p flag formals
type_of (type_parts.Object p base decls body end) = type.Object p base decls body end
