-- Places of types that are written.
use Rattle.aos_base.specs.declared.text.Pos.{Pos}
use Rattle.aos_tree.specs.declared.decl.TypeExpr.{TypeExpr}
use Rattle.aos_tree.specs.declared.decl.TypeExpr.TheVariants as type

-- where a type begins
abbrev pub type_place : TypeExpr → Pos
type_place (type.Named q) = q.first.pos
type_place (type.Array' p lengths shape row) = p
type_place (type.Record' p base shape row) = p
type_place (type.Pointer' p shape row) = p
type_place (type.Proc p flag formals) = p
type_place (type.Object' p base shape row body end) = p
