-- Definitions of object types.
use Rattle.aos_tree.specs.declared.decl.TypeExpr.{TypeExpr}
use Rattle.aos_tree.specs.declared.decl.TypeExpr.TheVariants as type

abbrev pub IsObject : TypeExpr → Type 0
IsObject (type.Object' p base shape row body end) = Unit {0}
IsObject t = ⊥
