-- Pointers: a type that is written behind one is a record or an array, where it keeps its own rules; of one that a module declares this
-- is asked later.
use Rattle.std.specs.Prelude.{List, [], ◌∷◌, Bool, true, false, Option, Some, None, is_some, if◌then◌else◌}
use Rattle.aos_base.specs.declared.text.Pos.{Pos}
use Rattle.aos_tree.specs.declared.decl.TypeExpr.{TypeExpr}
use Rattle.aos_tree.specs.declared.decl.TypeExpr.TheVariants as type
use Rattle.aos_types.specs.declared.row.TypeId.{TypeId}
use Rattle.aos_types.specs.declared.row.TypeRow.TheVariants as row
use Rattle.aos_symbols.specs.declared.env.Claim.{Claim}
use Rattle.aos_symbols.specs.declared.env.Claim.TheVariants as claim
use Rattle.aos_symbols.specs.Breaches.{breach}
use Rattle.aos_symbols.specs.Judged.{Judged, judged, kept}
pub use Rattle.aos_made_types.specs.Met.{Met, met, placed, claiming}
use Rattle.aos_made_types.specs.Records.{is_predeclared}
use Rattle.aos_check_types.specs.Places.{type_place}

abbrev pub is_no_target : TypeExpr → Option TypeId → Bool
is_no_target (type.Named q) of = is_predeclared of
is_no_target (type.Array' p lengths shape row) of = false
is_no_target (type.Record' p base shape row) of = false
is_no_target (type.Pointer' p shape row) of = is_some of
is_no_target (type.Proc p flag formals) of = is_some of
is_no_target (type.Object' p base shape row body end) of = true

abbrev pub target_claims : TypeExpr → TypeId → List Claim
target_claims (type.Named q) t = claim.Target q.first.pos t ∷ []
target_claims x t = []

abbrev pub pointer_to : Option TypeId → Pos → TypeExpr → Met → Met
pointer_to slot at x m = to m.of
  where
    to : Option TypeId → Met
    to None = m
    to (Some t) = placed slot at (row.Pointer t) (claiming (target_claims x t) m.env)

-- a pointer, by what is met behind it
abbrev pub pointer_behind : Option TypeId → Pos → TypeExpr → Met → Judged Met
pointer_behind slot at x m =
    if is_no_target x m.of then judged (breach 25 (type_place x)) (met m.env None) else kept (pointer_to slot at x m)
