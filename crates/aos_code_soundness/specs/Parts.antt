-- What is said of the code of a part of a routine: of an expression, of a statement, of statements.
use Rattle.std.specs.Prelude.{◌≡◌, ◌≤◌, ℕ, ◌+◌, [], ◌∷◌, length, Some, Vec, slice_get}
use Rattle.std.specs.declared.alloc.Global.{Global}
use Rattle.aos_code.specs.declared.image.Body.{Body}
use Rattle.aos_code.specs.declared.image.Image.{Image}
use Rattle.aos_sound.specs.declared.stand.Role.TheVariants.{Procedure}
use Rattle.aos_sound.specs.Sound.{Kinds}
use Rattle.aos_typed.specs.declared.tree.TType.{TType}
use Rattle.aos_typed.specs.Program.{Expr, Stat, Stats, Program}
use Rattle.aos_typed.specs.Conditions.{conditions, IsLinked, AreLinked}
use Rattle.aos_typed.specs.Routines.{Routine, routines}
use Rattle.aos_typed.specs.WellTyped.{IsOf, IsStatement, AreStatements}
use Rattle.aos_sim.specs.Code.{Ways, kind_of, value_code, stat_code, stats_code}
use Rattle.aos_sim.specs.Need.{value_need, stat_need, stats_need, stat_level, stats_level, keeps_of}
use Rattle.aos_sim.specs.Shows.{IsCode}
use Rattle.aos_code_soundness.specs.Piece.{Anything, At, Piece}

-- The image has a program's shapes, modules and types, and as many conditions; with these bodies and conditions it has its code.
pub record HasTablesOf (p : Program) (image : Image) : Type 0 where
  pub bodies : Vec Body Global
  pub conditions : Vec Body Global
  pub code : IsCode p bodies.items conditions.items image.shapes.items image.modules.items image.types.items
  pub many : length image.conds.items ≡ length conditions.items

-- Wherever it stands in the procedure of this number, with room for as many operands as it needs, the code of a part of the routine is
-- sound but that its paths may leave it at its end: behind an expression what it gives is above the operands that were there, and
-- behind statements there is none. An EXIT that has its LOOP around them leads to the end or to a place behind it, without operands too.
-- The statements keep no more values than the routine does.
pub record ArePartsSoundIn (p : Program) (image : Image) (own : ℕ) (r : Routine) : Type 0 where
  pub value : (e : Expr) (t : TType) → IsOf p r.own e t → (depth at : ℕ) (s : Kinds) → length s + value_need e ≤ depth → Piece image own Procedure depth Anything (value_code p r.own e at) at s (kind_of p.types t ∷ s)
  pub statement : (t : Stat) → IsStatement p r.own t → IsLinked (conditions p) r.home r.own t → (depth at : ℕ) (ways : Ways) (level : ℕ) → at + length (stat_code p r.own t at ways level) ≤ ways.exit → stat_level t level ≤ keeps_of r.body.statements → stat_need t ≤ depth → Piece image own Procedure depth (At ways.exit []) (stat_code p r.own t at ways level) at [] []
  pub statements : (ss : Stats) → AreStatements p r.own ss → AreLinked (conditions p) r.home r.own ss → (depth at : ℕ) (ways : Ways) (level : ℕ) → at + length (stats_code p r.own ss at ways level) ≤ ways.exit → stats_level ss level ≤ keeps_of r.body.statements → stats_need ss ≤ depth → Piece image own Procedure depth (At ways.exit []) (stats_code p r.own ss at ways level) at [] []

-- those of each routine are
abbrev pub ArePartsSound : Program → Image → Type 0
ArePartsSound p image = (k : ℕ) (r : Routine) → slice_get (routines p) k ≡ Some r → ArePartsSoundIn p image (k + 1) r
