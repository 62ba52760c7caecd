-- When the image of a program is sound as a whole.
use Rattle.std.specs.Prelude.{◌≡◌, ℕ, ◌+◌, Some, slice_get}
use Rattle.aos_code.specs.declared.image.Body.{Body}
use Rattle.aos_code.specs.declared.image.Image.{Image}
use Rattle.aos_sound.specs.declared.stand.Role.TheVariants.{Condition as ACondition}
use Rattle.aos_sound.specs.Sound.{IsSound}
use Rattle.aos_sound.specs.FitFrames.{IsSoundImage}
use Rattle.aos_typed.specs.Program.{Program}
use Rattle.aos_typed.specs.Conditions.{Condition, conditions}
use Rattle.aos_typed.specs.Routines.{Routine, routines}
use Rattle.aos_code_soundness.specs.Bodies.{AreSound}

-- The program has a condition of this number, counted from 0, which is evaluated over the frames of a routine, and the image's condition
-- of this number is sound as one of that procedure, with as many operands at most as it says.
pub record IsConditionSoundAsSaid (p : Program) (image : Image) (k : ℕ) (b : Body) : Type 0 where
  pub condition : Condition
  pub is : slice_get (conditions p) k ≡ Some condition
  pub own : ℕ
  pub routine : Routine
  pub are : slice_get (routines p) own ≡ Some routine
  pub over : condition.own ≡ routine.own
  pub sound : IsSound image (own + 1) ACondition b.code.items b.depth

-- Each body is sound as the procedure of its number, and each condition as one of the procedure over whose frames it is evaluated, each
-- with as many operands at most as it says; and the procedures that shapes, modules and types name have bodies.
pub record IsSoundImageOf (p : Program) (image : Image) : Type 0 where
  pub whole : IsSoundImage image
  pub bodies : AreSound image
  pub conditions : (k : ℕ) (b : Body) → slice_get image.conds.items k ≡ Some b → IsConditionSoundAsSaid p image k b
