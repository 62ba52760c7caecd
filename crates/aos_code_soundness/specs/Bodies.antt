-- What is said of the bodies of a program's image, and of its conditions.
use Rattle.std.specs.Prelude.{◌≡◌, ◌≤◌, ℕ, ◌+◌, Some, slice_get}
use Rattle.aos_code.specs.declared.image.Body.{Body}
use Rattle.aos_code.specs.declared.image.Image.{Image}
use Rattle.aos_sound.specs.declared.stand.Role.TheVariants.{Procedure, Condition as ACondition}
use Rattle.aos_sound.specs.Sound.{IsSound}
use Rattle.aos_typed.specs.Program.{Program}
use Rattle.aos_typed.specs.Conditions.{Condition, conditions}
use Rattle.aos_typed.specs.Routines.{Routine, routines}
use Rattle.aos_sim.specs.Need.{body_need, value_need}

-- The program has a routine of this number, counted from 0, and with room for as many operands as its statements need the image's
-- body of this number is sound as a procedure, which are counted from 1.
pub record IsBodySound (p : Program) (image : Image) (k : ℕ) (b : Body) : Type 0 where
  pub routine : Routine
  pub are : slice_get (routines p) k ≡ Some routine
  pub sound : (need : ℕ) → body_need routine.body.statements ≤ need → IsSound image (k + 1) Procedure b.code.items need

-- each body of the image is such a one
abbrev pub AreBodiesSound : Program → Image → Type 0
AreBodiesSound p image = (k : ℕ) (b : Body) → slice_get image.bodies.items k ≡ Some b → IsBodySound p image k b

-- each body of the image is sound as the procedure of its number, with as many operands at most as it says
abbrev pub AreSound : Image → Type 0
AreSound image =
    (k : ℕ) (b : Body) → slice_get image.bodies.items k ≡ Some b → IsSound image (k + 1) Procedure b.code.items b.depth

-- The program has a condition of this number, counted from 0, which is evaluated over the frames of a routine, and with room for as many
-- operands as its expression needs the image's condition of this number is sound as one of that procedure.
pub record IsConditionSound (p : Program) (image : Image) (k : ℕ) (b : Body) : Type 0 where
  pub condition : Condition
  pub is : slice_get (conditions p) k ≡ Some condition
  pub own : ℕ
  pub routine : Routine
  pub are : slice_get (routines p) own ≡ Some routine
  pub over : condition.own ≡ routine.own
  pub sound : (need : ℕ) → value_need condition.expression ≤ need → IsSound image (own + 1) ACondition b.code.items need

-- each condition of the image is such a one
abbrev pub AreConditionsSound : Program → Image → Type 0
AreConditionsSound p image = (k : ℕ) (b : Body) → slice_get image.conds.items k ≡ Some b → IsConditionSound p image k b
